-- `say_byte` leaves what `said` says of a byte, escaped: one that prints as it is by one store. Assumes nothing.
use mathlib.Core.Path.{refl, sym, ◌∙◌}
use Rattle.texts.proofs.Laws.{byte-stored, byte-dropped}
use Rattle.texts.proofs.Page.say_byte.Goals as goal

pub returns-then-self : goal.returns-then-self
returns-then-self c = record { same_buffer = refl; said = byte-stored _ _ _ (sym c.prints_as_is.ensures ∙ c.if-not-prints_as_is.false) c.if-self.true }

pub returns-else-self : goal.returns-else-self
returns-else-self c = record { same_buffer = refl; said = byte-dropped _ _ _ (sym c.prints_as_is.ensures ∙ c.if-not-prints_as_is.false) c.if-self.false }
