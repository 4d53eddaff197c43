-- `say` leaves what `said` says. Assumes nothing.
use mathlib.Core.Path.{refl}
use Rattle.texts.proofs.Laws.{say-says}
use Rattle.texts.proofs.Page.say.Goals as goal

pub returns : goal.returns
returns c = record { same_buffer = refl; said = say-says _ _ _ _ _ _ c.min-start.ensures c.min-kept.ensures c.copy.ensures }
