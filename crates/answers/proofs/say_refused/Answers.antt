-- `say_refused` says the refusal's text: one text after another. Assumes nothing.
use Rattle.texts.proofs.Laws.{says-then}
use Rattle.answers.proofs.say_refused.Goals as goal

pub returns : goal.returns
returns c = says-then _ _ (says-then _ _ c.say.ensures (rw c.number.ensures at c.say_number.ensures)) c.say-2.ensures
