-- `say_head` says the dump's first line: one text after another. Assumes nothing.
use Rattle.texts.proofs.Laws.{says-then}
use Rattle.dumping.proofs.say_head.Goals as goal

pub returns : goal.returns
returns c =
    let marked = rw c.word_or_zero-used.ensures at c.say_number-2.ensures in
    says-then _ _ (says-then _ _ (says-then _ _ (says-then _ _ c.say.ensures c.say_number.ensures) c.say-2.ensures) marked) c.say-3.ensures
