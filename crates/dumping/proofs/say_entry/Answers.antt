-- `say_entry` says the entry's line: one text after another. Assumes nothing.
use Rattle.dumping.specs.Dump.{entry_line}
use Rattle.texts.proofs.Laws.{says-then}
use Rattle.dumping.proofs.say_entry.Goals as goal

pub returns : goal.returns
unfolding entry_line
returns c =
    let named = rw c.name_bytes.ensures at c.say_escaped.ensures in
    let valued = rw c.value_bytes.ensures at c.say_escaped-2.ensures in
    says-then _ _ (says-then _ _ (says-then _ _ (says-then _ _ c.say.ensures named) c.say-2.ensures) valued) c.say-3.ensures
