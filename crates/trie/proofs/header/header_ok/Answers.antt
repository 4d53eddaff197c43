-- `header_ok` compares the magic as an array. Assumes nothing.
use mathlib.Core.Bool.{true, false}
use Rattle.trie.proofs.HeaderLaws.{header-told}
use Rattle.trie.proofs.header.header_ok.Goals as goal

pub returns-then-ne : goal.returns-then-ne
returns-then-ne c = header-told _ c.if-area-lt-AREA_MIN.false c.if-area-gt-AREA_MAX.false true c.if-ne.ensures

pub returns : goal.returns
returns c = rw c.word.ensures (header-told _ c.if-area-lt-AREA_MIN.false c.if-area-gt-AREA_MAX.false false c.if-ne.ensures)
