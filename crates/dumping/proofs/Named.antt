-- Laws that the papers name and that no proof here needs any more.
use Prim.Native.Nat.{ℕ, ◌≤◌}
use mathlib.Core.Path.{◌≡◌}
use mathlib.Core.List.{List}
use lib.ListN.{length, drop, drop_of_length-le}
use Rattle.texts.specs.Text.{saying, said}
use Rattle.texts.proofs.Laws.{said-none}
use Rattle.dumping.specs.Dump.{entry_lines}

-- ---- the dump's lines: none left
module _ (area offsets out : List ℕ) (next taken : ℕ) where
  pub lines_end : length offsets ≤ taken → next ≤ length out → saying next out ≡ said out next (entry_lines area (drop taken offsets))
  unfolding entry_lines
  lines_end h k = rw (drop_of_length-le offsets {i = taken} h) (said-none out next k)
