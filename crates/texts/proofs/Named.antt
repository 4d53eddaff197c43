-- Laws that the papers name and that no proof here needs any more.
use Prim.Native.Nat.{ℕ, ◌+◌, ◌-◌, ◌≤◌, ◌<◌}
use mathlib.Core.Path.{◌≡◌}
use mathlib.Core.List.{List}
use borrow.Author.Tests.{lt-ltb}
use lib.ListN.{length}
use Rattle.words.proofs.Laws.{first-low}
use Rattle.texts.specs.Text.{hex_digit, line_feed, piece_end}

-- ---- hex digits
pub digit_low : (d : ℕ) → d < 10 → 48 + d ≡ hex_digit d
digit_low d h = rw (lt-ltb d 10 h)

-- ---- a piece ends no earlier than it starts
pub end_low : (input : List ℕ) (start end : ℕ) → end ≡ piece_end input start → start ≤ end
end_low input start end e = rw e (first-low line_feed input start (length input - start))
