-- A piece fed to a line: what the line has then, where it ended, and when two answers of the code are one.
use Prim.Native.Nat.{ℕ, ◌+◌, ◌-◌, min, ◌≤◌}
use mathlib.Core.Path.{◌≡◌, refl, sym, ◌∙◌}
use mathlib.Core.Bool.{Bool, true, false}
use mathlib.Core.List.{List, ◌++◌}
use native.Mathlib.Omega.{arith}
use borrow.Author.Tests.{ltb-true, ltb-false}
use Rattle.std.specs.Prelude.{Option, Some, None}
use lib.ListN.{length, get_or, take, length-take}
use lib.Seq.{length-take-le, take-append-add}
use Rattle.words.specs.Words.{put}
use Rattle.words.proofs.Laws.{first-high, clash}
use Rattle.words.proofs.Promises.{first-there}
use Rattle.texts.specs.Text.{Said, saying, said, line_feed, piece_end, fed, feed, fed_answer}
use Rattle.texts.proofs.Laws.{put-cut, put_front, fed-parts}

-- ---- a line has what it had and the piece, as far as they fit
pub fit-front : (line : List ℕ) (have : ℕ) (piece : List ℕ) (has : ℕ) (out : List ℕ) → have ≤ length line → saying has out ≡ said line have piece
    → take has out ≡ take (length line) (take have line ++ piece)
unfolding said
fit-front line have piece has out h e =
    let m : has ≡ min (have + length piece) (length line) = cc in
    let p : out ≡ put line have piece = cc in
    let l = length-take (length line - have) piece in
    let n : has ≡ have + length (take (length line - have) piece) = omega arith in
    let k : length (take have line) + (length line - have) ≡ length line = rw (length-take-le have line h) (omega arith) in
    rw (p, ← (put-cut line have piece (length line - have) (omega arith)), n) (put_front line have (take (length line - have) piece) (omega arith)
    ∙ sym (take-append-add (take have line) piece (length line - have)) ∙ rw k)

-- ---- an ended line ended at a line feed, another at the input's end
module _ (input : List ℕ) (from : ℕ) (line : List ℕ) (have has next : ℕ) (ended : Bool) (out : List ℕ) (e : fed (saying has out) next ended ≡ feed input from line have) where
  pub line-ended : ended ≡ true → get_or input (piece_end input from) 0 ≡ line_feed
  line-ended y =
      first-there line_feed input from (length input - from)
      (omega (arith, ltb-true (piece_end input from) (length input) (sym (fed-parts input from line have e).2 ∙ y)))

  pub input-ended : from ≤ length input → ended ≡ false → piece_end input from ≡ length input
  input-ended f n =
      omega (
        arith,
        first-high line_feed input from (length input - from),
        ltb-false (piece_end input from) (length input) (sym (fed-parts input from line have e).2 ∙ n),
      )

-- ---- two answers that say the same are one
pub same-answer : (input : List ℕ) (line held : Said) (r s : Option ℕ) → fed_answer input line r ≡ fed_answer input held s → r ≡ s
same-answer input line held (Some n) (Some k) e = cc
same-answer input line held (Some n) None e = clash cc
same-answer input line held None (Some k) e = clash cc
same-answer input line held None None e = refl

-- the lines of two such answers are one, too
pub same-line : (input : List ℕ) (line held : Said) (r s : Option ℕ) → fed_answer input line r ≡ fed_answer input held s → line ≡ held
same-line input line held (Some n) (Some k) e = cc
same-line input line held (Some n) None e = clash cc
same-line input line held None (Some k) e = clash cc
same-line input line held None None e = cc
