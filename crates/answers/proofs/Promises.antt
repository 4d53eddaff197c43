-- What the answers promise: the lookup prints what the history speaks of; no second outcome, of the answer, the turn and the end, the lent bytes with them.
-- All is proved here, in a line or two.
use Prim.Native.Nat.{ℕ, ◌≤◌}
use mathlib.Core.Path.{◌≡◌, sym, ◌∙◌}
use mathlib.Core.Bool.{true}
use mathlib.Core.List.{List}
use borrow.Author.Tests.{le-leb}
use lib.ListN.{length}
use Rattle.property_area.specs.Lookup.{shown}
use Rattle.texts.specs.Text.{saying, said}
use Rattle.texts.proofs.Promises.{one-said}
use Rattle.answers.specs.Answers.{name_max, file_ok, ask_steps, answer_line, answer_text}
use Rattle.answers.specs.Lines.{turned, turn_steps, end_steps}

-- ---- in a file of an area's header, a name that is not too long gets the line of what a lookup shows
pub answer-shows : (area name : List ℕ) → file_ok area ≡ true → length name ≤ name_max → answer_text area name ≡ answer_line (shown area name)
unfolding answer_text ask_steps shown
answer-shows area name ok few = rw (ok, le-leb (length name) name_max few)

-- ---- no second outcome of an answer, nor of a turn, nor of the end
pub one_answer : (area name out : List ℕ) (at r s : ℕ) (a b : List ℕ) → saying r a ≡ said out at (answer_text area name) → saying s b ≡ said out at (answer_text area name)
    → (r ≡ s) × (a ≡ b)
one_answer area name out at r s a b p q = one-said out at (answer_text area name) r s a b p q

pub one-turn : (area input : List ℕ) (from : ℕ) (line : List ℕ) (have : ℕ) (out : List ℕ) (at : ℕ) (h k m n r s : ℕ) (a b c d : List ℕ)
    → turned h m a (saying r c) ≡ turn_steps area input from line have out at
    → turned k n b (saying s d) ≡ turn_steps area input from line have out at → (h ≡ k) × (m ≡ n) × (r ≡ s) × (a ≡ b) × (c ≡ d)
one-turn area input from line have out at h k m n r s a b c d p q =
    let e : turned h m a (saying r c) ≡ turned k n b (saying s d) = p ∙ sym q in
    ((cc), (cc), (cc), (cc), (cc))

pub one-finish : (area held out : List ℕ) (at r s : ℕ) (a b : List ℕ) → saying r a ≡ end_steps area held out at → saying s b ≡ end_steps area held out at → (r ≡ s) × (a ≡ b)
one-finish area held out at r s a b p q = let e : saying r a ≡ saying s b = p ∙ sym q in ((cc), (cc))
