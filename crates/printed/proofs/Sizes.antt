-- No answer is longer than text_max: a value that is shown is a part of a file that is not too long, and a refusal has few digits.
use Prim.Native.Nat.{ℕ, ◌≤◌}
use mathlib.Core.Path.{◌≡◌, refl}
use mathlib.Core.Bool.{true, and-eq-true_iff}
use mathlib.Core.List.{List}
use native.Mathlib.Omega.{arith}
use borrow.Author.Tests.{leb-true}
use lib.Dec.{leb}
use lib.ListN.{length, length-append}
use Rattle.words.specs.Words.{part}
use Rattle.words.proofs.Laws.{bool_cases, part_length}
use Rattle.layout.specs.Refusals.{Answer, accepted, refused, on_accepted}
use Rattle.trie.specs.Header.{header_ok}
use Rattle.property_area.proofs.ValueLaws.{part_at}
use Rattle.property_area.specs.Value.{Part, bytes, part_bytes}
use Rattle.texts.specs.Text.{escaped, digits_max, decimal}
use Rattle.texts.proofs.Promises.{escaped-few, decimal-few}
use Rattle.answers.specs.Answers.{file_max, text_max, ending, refused_text, file_ok, ask_steps, answer_line, answer_text}
use Rattle.answers.proofs.Laws.{ask_in}

-- ---- a refusal's line, and a file that is not refused
pub refused-small : (number : ℕ) → length (refused_text number) ≤ text_max
refused-small number = omega (arith, length-append (decimal number) ending, decimal-few digits_max number)

pub file-fits : (area : List ℕ) → file_ok area ≡ true → length area ≤ file_max
file-fits area ok = leb-true (length area) file_max ((and-eq-true_iff (leb (length area) file_max) (header_ok area)).0 ok).0

-- ---- an answer
pub answer-small : (area name : List ℕ) → length (answer_text area name) ≤ text_max
unfolding answer_text ask_steps
answer-small area name =
    bool_cases (file_ok area) (λ ok. by (file-fits area ok) (ask_steps area name) refl) (λ no. rw no (refused-small _))
  where
    by : length area ≤ file_max → (answer : Answer Part) → answer ≡ ask_steps area name → length (answer_line (on_accepted (part_bytes area) answer)) ≤ text_max
    by few (refused number) e = refused-small number
    by few (accepted (bytes from to)) e =
        let lies = ask_in area name (part_at from to) e from to refl in
        omega (arith, length-append (escaped (part area from to)) ending, escaped-few (part area from to), part_length area from to lies.low lies.high, lies.high)
