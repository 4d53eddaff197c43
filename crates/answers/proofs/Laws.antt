-- Laws of specs/Answers.antt and specs/Lines.antt, for the code: where the value stands that the lookup asks for, and its line.
use Prim.Native.Nat.{ℕ}
use mathlib.Core.Path.{◌≡◌, sym, ap, ◌∙◌}
use mathlib.Core.List.{List, ◌++◌}
use lib.Dec.{leb}
use lib.ListN.{length}
use Rattle.words.specs.Words.{part}
use Rattle.words.proofs.Laws.{bool_cases, clash}
use Rattle.layout.specs.declared.refusal.Refusal.{Refusal}
use Rattle.layout.specs.Refusals.{Answer, accepted, refused}
use Rattle.std.specs.Prelude.{Result}
use Rattle.property_area.proofs.ValueLaws.{part_at}
use Rattle.layout.specs.declared.text.Span.{Span}
use Rattle.property_area.specs.Find.{Hit, hit, by_hit, find_steps}
use Rattle.property_area.specs.Value.{bytes, part_answer, value_steps}
use Rattle.property_area.proofs.ValueLaws.{PartIn, value-stands, accepted-in}
use Rattle.texts.specs.Text.{escaped}
use Rattle.answers.specs.Answers.{name_max, file_ok, ending, ask_steps, answer_text}

-- ---- where the value stands that the lookup asks for
module _ (area name : List ℕ) where
  refuses : {A : Type 0} (number from to : ℕ) → refused number ≡ accepted (bytes from to) → A
  refuses number from to q = clash cc

  hit-in : (found : Answer Hit) (from to : ℕ) → by_hit refused (value_steps area) found ≡ accepted (bytes from to) → PartIn area from to
  hit-in (accepted (hit at compared)) from to e = accepted-in area at _ (value-stands area at) from to e
  hit-in (refused number) from to e = refuses number from to e

  ask-accepted : (from to : ℕ) → ask_steps area name ≡ accepted (bytes from to) → PartIn area from to
  unfolding ask_steps
  ask-accepted from to e =
      bool_cases (file_ok area)
      (λ h. bool_cases (leb (length name) name_max)
      (λ l. hit-in (find_steps area name) from to (rw (h, l) at e))
      (λ l. refuses _ from to (rw (h, l) at e)))
      (λ h. refuses _ from to (rw h at e))

  module _ (asked : Result Span Refusal) (e : part_answer asked ≡ ask_steps area name) where
    pub ask_in : (from to : ℕ) → asked ≡ part_at from to → PartIn area from to
    ask_in from to f = ask-accepted from to (sym e ∙ ap part_answer f)

    -- ---- the line
    pub answer-shown : (from to : ℕ) → asked ≡ part_at from to → escaped (part area from to) ++ ending ≡ answer_text area name
    unfolding answer_text
    answer-shown from to f = rw (← e, f)
