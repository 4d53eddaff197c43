-- How check and listing count. Contracts of functions that are not exported cite these; no promise does.
use Rattle.std.specs.Prelude.{ℕ, List, [], length}
use Rattle.layout.specs.declared.refusal.Refusal.{Refusal}
use Rattle.layout.specs.Refusals.{Answer, accepted, refuse}
use Rattle.audit.specs.Check.{Judged, by_judged, survey_steps, Listing, lists}

-- how many entries, once the header and scratch are tested
abbrev pub judged_answer : {area : List ℕ} → Judged area → Answer ℕ
judged_answer judged = by_judged judged (refuse Refusal.Damaged) (λ offsets. accepted (length offsets))

-- the same with those tests
abbrev pub count_steps : (area scratch : List ℕ) → Judged area → Listing
count_steps area scratch judged = survey_steps area scratch (λ why left. lists (refuse why) left []) (λ left offsets. lists (accepted (length offsets)) left []) judged
