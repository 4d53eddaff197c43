-- What holds of every refusal, and of every text that is put there, holds of what the dump into a room answers.
use Prim.Native.Nat.{ℕ}
use mathlib.Core.List.{List}
use lib.Dec.{leb}
use lib.ListN.{length}
use Rattle.words.proofs.Laws.{bool_cases}
use Rattle.layout.specs.declared.refusal.Refusal.{Refusal}
use Rattle.layout.specs.Refusals.{accepted, refuse}
use Rattle.audit.specs.Check.{Judged, Listing}
use Rattle.audit.proofs.SurveyLaws.{list-every}
use Rattle.dumping.specs.Dump.{dump_text, Filled, fills, fill_listing, fill_steps}

pub fill-every : (area scratch list room : List ℕ) (P : Filled → Type 0) → ((why : Refusal) (after left noted : List ℕ) → P (fills (refuse why) after left noted))
    → ((n : ℕ) (after left noted : List ℕ) → P (fills (accepted n) after left noted)) → (judged : Judged area) → P (fill_steps area scratch list room judged)
fill-every area scratch list room P refuses goes =
    list-every area scratch list (λ (l : Listing). P (fill_listing area room l)) (λ why left noted. refuses why room left noted)
    (λ n left noted.
    let text = dump_text area (accepted n) noted in
    bool_cases (leb (length text) (length room))
    (λ k. rw k (goes _ _ left noted))
    (λ k. rw k (refuses Refusal.ShortBuffer room left noted)))
