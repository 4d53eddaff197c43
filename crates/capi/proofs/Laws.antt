-- What fits C's structs, and what those with refusal 0 say.
use mathlib.Core.Path.{◌≡◌, refl, sym}
use mathlib.Core.List.{List}
use Prim.Native.Nat.{ℕ, ◌+◌, ◌-◌}
use native.Mathlib.Omega.{arith}
use Rattle.std.specs.Prelude.{Option, Result, Ok, Err}
use Rattle.layout.specs.declared.refusal.Refusal.{Refusal}
use Rattle.layout.specs.declared.text.Span.{Span}
use Rattle.layout.specs.Refusals.{Answer, accepted, refuse, no_refusal}
use Rattle.layout.proofs.Promises.{some_number}
use Rattle.property_area.specs.Find.{Hit, hit, find_steps}
use Rattle.property_area.specs.Value.{Part, bytes, part_answer, part_steps, serial_steps}
use Rattle.property_area.proofs.AnswerLaws.{find-every}
use Rattle.property_area.proofs.ValueLaws.{Stands, part-every, part_in, touch-every}
use Rattle.audit.specs.Check.{Judged, Listing, lists, list_steps, ListSays}
use Rattle.audit.proofs.SurveyLaws.{list-every}
use Rattle.audit.proofs.Promises.{every-judged, answer-few}
use Rattle.dumping.specs.Dump.{Filled, fills, fill_steps, FillSays}
use Rattle.dumping.proofs.Filling.{fill-every}
use Rattle.printed.proofs.Promises.{fill-few}
use Rattle.capi.specs.declared.PaCount.{PaCount}
use Rattle.capi.specs.declared.PaFound.{PaFound}
use Rattle.capi.specs.declared.PaPart.{PaPart}
use Rattle.capi.specs.declared.PaSerial.{PaSerial}
use Rattle.capi.specs.Capi.{found_struct, part_struct, serial_struct, CountListing, counts, count_struct, listing_struct, CountFilled, spans, filled_struct}
use Rattle.capi.specs.View.{PartFits, CountFits}

-- ---- what a part, and a count, needs to fit C's structs
-- what stands in an area of at most 131,072 bytes starts at a place of 32 bits
pub part-fits : (area : List ℕ) (entry : ℕ) (span : Option Span) → Stands area entry span → (s : Result Span Refusal) → part_answer s ≡ part_steps area entry span → PartFits s
part-fits area entry span stands (Ok text) e = let l = part_in area entry span stands (Ok text) e text.from text.to refl in (l.low, omega (arith, l.low, l.high, l.small))
part-fits area entry span stands (Err why) e = tt

-- an area has few entries
pub list-fits : (area scratch list : List ℕ) (r : Result ℕ Refusal) (a c : List ℕ) → ListSays area scratch list r a c → CountFits r
list-fits area scratch list (Ok n) a c says = omega (arith, answer-few area scratch list (Ok n) a c says n refl)
list-fits area scratch list (Err why) a c says = tt

-- and a text at most four times as long as it
pub dump-fits : (area scratch list room : List ℕ) (r : Result ℕ Refusal) (a c d : List ℕ) → FillSays area scratch list room r a c d → CountFits r
dump-fits area scratch list room (Ok n) a c d says = omega (arith, fill-few area scratch list room (every-judged area) n a c d (sym (says (every-judged area))))
dump-fits area scratch list room (Err why) a c d says = tt

-- ---- a struct and its buffers that a definition gives are given once
pub counted-one : (o : CountListing) (r s : PaCount) (a b c d : List ℕ) → counts r a c ≡ o → counts s b d ≡ o → (r ≡ s) × (a ≡ b) × (c ≡ d)
counted-one o r s a b c d p q = (cc, cc, cc)

pub filled-one : (o : CountFilled) (r s : PaCount) (a b c d f g : List ℕ) → spans r a c f ≡ o → spans s b d g ≡ o → (r ≡ s) × (a ≡ b) × (c ≡ d) × (f ≡ g)
filled-one o r s a b c d f g p q = (cc, cc, cc, cc)

-- ---- a struct with refusal 0 is that of an accepted answer, for no refusal has 0
pub found-accepted : (area name : List ℕ) (r : PaFound) → r ≡ found_struct (find_steps area name) → r.refusal ≡ no_refusal → find_steps area name ≡ accepted (hit r.entry r.compared)
found-accepted area name r =
    find-every area (λ (a : Answer Hit). r ≡ found_struct a → r.refusal ≡ no_refusal → a ≡ accepted (hit r.entry r.compared))
    (λ why e z. absurd (some_number why (rw e at z)))
    (λ h at n o e z. rw e refl)
    name

pub part-accepted : (area : List ℕ) (entry : ℕ) (span : Option Span) → Stands area entry span → (r : PaPart) → r ≡ part_struct (part_steps area entry span) → r.refusal ≡ no_refusal
    → part_steps area entry span ≡ accepted (bytes r.start (r.start + r.length))
part-accepted area entry span stands r =
    part-every area entry span stands (λ (a : Answer Part). r ≡ part_struct a → r.refusal ≡ no_refusal → a ≡ accepted (bytes r.start (r.start + r.length)))
    (λ why e z. absurd (some_number why (rw e at z)))
    (λ from to l e z. let k : from + (to - from) ≡ to = omega (arith, l.low) in rw (e, k) refl)

pub serial-accepted : (area : List ℕ) (entry : ℕ) (r : PaSerial) → r ≡ serial_struct (serial_steps area entry) → r.refusal ≡ no_refusal → serial_steps area entry ≡ accepted r.serial
serial-accepted area entry r =
    touch-every area entry _ (λ (a : Answer ℕ). r ≡ serial_struct a → r.refusal ≡ no_refusal → a ≡ accepted r.serial)
    (λ why e z. absurd (some_number why (rw e at z)))
    (λ h t e z. rw e refl)

pub count-accepted : (area scratch list : List ℕ) (r : PaCount) (a c : List ℕ) (judged : Judged area) → counts r a c ≡ listing_struct (list_steps area scratch list judged) → r.refusal ≡ no_refusal
    → lists (accepted r.count) a c ≡ list_steps area scratch list judged
count-accepted area scratch list r a c =
    list-every area scratch list (λ (l : Listing). counts r a c ≡ listing_struct l → r.refusal ≡ no_refusal → lists (accepted r.count) a c ≡ l)
    (λ why left noted e z. let p : r ≡ count_struct (refuse why) = cc in absurd (some_number why (rw p at z)))
    (λ n left noted e z. let p : r ≡ count_struct (accepted n) = cc in let m : r.count ≡ n = rw p refl in cc)

pub text-accepted : (area scratch list room : List ℕ) (r : PaCount) (a c d : List ℕ) (judged : Judged area) → spans r a c d ≡ filled_struct (fill_steps area scratch list room judged) → r.refusal ≡ no_refusal
    → fills (accepted r.count) a c d ≡ fill_steps area scratch list room judged
text-accepted area scratch list room r a c d =
    fill-every area scratch list room (λ (l : Filled). spans r a c d ≡ filled_struct l → r.refusal ≡ no_refusal → fills (accepted r.count) a c d ≡ l)
    (λ why after left noted e z. let p : r ≡ count_struct (refuse why) = cc in absurd (some_number why (rw p at z)))
    (λ n after left noted e z. let p : r ≡ count_struct (accepted n) = cc in let m : r.count ≡ n = rw p refl in cc)
