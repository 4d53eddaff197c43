-- What the C functions promise: a number and bytes that a definition gives are given once, and a struct tells accepted from refused.
use mathlib.Core.Path.{◌≡◌, refl}
use mathlib.Core.List.{List}
use Prim.Native.Nat.{ℕ, ◌+◌}
use Rattle.layout.specs.Refusals.{accepted, refused, no_refusal, Outcome, leaves}
use Rattle.property_area.specs.Find.{hit, find_steps}
use Rattle.property_area.specs.Value.{bytes, value_steps, name_steps, serial_steps}
use Rattle.property_area.proofs.ValueLaws.{value-stands, name-stands}
use Rattle.audit.specs.Check.{Judged, lists, list_steps}
use Rattle.audit.proofs.Promises.{every-judged}
use Rattle.dumping.specs.Dump.{fills, fill_steps}
use Rattle.capi.specs.declared.PaCount.{PaCount}
use Rattle.capi.specs.declared.PaFound.{PaFound}
use Rattle.capi.specs.declared.PaPart.{PaPart}
use Rattle.capi.specs.declared.PaSerial.{PaSerial}
use Rattle.capi.specs.Capi.{found_struct, part_struct, serial_struct, count_struct, CheckReturns, ListReturns, DumpReturns}
use Rattle.capi.proofs.Laws.{counted-one, filled-one}
use Rattle.capi.proofs.Laws as laws

-- ---- no second outcome. Of pa_format, pa_add, pa_update, pa_raw_update, pa_backup_read: a number and bytes. The contracts of pa_find, pa_value, pa_name,
-- pa_serial and pa_update_distance are equations for the result
pub one-returned : (o : Outcome) (r s : ℕ) (a b : List ℕ) → leaves r a ≡ o → leaves s b ≡ o → (r ≡ s) × (a ≡ b)
one-returned o r s a b p q = (cc, cc)

-- of pa_check, pa_list and pa_dump, for every area is judged
pub one-pa-check : (area scratch : List ℕ) (r s : ℕ) (a b : List ℕ) → CheckReturns area scratch r a → CheckReturns area scratch s b → (r ≡ s) × (a ≡ b)
one-pa-check area scratch r s a b p q = one-returned _ r s a b (p (every-judged area)) (q (every-judged area))

pub one-pa-list : (area scratch list : List ℕ) (r s : PaCount) (a b c d : List ℕ) → ListReturns area scratch list r a c → ListReturns area scratch list s b d
    → (r ≡ s) × (a ≡ b) × (c ≡ d)
one-pa-list area scratch list r s a b c d p q = counted-one _ r s a b c d (p (every-judged area)) (q (every-judged area))

pub one-pa-dump : (area scratch list room : List ℕ) (r s : PaCount) (a b c d f g : List ℕ) → DumpReturns area scratch list room r a c f → DumpReturns area scratch list room s b d g
    → (r ≡ s) × (a ≡ b) × (c ≡ d) × (f ≡ g)
one-pa-dump area scratch list room r s a b c d f g p q = filled-one _ r s a b c d f g (p (every-judged area)) (q (every-judged area))

-- ---- the struct of a refusal has its number
pub found_number : (number : ℕ) → (found_struct (refused number)).refusal ≡ number
found_number number = refl

pub part-number : (number : ℕ) → (part_struct (refused number)).refusal ≡ number
part-number number = refl

pub serial-number : (number : ℕ) → (serial_struct (refused number)).refusal ≡ number
serial-number number = refl

pub count-number : (number : ℕ) → (count_struct (refused number)).refusal ≡ number
count-number number = refl

-- ---- and no refusal has 0: a struct with refusal 0 is that of an accepted answer, which it says. What a number 0 returned alone says, the calls' own
-- pages have: `format-tells`, `add-tells`, `update-tells`, `raw-tells`, `backup-tells`, `check-tells`
pub found-accepted : (area name : List ℕ) (r : PaFound) → r ≡ found_struct (find_steps area name) → r.refusal ≡ no_refusal → find_steps area name ≡ accepted (hit r.entry r.compared)
found-accepted = laws.found-accepted

pub part-accepted : (area : List ℕ) (entry : ℕ) (r : PaPart) → r ≡ part_struct (value_steps area entry) → r.refusal ≡ no_refusal
    → value_steps area entry ≡ accepted (bytes r.start (r.start + r.length))
part-accepted area entry = laws.part-accepted area entry _ (value-stands area entry)

pub name-accepted : (area : List ℕ) (entry : ℕ) (r : PaPart) → r ≡ part_struct (name_steps area entry) → r.refusal ≡ no_refusal
    → name_steps area entry ≡ accepted (bytes r.start (r.start + r.length))
name-accepted area entry = laws.part-accepted area entry _ (name-stands area entry)

pub serial-accepted : (area : List ℕ) (entry : ℕ) (r : PaSerial) → r ≡ serial_struct (serial_steps area entry) → r.refusal ≡ no_refusal → serial_steps area entry ≡ accepted r.serial
serial-accepted = laws.serial-accepted

-- the area is then sound, and these are its tree's entries: `list_Tells`
pub count-accepted : (area scratch list : List ℕ) (r : PaCount) (a c : List ℕ) → ListReturns area scratch list r a c → r.refusal ≡ no_refusal
    → (judged : Judged area) → lists (accepted r.count) a c ≡ list_steps area scratch list judged
count-accepted area scratch list r a c says z judged = laws.count-accepted area scratch list r a c judged (says judged) z

-- the area is then sound, and this is its tree's text: `fill-tells`
pub text-accepted : (area scratch list room : List ℕ) (r : PaCount) (a c d : List ℕ) → DumpReturns area scratch list room r a c d → r.refusal ≡ no_refusal
    → (judged : Judged area) → fills (accepted r.count) a c d ≡ fill_steps area scratch list room judged
text-accepted area scratch list room r a c d says z judged = laws.text-accepted area scratch list room r a c d judged (says judged) z
