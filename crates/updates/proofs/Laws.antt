-- The test of a new value, the value that a short entry shows and its copy, and an entry that find named.
use mathlib.Core.Path.{◌≡◌, sym, ◌∙◌}
use mathlib.Core.Bool.{true, false}
use mathlib.Core.List.{List}
use Prim.Native.Nat.{ℕ, ◌+◌, ◌-◌, ◌≤◌, ◌<◌}
use native.Mathlib.Nat.{zero-add, add-sub_cancel_left}
use native.Mathlib.Omega.{arith}
use borrow.Author.Tests.{le-leb, lt-leb, leb-false}
use lib.ListN.{length, take, length-take}
use lib.Dec.{leb}
use lib.Seq.{ext_get_or, get_or-take, length-take-le}
use Rattle.words.specs.Words.{part, first_in, put}
use Rattle.words.proofs.Laws.{bool_cases, clash, part_length, first-low, first-high, put-length, put_same}
use Rattle.words.proofs.StoreLaws.{run-append}
use Rattle.layout.specs.declared.refusal.Refusal.{Refusal}
use Rattle.std.specs.Prelude.{Result, Ok}
use Rattle.layout.specs.Layout.{slot_field, slot_size, place_of, EntryIn, entry_ok}
use Rattle.layout.specs.Refusals.{pass, fail}
use Rattle.property_info.specs.Entry.{is_long}
use Rattle.property_area.specs.declared.descent.Found.{Found}
use Rattle.property_area.specs.Find.{found_answer, find_steps}
use Rattle.property_area.proofs.Promises.{found_ok}
use Rattle.updates.specs.Update.{value_verdict, slot_text}
use Rattle.updates.specs.View.{Snapshot}

-- ---- the value's test
pub value-long : (value : List ℕ) → slot_size ≤ length value → fail Refusal.TooLong ≡ value_verdict value
unfolding value_verdict
value-long value h = rw (le-leb slot_size (length value) h)

pub value-fine : (value : List ℕ) → length value < slot_size → pass ≡ value_verdict value
unfolding value_verdict
value-fine value h = rw (lt-leb slot_size (length value) h)

pub value-short : (value : List ℕ) → value_verdict value ≡ pass → length value < slot_size
unfolding value_verdict
value-short value f =
    bool_cases (leb slot_size (length value))
    (λ t. let k : fail Refusal.TooLong ≡ pass = rw t at f in clash cc)
    (λ t. leb-false slot_size (length value) t)

-- what is known of an entry and a new value once both are tested
pub record Takes (area : List ℕ) (at : ℕ) (value : List ℕ) : Type 0 where
  pub short : is_long area at ≡ false
  pub fits : value_verdict value ≡ pass

-- ---- the front of a buffer after a copy
pub take_put : (s bs : List ℕ) → length bs ≤ length s → take (length bs) (put s 0 bs) ≡ bs
take_put s bs h =
    let l : length (take (length bs) (put s 0 bs)) ≡ length bs = length-take-le (length bs) (put s 0 bs) (omega (arith, put-length s 0 bs)) in
    ext_get_or 0 (take (length bs) (put s 0 bs)) bs l
    (λ k m. get_or-take (length bs) (put s 0 bs) k 0 (omega arith) ∙ rw zero-add at (put_same s 0 bs k (omega arith) (omega arith)))

-- ---- the value that a short entry shows: to is what the scan of the slot found
pub slot-size : (area : List ℕ) (at : ℕ) → length (slot_text area at) ≤ slot_size
slot-size area at = simp length-take (omega (arith, first-high 0 area (place_of at slot_field) slot_size))

module _ (area : List ℕ) (at to : ℕ) (e : to ≡ first_in 0 area (place_of at slot_field) (place_of at slot_field + slot_size - place_of at slot_field)) where
  scanned : to ≡ first_in 0 area (place_of at slot_field) slot_size
  scanned = rw add-sub_cancel_left at e

  pub slot-low : place_of at slot_field ≤ to
  slot-low = rw scanned (first-low 0 area (place_of at slot_field) slot_size)

  pub slot-high : to ≤ place_of at slot_field + slot_size
  slot-high = rw scanned (first-high 0 area (place_of at slot_field) slot_size)

  pub slot-copied : EntryIn area at → (old after : List ℕ) → slot_size ≤ length old → after ≡ put old 0 (part area (place_of at slot_field) to)
      → Snapshot (slot_text area at) (to - place_of at slot_field) after
  slot-copied h old after k f =
      let l : length (part area (place_of at slot_field) to) ≡ to - place_of at slot_field =
      part_length area (place_of at slot_field) to slot-low (omega (arith, slot-high)) in
      record {
        measured = rw (← scanned) (sym l);
        copied = rw (← scanned, f) (rw l at (take_put old (part area (place_of at slot_field) to) (omega (arith, slot-high))));
      }

-- ---- update by name: an entry that find named has been touched
pub entry-touched : (area name : List ℕ) (r : Result Found Refusal) → found_answer r ≡ find_steps area name → (found : Found) → r ≡ Ok found → entry_ok area found.offset ≡ true
entry-touched area name r e found f = found_ok area name found.offset found.compared (sym e ∙ rw f)

-- ---- the stores of a backup, and then those of the entry
pub ruleset store_laws = (run-append)
