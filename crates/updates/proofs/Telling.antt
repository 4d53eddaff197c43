-- What an update that answers 0 has done, by name and raw: no refusal has 0, so every test was passed. Assumes nothing.
use mathlib.Core.Path.{◌≡◌, refl, sym, ◌∙◌}
use mathlib.Core.Bool.{true, false}
use mathlib.Core.List.{List, [], ◌∷◌, ◌++◌}
use Prim.Native.Nat.{ℕ, ◌+◌, ◌≤◌, ◌<◌}
use native.Mathlib.Omega.{arith}
use borrow.Author.Tests.{eqb-false, ltb-false}
use lib.Dec.{eqb, leb}
use lib.ListN.{length, get_or}
use Rattle.words.specs.Stores.{run}
use Rattle.words.proofs.Laws.{bool_cases}
use Rattle.layout.specs.declared.refusal.Refusal.{Refusal}
use Rattle.std.specs.Prelude.{Ok, Err}
use Rattle.layout.specs.Layout.{serial_field, slot_field, slot_size, backup_at, backup_size, data_size, byte_of, place_of, word_at, entry_ok}
use Rattle.layout.specs.Refusals.{Verdict, pass, Answer, accepted, by_verdict, Outcome, leaves, accept_leaving, refuse_leaving}
use Rattle.layout.proofs.Numbers.{outcome-clash}
use Rattle.property_info.specs.Entry.{is_long, slot_end, short_value, value_of}
use Rattle.property_info.specs.Written.{write_stores}
use Rattle.trie.specs.Header.{header_ok}
use Rattle.property_area.specs.Find.{Hit, hit, by_hit, find_steps}
use Rattle.property_area.specs.Value.{bytes, touch_steps, value_steps}
use Rattle.property_area.proofs.AnswerLaws.{find-every}
use Rattle.updates.specs.Update.{value_verdict, backup_past_area, backup_stores, slot_text, update_stores, update_entry, update_steps, raw_entry, raw_steps}
use Rattle.updates.proofs.Laws.{Takes, value-short, slot-size}
use Rattle.updates.proofs.BackupLaws.{stores-backup}

passed : (after area : List ℕ) (v : Verdict) (on : Outcome) → accept_leaving after ≡ by_verdict v (refuse_leaving area) on → (v ≡ pass) × (accept_leaving after ≡ on)
passed after area (Ok _) on e = (refl, e)
passed after area (Err why) on e = outcome-clash after area why e

-- ---- an entry updated by name
record EntryTells (area value : List ℕ) (at : ℕ) (after : List ℕ) : Type 0 where
  pub takes : Takes area at value
  pub small : length (slot_text area at) < slot_size
  pub room : backup_at + length (slot_text area at) + 1 ≤ data_size area
  pub stored : after ≡ run area (update_stores area at value)

entry-tells : (area value : List ℕ) (at : ℕ) (after : List ℕ) → accept_leaving after ≡ update_entry area value at → EntryTells area value at after
unfolding update_entry
entry-tells area value at after e =
    bool_cases (is_long area at)
    (λ h. outcome-clash after area Refusal.LongEntry (rw h at e))
    (λ h.
    let v = passed after area (value_verdict value) _ (rw h at e) in
    bool_cases (eqb (length (slot_text area at)) slot_size)
    (λ k. outcome-clash after area Refusal.TooLong (rw k at v.1))
    (λ k. bool_cases (backup_past_area area (slot_text area at))
    (λ l. outcome-clash after area Refusal.Damaged (rw (k, l) at v.1))
    (λ l.
    let q : accept_leaving after ≡ accept_leaving (run area (update_stores area at value)) = rw (k, l) at v.1 in
    record {
      takes = record { short = h; fits = v.0 };
      small = omega (arith, slot-size area at, eqb-false (length (slot_text area at)) slot_size k);
      room = omega (arith, ltb-false (data_size area) (backup_at + length (slot_text area at) + 1) l);
      stored = cc;
    })))

-- ---- update by name: the entry that was found, the value that it showed, and the stores
pub record UpdateTells (area name value after : List ℕ) : Type 0 where
  pub at : ℕ
  pub compared : ℕ
  pub found : find_steps area name ≡ accepted (hit at compared)
  pub shown : value_steps area at ≡ accepted (bytes (place_of at slot_field) (slot_end area at))
  pub small : length (slot_text area at) < slot_size
  pub room : backup_at + length (slot_text area at) + 1 ≤ data_size area
  pub fits : length value < slot_size
  pub stored : after ≡ run area (update_stores area at value)

shown-short : (area : List ℕ) (at : ℕ) → header_ok area ≡ true → entry_ok area at ≡ true → is_long area at ≡ false
    → value_steps area at ≡ accepted (bytes (place_of at slot_field) (slot_end area at))
unfolding touch_steps value_of short_value
shown-short area at h t s = rw (h, t, s) refl

pub update-tells : (area name value after : List ℕ) → accept_leaving after ≡ update_steps area name value → UpdateTells area name value after
unfolding update_steps
update-tells area name value after =
    find-every area (λ (a : Answer Hit). find_steps area name ≡ a → accept_leaving after ≡ by_hit (λ number. leaves number area) (update_entry area value) a → UpdateTells area name value after)
    (λ why f e. outcome-clash after area why e)
    (λ h at n t f e.
    let k = entry-tells area value at after e in
    record {
      at = at;
      compared = n;
      found = f;
      shown = shown-short area at h t k.takes.short;
      small = k.small;
      room = k.room;
      fits = value-short value k.takes.fits;
      stored = k.stored;
    })
    name
    refl

-- the backup slot, so far as it lies before the entry
pub update-backup : (area name value after : List ℕ) → accept_leaving after ≡ update_steps area name value → (at n : ℕ) → find_steps area name ≡ accepted (hit at n)
    → (j : ℕ) → j ≤ length (slot_text area at) → backup_at + j < at → get_or after (byte_of backup_at + j) 0 ≡ get_or (slot_text area at ++ 0 ∷ []) j 0
update-backup area name value after e at n f j m h =
    let t = update-tells area name value after e in
    let q : accepted (hit t.at t.compared) ≡ accepted (hit at n) = sym t.found ∙ f in
    let p : t.at ≡ at = cc in
    let s : after ≡ run area (update_stores area at value) = rw p at t.stored in
    rw s (stores-backup area at value j (rw p at t.room) m h)

-- ---- raw update
raw-entry-tells : (area value : List ℕ) (at : ℕ) (after : List ℕ) → accept_leaving after ≡ raw_entry area value at → after ≡ run area (write_stores at (word_at area at serial_field) value)
unfolding raw_entry
raw-entry-tells area value at after e =
    bool_cases (entry_ok area at)
    (λ t. bool_cases (is_long area at)
    (λ h. outcome-clash after area Refusal.LongEntry (rw (t, h) at e))
    (λ h. let q = (passed after area (value_verdict value) _ (rw (t, h) at e)).1 in cc))
    (λ t. outcome-clash after area Refusal.Damaged (rw t at e))

pub raw-tells : (area : List ℕ) (at : ℕ) (backup value after : List ℕ) → accept_leaving after ≡ raw_steps area at backup value
    → after ≡ run (run area (backup_stores backup)) (write_stores at (word_at (run area (backup_stores backup)) at serial_field) value)
unfolding raw_steps
raw-tells area at backup value after e =
    bool_cases (header_ok area)
    (λ h. bool_cases (leb backup_size (length backup))
    (λ k. outcome-clash after area Refusal.TooLong (rw (h, k) at e))
    (λ k. bool_cases (backup_past_area area backup)
    (λ l. outcome-clash after area Refusal.Damaged (rw (h, k, l) at e))
    (λ l. raw-entry-tells (run area (backup_stores backup)) value at after (rw (h, k, l) at e))))
    (λ h. outcome-clash after area Refusal.BadHeader (rw h at e))
