-- What updates promise of any bytes: no second outcome, which bytes a refusal changes, what 0 says, and what the backup slot then holds.
-- `Keeps` and `raw_tests` stand in Keeping.antt, `UpdateTells` in Telling.antt.
use mathlib.Core.Path.{◌≡◌}
use mathlib.Core.Bool.{true, false}
use mathlib.Core.List.{List, [], ◌∷◌, ◌++◌}
use Prim.Native.Nat.{ℕ, ◌+◌, ◌≤◌, ◌<◌}
use lib.ListN.{length, get_or}
use Rattle.words.specs.Stores.{run}
use Rattle.layout.specs.Layout.{serial_field, backup_at, byte_of, word_at}
use Rattle.layout.specs.Refusals.{Verdict, accepted, verdict_number, leaves, accept_leaving}
use Rattle.layout.proofs.Promises.{one-outcome}
use Rattle.property_info.specs.Written.{write_stores}
use Rattle.property_area.specs.Find.{hit, find_steps}
use Rattle.updates.specs.Update.{backup_stores, slot_text, update_steps, raw_steps}
use Rattle.updates.proofs.Keeping.{Keeps, raw_tests}
use Rattle.updates.proofs.Keeping as keeping
use Rattle.updates.proofs.Telling.{UpdateTells}
use Rattle.updates.proofs.Telling as telling

-- ---- no second verdict, and no other bytes, satisfy the contract of update by name
pub one-update : (area name value : List ℕ) (v w : Verdict) (a b : List ℕ)
    → leaves (verdict_number v) a ≡ update_steps area name value → leaves (verdict_number w) b ≡ update_steps area name value → (v ≡ w) × (a ≡ b)
one-update area name value v w a b p q = one-outcome (update_steps area name value) v w a b p q

-- ---- nor that of the raw update
pub one-raw : (area : List ℕ) (at : ℕ) (backup value : List ℕ) (v w : Verdict) (a b : List ℕ)
    → leaves (verdict_number v) a ≡ raw_steps area at backup value → leaves (verdict_number w) b ≡ raw_steps area at backup value → (v ≡ w) × (a ≡ b)
one-raw area at backup value v w a b p q = one-outcome (raw_steps area at backup value) v w a b p q

-- ---- update by name: every refusal leaves every byte
pub update-keeps : (area name value : List ℕ) → Keeps area (update_steps area name value)
update-keeps area name value = keeping.update-keeps area name value

-- ---- raw update, refused before the backup is stored (8, 6, 5): every byte stays
pub raw-early : (area : List ℕ) (at : ℕ) (backup value : List ℕ) → raw_tests area backup ≡ false → Keeps area (raw_steps area at backup value)
raw-early area at backup value e = keeping.raw-early area at backup value e

-- ---- refused after it (5, 7, 6): every byte but the backup's stays
pub raw-late : (area : List ℕ) (at : ℕ) (backup value : List ℕ) → raw_tests area backup ≡ true → Keeps (run area (backup_stores backup)) (raw_steps area at backup value)
raw-late area at backup value e = keeping.raw-late area at backup value e

-- ---- an update that answers 0 found the name's entry, with a short value that it showed till then, and made all its stores
pub update-tells : (area name value after : List ℕ) → accept_leaving after ≡ update_steps area name value → UpdateTells area name value after
update-tells = telling.update-tells

-- ---- the backup slot then holds the old value and its zero, so far as it lies before the entry: all of it, where the entry is at 112 or later
pub update-backup : (area name value after : List ℕ) → accept_leaving after ≡ update_steps area name value → (at n : ℕ) → find_steps area name ≡ accepted (hit at n)
    → (j : ℕ) → j ≤ length (slot_text area at) → backup_at + j < at → get_or after (byte_of backup_at + j) 0 ≡ get_or (slot_text area at ++ 0 ∷ []) j 0
update-backup = telling.update-backup

-- ---- a raw update that answers 0 stored the backup, and then made all its stores
pub raw-tells : (area : List ℕ) (at : ℕ) (backup value after : List ℕ) → accept_leaving after ≡ raw_steps area at backup value
    → after ≡ run (run area (backup_stores backup)) (write_stores at (word_at (run area (backup_stores backup)) at serial_field) value)
raw-tells = telling.raw-tells
