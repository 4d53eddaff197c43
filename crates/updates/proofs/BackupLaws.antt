-- What an update leaves in the part of the backup slot that lies before its entry: the old value and its zero, for all that is stored later stands behind it.
use mathlib.Core.Path.{◌≡◌, ◌∙◌}
use mathlib.Core.List.{List, [], ◌∷◌, ◌++◌}
use Prim.Native.Nat.{ℕ, ◌+◌, ◌≤◌, ◌<◌}
use native.Mathlib.Omega.{arith}
use lib.ListN.{length, get_or, length-append}
use Rattle.words.specs.Stores.{run, word_store, text_stores}
use Rattle.words.proofs.Laws.{put_same}
use Rattle.words.proofs.StoreLaws.{run-append, run-bytes, Behind, none, one, behind-append, behind-bytes, run-before}
use Rattle.layout.specs.Layout.{serial_field, slot_field, backup_at, data_size, byte_of, place_of}
use Rattle.serials.specs.Serial.{dirty}
use Rattle.property_info.specs.Written.{write_stores}
use Rattle.updates.specs.Update.{backup_stores, slot_text, update_stores}

write-behind : (at serial : ℕ) (value : List ℕ) → Behind (byte_of at) (write_stores at serial value)
unfolding write_stores
write-behind at serial value =
    behind-append _ (word_store (place_of at serial_field) (dirty serial) ∷ text_stores (place_of at slot_field) value) _
    (one _ _ _ (omega arith) (behind-bytes _ _ _ (omega arith)))
    (one _ _ _ (omega arith) none)

pub stores-backup : (area : List ℕ) (at : ℕ) (value : List ℕ) (j : ℕ) → backup_at + length (slot_text area at) + 1 ≤ data_size area → j ≤ length (slot_text area at) → backup_at + j < at
    → get_or (run area (update_stores area at value)) (byte_of backup_at + j) 0 ≡ get_or (slot_text area at ++ 0 ∷ []) j 0
unfolding update_stores
stores-backup area at value j room m h =
    let old = slot_text area at ++ 0 ∷ [] in
    let n : length old ≡ length (slot_text area at) + 1 = length-append (slot_text area at) (0 ∷ []) in
    let b : (serial : ℕ) → get_or (run (run area (backup_stores (slot_text area at))) (write_stores at serial value)) (byte_of backup_at + j) 0 ≡ get_or old j 0 =
    λ serial. run-before _ (byte_of at) _ (write-behind at serial value) (byte_of backup_at + j) (omega arith) ∙ rw (run-bytes area (byte_of backup_at) old) (put_same area (byte_of backup_at) old j (omega arith) (omega arith)) in
    rw run-append (search b)
