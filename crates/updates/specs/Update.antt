-- Update by name and raw update (RULES 5.6 to 5.9).
use Rattle.std.specs.Prelude.{ℕ, ◌+◌, Bool, cond, List, ◌++◌, length, eqb, leb, ltb}
use Rattle.words.specs.Words.{part}
use Rattle.words.specs.Stores.{Store, run, text_stores}
use Rattle.layout.specs.declared.refusal.Refusal.{Refusal}
use Rattle.layout.specs.Layout.{serial_field, slot_field, slot_size, backup_at, backup_size, data_size, byte_of, place_of, word_at, entry_ok}
use Rattle.layout.specs.Refusals.{guard, Verdict, pass, fail, by_verdict, Outcome, leaves, accept_leaving, refuse_leaving}
use Rattle.property_info.specs.Entry.{is_long, slot_end}
use Rattle.property_info.specs.Written.{write_stores}
use Rattle.trie.specs.Header.{header_ok}
use Rattle.property_area.specs.Find.{by_hit, find_steps}

-- new value of 92 bytes or more: 6
unfoldable pub value_verdict : List ℕ → Verdict
value_verdict value = cond (leb slot_size (length value)) (fail Refusal.TooLong) pass

-- 21 + length above data size
abbrev pub backup_past_area : List ℕ → List ℕ → Bool
backup_past_area area backup = ltb (data_size area) (backup_at + length backup + 1)

-- a backup and its zero go to the backup slot
abbrev pub backup_stores : List ℕ → List Store
backup_stores backup = text_stores (byte_of backup_at) backup

-- the value that a short entry shows
abbrev pub slot_text : List ℕ → ℕ → List ℕ
slot_text area at = part area (place_of at slot_field) (slot_end area at)

-- the serial is the one read before any store
unfoldable pub update_stores : List ℕ → ℕ → List ℕ → List Store
update_stores area at value = backup_stores (slot_text area at) ++ write_stores at (word_at area at serial_field) value

-- RULES 5.6 behind find: long (7), the new value (6), a slot without a zero (6), the backup's room (5)
unfoldable pub update_entry : List ℕ → List ℕ → ℕ → Outcome
update_entry area value at =
    cond (is_long area at) (refuse_leaving area Refusal.LongEntry)
    (by_verdict (value_verdict value) (refuse_leaving area)
    (cond (eqb (length (slot_text area at)) slot_size) (refuse_leaving area Refusal.TooLong)
    (cond (backup_past_area area (slot_text area at)) (refuse_leaving area Refusal.Damaged)
    (accept_leaving (run area (update_stores area at value))))))

-- find; unless the search names a node, its refusal
unfoldable pub update_steps : List ℕ → List ℕ → List ℕ → Outcome
update_steps area name value = by_hit (λ number. leaves number area) (update_entry area value) (find_steps area name)

-- RULES 5.9, behind the backup's store: touched (5), the serial as it is then, long (7), the value's length (6), the stores
unfoldable pub raw_entry : List ℕ → List ℕ → ℕ → Outcome
raw_entry area value at =
    guard (entry_ok area at) (refuse_leaving area Refusal.Damaged)
    (cond (is_long area at) (refuse_leaving area Refusal.LongEntry)
    (by_verdict (value_verdict value) (refuse_leaving area)
    (accept_leaving (run area (write_stores at (word_at area at serial_field) value)))))

-- RULES 5.9 up to there: 8, the backup's length (6), its room in the area (5), its store
unfoldable pub raw_steps : List ℕ → ℕ → List ℕ → List ℕ → Outcome
raw_steps area at backup value =
    guard (header_ok area) (refuse_leaving area Refusal.BadHeader)
    (cond (leb backup_size (length backup)) (refuse_leaving area Refusal.TooLong)
    (cond (backup_past_area area backup) (refuse_leaving area Refusal.Damaged)
    (raw_entry (run area (backup_stores backup)) value at)))
