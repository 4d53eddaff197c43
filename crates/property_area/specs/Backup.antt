-- Backup read (RULES 4.9): the buffer's length is the number of bytes wanted.
use Rattle.std.specs.Prelude.{ℕ, ◌+◌, cond, List, length, nat_le, nat_lt}
use Rattle.words.specs.Words.{part}
use Rattle.layout.specs.declared.refusal.Refusal.{Refusal}
use Rattle.layout.specs.Refusals.{guard, Outcome, accept_leaving, refuse_leaving}
use Rattle.layout.specs.Layout.{backup_at, backup_size, data_size, byte_of, place_of}
use Rattle.trie.specs.Header.{header_ok}

-- RULES 4.9: 8, a buffer of 92 bytes or more (6), a slot that lies past the area (5); else the slot's first bytes
unfoldable pub backup_steps : List ℕ → List ℕ → Outcome
backup_steps area buffer =
    guard (header_ok area) (refuse_leaving buffer Refusal.BadHeader)
    (cond (nat_le backup_size (length buffer)) (refuse_leaving buffer Refusal.TooLong)
    (cond (nat_lt (data_size area) (backup_at + length buffer)) (refuse_leaving buffer Refusal.Damaged)
    (accept_leaving (part area (byte_of backup_at) (place_of backup_at (length buffer))))))
