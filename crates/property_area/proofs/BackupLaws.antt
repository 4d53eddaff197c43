-- Laws of specs/Backup.antt: the read that fills the buffer, and what one that answers 0 has read.
use Rattle.std.proofs.Common.{◌≡◌, ℕ, ◌+◌, ◌≤◌, ◌<◌, true, ltb, leb, List, length, ap, arith, length-drop, length-take, le-ltb}
use borrow.Author.Tests.{lt-leb}
use Rattle.words.specs.Words.{part, put}
use Rattle.words.proofs.Laws.{bool_cases, clash, put_whole}
use Rattle.layout.specs.declared.refusal.Refusal.{Refusal}
use Rattle.layout.specs.Layout.{backup_at, backup_size, data_size, byte_of, place_of}
use Rattle.layout.specs.Refusals.{accept_leaving, refuse_leaving}
use Rattle.trie.specs.Header.{header_ok}
use Rattle.property_area.specs.Backup.{backup_steps}

-- the slot's bytes fill a buffer that asks for no more of them than there are
pub backup_filled : (area buffer : List ℕ) → header_ok area ≡ true → length buffer < backup_size → backup_at + length buffer ≤ data_size area
    → accept_leaving (put buffer 0 (part area (byte_of backup_at) (place_of backup_at (length buffer)))) ≡ backup_steps area buffer
unfolding backup_steps
backup_filled area buffer h k l =
    rw (h, lt-leb backup_size (length buffer) k, le-ltb (data_size area) (backup_at + length buffer) l)
    (ap accept_leaving (put_whole buffer (part area (byte_of backup_at) (place_of backup_at (length buffer))) (simp (length-take, length-drop) (omega arith))))

-- and a read that answers 0 has read them
pub backup-tells : (area buffer after : List ℕ) → accept_leaving after ≡ backup_steps area buffer → after ≡ part area (byte_of backup_at) (place_of backup_at (length buffer))
unfolding backup_steps
backup-tells area buffer after e =
    bool_cases (header_ok area)
    (λ h. bool_cases (leb backup_size (length buffer))
    (λ k. let q : accept_leaving after ≡ refuse_leaving buffer Refusal.TooLong = rw (h, k) at e in clash cc)
    (λ k. bool_cases (ltb (data_size area) (backup_at + length buffer))
    (λ l. let q : accept_leaving after ≡ refuse_leaving buffer Refusal.Damaged = rw (h, k, l) at e in clash cc)
    (λ l. let q : accept_leaving after ≡ accept_leaving (part area (byte_of backup_at) (place_of backup_at (length buffer))) = rw (h, k, l) at e in cc)))
    (λ h. let q : accept_leaving after ≡ refuse_leaving buffer Refusal.BadHeader = rw h at e in clash cc)
