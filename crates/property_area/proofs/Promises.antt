-- What the read side promises of any bytes: no second outcome of find, value, name, serial and the backup read; what is found can be touched; how many nodes are compared; what 0
-- says of a backup read.
use Rattle.std.proofs.Common.{◌≡◌, ℕ, ◌*◌, ◌%◌, ◌≤◌, true, List, length, sym, ◌∙◌}
use Rattle.words.specs.Words.{part}
use Rattle.names.specs.Names.{segments}
use Rattle.std.specs.Prelude.{Result}
use Rattle.layout.specs.declared.refusal.Refusal.{Refusal}
use Rattle.layout.specs.declared.text.Span.{Span}
use Rattle.layout.specs.Layout.{backup_at, byte_of, place_of, entry_ok}
use Rattle.layout.specs.Refusals.{accepted, Verdict, verdict_number, leaves, accept_leaving}
use Rattle.layout.proofs.Promises.{one-outcome}
use Rattle.trie.specs.Trie.{nodes_max}
use Rattle.property_area.specs.declared.descent.Found.{Found}
use Rattle.property_area.specs.Find.{hit, count_limit, found_answer, find_steps}
use Rattle.property_area.specs.Walked.{walked}
use Rattle.property_area.specs.Lookup.{lookup_steps}
use Rattle.property_area.specs.Value.{part_answer, value_steps, name_steps, serial_answer, serial_steps}
use Rattle.property_area.specs.Backup.{backup_steps}
use Rattle.property_area.proofs.AnswerLaws.{found-tells, part-tells, serial-tells}
use Rattle.property_area.proofs.AnswerLaws as answers
use Rattle.property_area.proofs.BackupLaws as backups

-- ---- no second outcome satisfies the contract of find, of value, name and serial, of the lookup, of the backup read
pub one_found : (area name : List ℕ) (a b : Result Found Refusal) → found_answer a ≡ find_steps area name → found_answer b ≡ find_steps area name → a ≡ b
one_found area name a b p q = found-tells a b (p ∙ sym q)

pub one_value : (area : List ℕ) (offset : ℕ) (a b : Result Span Refusal) → part_answer a ≡ value_steps area offset → part_answer b ≡ value_steps area offset → a ≡ b
one_value area offset a b p q = part-tells a b (p ∙ sym q)

pub one_name : (area : List ℕ) (offset : ℕ) (a b : Result Span Refusal) → part_answer a ≡ name_steps area offset → part_answer b ≡ name_steps area offset → a ≡ b
one_name area offset a b p q = part-tells a b (p ∙ sym q)

pub one-serial : (area : List ℕ) (offset : ℕ) (a b : Result ℕ Refusal) → serial_answer a ≡ serial_steps area offset → serial_answer b ≡ serial_steps area offset → a ≡ b
one-serial area offset a b p q = serial-tells a b (p ∙ sym q)

pub one-lookup : (area name : List ℕ) (a b : Result Span Refusal) → part_answer a ≡ lookup_steps area name → part_answer b ≡ lookup_steps area name → a ≡ b
one-lookup area name a b p q = part-tells a b (p ∙ sym q)

pub one-backup : (area buffer : List ℕ) (v w : Verdict) (a b : List ℕ)
    → leaves (verdict_number v) a ≡ backup_steps area buffer → leaves (verdict_number w) b ≡ backup_steps area buffer → (v ≡ w) × (a ≡ b)
one-backup area buffer v w a b p q = one-outcome (backup_steps area buffer) v w a b p q

-- ---- what find finds is an entry that can be touched
pub found_ok : (area name : List ℕ) (offset m : ℕ) → find_steps area name ≡ accepted (hit offset m) → entry_ok area offset ≡ true
found_ok = answers.found_ok

-- ---- the count that find tells is that of the nodes it compares, kept in 64 bits
pub find-counted : (area name : List ℕ) (offset m : ℕ) → find_steps area name ≡ accepted (hit offset m) → m ≡ length (walked area name) % count_limit
find-counted = answers.find-counted

-- ---- whatever it answers, it compares at most data size / 20 + 1 nodes for each segment
pub walked-most : (area name : List ℕ) → length (walked area name) ≤ length (segments name) * nodes_max area
walked-most = answers.walked-most

-- ---- a backup read that answers 0 filled the buffer with that many slot bytes
pub backup-tells : (area buffer after : List ℕ) → accept_leaving after ≡ backup_steps area buffer → after ≡ part area (byte_of backup_at) (place_of backup_at (length buffer))
backup-tells = backups.backup-tells
