-- Every call on an area, by the number that it answers with (RULES 9, 10.5).
use Rattle.std.specs.Prelude.{ℕ, ◌≡◌, ◌≢◌, List}
use Rattle.layout.specs.declared.refusal.Refusal.{Refusal}
use Rattle.layout.specs.Refusals.{Answer, accepted, refused, number_of, no_refusal, number_in}
use Rattle.property_area.specs.Find.{hit, find_steps}
use Rattle.property_area.specs.Value.{value_steps, name_steps, serial_steps}
use Rattle.property_area.specs.Lookup.{lookup_steps}
use Rattle.property_area.specs.Backup.{backup_steps}
use Rattle.builder.specs.Fresh.{format_steps}
use Rattle.updates.specs.Update.{raw_steps}
use Rattle.audit.specs.Check.{Judged, check_steps, Listing, lists, list_steps}
use Rattle.dumping.specs.Dump.{Filled, fills, fill_steps}
use Rattle.history.specs.History.{Op, call}

-- the number of an answer: 0 where it is accepted
abbrev pub answer_number : {A : Type 0} → Answer A → ℕ
answer_number (accepted a) = no_refusal
answer_number (refused number) = number

abbrev pub listing_number : Listing → ℕ
listing_number (lists answer scratch list) = answer_number answer

abbrev pub filled_number : Filled → ℕ
filled_number (fills answer room scratch list) = answer_number answer

-- some call answers with that number: whatever its name, value and buffers, and however the area is judged; an offset is one that find answered
pub data Answers (area : List ℕ) : ℕ → Type 0 where
  by_format : Answers area (number_in (format_steps area))
  by_call : (op : Op) → Answers area (number_in (call area op))
  by_find : (name : List ℕ) → Answers area (answer_number (find_steps area name))
  by_lookup : (name : List ℕ) → Answers area (answer_number (lookup_steps area name))
  by_value : (name : List ℕ) (at count : ℕ) → find_steps area name ≡ accepted (hit at count) → Answers area (answer_number (value_steps area at))
  by_name : (name : List ℕ) (at count : ℕ) → find_steps area name ≡ accepted (hit at count) → Answers area (answer_number (name_steps area at))
  by_serial : (name : List ℕ) (at count : ℕ) → find_steps area name ≡ accepted (hit at count) → Answers area (answer_number (serial_steps area at))
  by_raw : (name : List ℕ) (at count : ℕ) → find_steps area name ≡ accepted (hit at count) → (backup value : List ℕ) → Answers area (number_in (raw_steps area at backup value))
  by_backup : (buffer : List ℕ) → Answers area (number_in (backup_steps area buffer))
  by_check : (scratch : List ℕ) (judged : Judged area) → Answers area (number_in (check_steps area scratch judged))
  by_list : (scratch list : List ℕ) (judged : Judged area) → Answers area (listing_number (list_steps area scratch list judged))
  by_dump : (scratch list room : List ℕ) (judged : Judged area) → Answers area (filled_number (fill_steps area scratch list room judged))

-- neither damage nor a bad header
abbrev pub Undamaged : ℕ → Type 0
Undamaged number = (number ≢ number_of Refusal.Damaged) × (number ≢ number_of Refusal.BadHeader)
