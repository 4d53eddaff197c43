-- Value (RULES 4.5 to 4.7): of the entry at an offset; its name, and its serial.
use Rattle.std.specs.Prelude.{ℕ, ◌≤◌, List, [], length, Option, Some, None, Result}
use Rattle.words.specs.Words.{part}
use Rattle.layout.specs.declared.refusal.Refusal.{Refusal}
use Rattle.layout.specs.declared.text.Span.{Span}
use Rattle.layout.specs.Refusals.{Answer, accepted, refused, refuse, answered, guard}
use Rattle.layout.specs.Layout.{serial_field, entry_ok, word_at}
use Rattle.property_info.specs.Entry.{name_of, value_of}
use Rattle.trie.specs.Header.{header_ok}

-- a value, and a name, is a part of the lent area: where it begins and ends
pub data Part : Type 0 where
  bytes : (from to : ℕ) → Part

abbrev pub part_bytes : List ℕ → Part → List ℕ
part_bytes area (bytes from to) = part area from to

-- what each case of the answer means
abbrev pub part_answer : Result Span Refusal → Answer Part
part_answer = answered (λ (span : Span). bytes span.from span.to)

-- no zero, or less offset: 5
abbrev pub by_span : Option Span → Answer Part
by_span (Some span) = accepted (bytes span.from span.to)
by_span None = refuse Refusal.Damaged

-- 8; the entry is touched (5); then what is read of it
unfoldable pub touch_steps : {A : Type 0} → List ℕ → ℕ → Answer A → Answer A
touch_steps area offset read = guard (header_ok area) (refuse Refusal.BadHeader) (guard (entry_ok area offset) (refuse Refusal.Damaged) read)

abbrev pub part_steps : List ℕ → ℕ → Option Span → Answer Part
part_steps area offset span = touch_steps area offset (by_span span)

-- what it shows
abbrev pub value_steps : List ℕ → ℕ → Answer Part
value_steps area offset = part_steps area offset (value_of area offset)

-- its name
abbrev pub name_steps : List ℕ → ℕ → Answer Part
name_steps area offset = part_steps area offset (name_of area offset)

-- that part; none where it is refused
abbrev pub part_or_none : List ℕ → Answer Part → List ℕ
part_or_none area (accepted place) = part_bytes area place
part_or_none area (refused number) = []

-- it lies in the area
abbrev pub LiesIn : List ℕ → Span → Type 0
LiesIn area span = (span.from ≤ span.to) × (span.to ≤ length area)

-- ---- its serial
abbrev pub serial_answer : Result ℕ Refusal → Answer ℕ
serial_answer = answered (λ (serial : ℕ). serial)

abbrev pub serial_steps : List ℕ → ℕ → Answer ℕ
serial_steps area offset = touch_steps area offset (accepted (word_at area offset serial_field))
