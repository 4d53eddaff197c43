-- Layout (RULES 2; touching 3.2): the one place of sizes, offsets and limits; touching; the words of records; text up to its zero.
use Rattle.std.specs.Prelude.{ℕ, ◌+◌, ◌-◌, ◌%◌, ◌≤◌, Bool, cond, ◌&&◌, List, [], ◌∷◌, length, eqb, leb, Option, Some, None}
use Rattle.words.specs.Words.{little_at, round_up4, first_in}
use Rattle.layout.specs.Refusals.{guard}
use Rattle.layout.specs.declared.text.Span.{Span}

-- ---- numbers are little-endian u32
abbrev pub word_size : ℕ
word_size = 4

abbrev pub word_max : ℕ
word_max = 4294967295

-- ---- header: 128 bytes, used at 0, serial at 4, magic at 8, version at 12, 28 reserved words at 16; an area has 128 to 131,072 bytes
abbrev pub header_size : ℕ
header_size = 128

abbrev pub used_field : ℕ
used_field = 0

abbrev pub area_serial_field : ℕ
area_serial_field = 4

abbrev pub magic_field : ℕ
magic_field = 8

abbrev pub magic_size : ℕ
magic_size = 4

abbrev pub version_field : ℕ
version_field = 12

abbrev pub reserved_field : ℕ
reserved_field = 16

abbrev pub area_min : ℕ
area_min = header_size

abbrev pub area_max : ℕ
area_max = 131072

-- the four bytes PROP
abbrev pub magic : List ℕ
magic = 80 ∷ 82 ∷ 79 ∷ 80 ∷ []

abbrev pub version : ℕ
version = 0xfc6ed0ab

-- ---- node: 20 bytes
abbrev pub node_size : ℕ
node_size = 20

abbrev pub namelen_field : ℕ
namelen_field = 0

abbrev pub prop_field : ℕ
prop_field = 4

abbrev pub left_field : ℕ
left_field = 8

abbrev pub right_field : ℕ
right_field = 12

abbrev pub children_field : ℕ
children_field = 16

-- ---- entry: 96 bytes, value slot of 92 bytes at 4; long entry: message of 56 bytes at 4, relative offset at 60
abbrev pub entry_size : ℕ
entry_size = 96

abbrev pub serial_field : ℕ
serial_field = 0

abbrev pub slot_field : ℕ
slot_field = 4

abbrev pub slot_size : ℕ
slot_size = 92

abbrev pub message_field : ℕ
message_field = 4

abbrev pub message_size : ℕ
message_size = 56

abbrev pub message_length : ℕ
message_length = 50

abbrev pub long_offset_field : ℕ
long_offset_field = message_field + message_size

-- ---- the data begin with the root node; the backup slot is next
abbrev pub root_at : ℕ
root_at = 0

abbrev pub backup_at : ℕ
backup_at = node_size

abbrev pub backup_size : ℕ
backup_size = slot_size

-- the first objects stand behind them; a length that can be formatted holds them
abbrev pub first_free : ℕ
first_free = backup_at + backup_size

abbrev pub format_min : ℕ
format_min = header_size + first_free

-- ---- offsets count from byte 128; data size is area length minus 128
abbrev pub data_size : List ℕ → ℕ
data_size area = length area - header_size

-- the byte at an offset, and the byte that stands so far behind it
abbrev pub byte_of : ℕ → ℕ
byte_of at = header_size + at

abbrev pub place_of : ℕ → ℕ → ℕ
place_of at by = byte_of at + by

-- the word at a field of the header, and at a field of the record at an offset
abbrev pub header_word : List ℕ → ℕ → ℕ
header_word area field = little_at word_size area field

abbrev pub word_at : List ℕ → ℕ → ℕ → ℕ
word_at area at field = little_at word_size area (place_of at field)

-- ---- rooms (RULES 2.8): record, text and zero, rounded up to a multiple of 4
abbrev pub node_takes : ℕ → ℕ
node_takes n = round_up4 (node_size + n + 1)

abbrev pub entry_takes : ℕ → ℕ
entry_takes n = round_up4 (entry_size + n + 1)

abbrev pub value_takes : ℕ → ℕ
value_takes n = round_up4 (n + 1)

-- ---- touching (RULES 3.2): all of the record lies in the data, at a multiple of 4
abbrev pub Within : List ℕ → ℕ → ℕ → Type 0
Within area size at = at + size ≤ data_size area

unfoldable pub touch : List ℕ → ℕ → ℕ → Bool
touch area size at = leb (at + size) (data_size area) && eqb (at % word_size) 0

abbrev pub NodeIn : List ℕ → ℕ → Type 0
NodeIn area at = Within area node_size at

abbrev pub node_ok : List ℕ → ℕ → Bool
node_ok area at = touch area node_size at

abbrev pub EntryIn : List ℕ → ℕ → Type 0
EntryIn area at = Within area entry_size at

abbrev pub entry_ok : List ℕ → ℕ → Bool
entry_ok area at = touch area entry_size at

-- ---- text from a place on: to the first zero within some bytes; none there, or bytes past the area: no text
abbrev pub span_at : ℕ → ℕ → Option Span
span_at from to = Some (record { from = from; to = to })

abbrev pub text_to : ℕ → ℕ → ℕ → Option Span
text_to from to end = cond (eqb to end) None (span_at from to)

unfoldable pub text_in : List ℕ → ℕ → ℕ → Option Span
text_in area from size = guard (leb (from + size) (length area)) None (text_to from (first_in 0 area from size) (from + size))
