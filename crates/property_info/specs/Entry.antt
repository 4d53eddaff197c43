-- Value (RULES 4.3, 4.4): what an entry shows, and where it stands. The entry has been touched.
use Rattle.std.specs.Prelude.{ℕ, ◌-◌, Bool, cond, List, length, eqb, leb, Option, Some, None}
use Rattle.words.specs.Words.{first_in}
use Rattle.layout.specs.declared.text.Span.{Span}
use Rattle.serials.specs.Serial.{long_in}
use Rattle.layout.specs.Refusals.{guard}
use Rattle.layout.specs.Layout.{serial_field, slot_field, slot_size, long_offset_field, entry_size, entry_takes, place_of, word_at, span_at, text_in}

-- long: serial bit 16 set; short: clear
unfoldable pub is_long : List ℕ → ℕ → Bool
is_long area at = eqb (long_in (word_at area at serial_field)) 1

-- slot bytes up to the first zero, all 92 if none
abbrev pub slot_end : List ℕ → ℕ → ℕ
slot_end area at = first_in 0 area (place_of at slot_field) slot_size

unfoldable pub short_value : List ℕ → ℕ → Option Span
short_value area at = span_at (place_of at slot_field) (slot_end area at)

-- a text that runs to the next zero in the area
abbrev pub text_from : List ℕ → ℕ → Option Span
text_from area from = text_in area from (length area - from)

-- the full dotted name
unfoldable pub name_of : List ℕ → ℕ → Option Span
name_of area at = text_from area (place_of at entry_size)

-- RULES 4.4: no relative offset that leads into the entry or its name; the value ends at a zero of the area
abbrev pub behind_name : List ℕ → ℕ → ℕ → Option Span → Option Span
behind_name area at relative (Some name) = guard (leb (entry_takes (name.to - name.from)) relative) None (text_from area (place_of at relative))
behind_name area at relative None = None

-- no zero behind the name, or less offset: no value
unfoldable pub long_value : List ℕ → ℕ → Option Span
long_value area at = behind_name area at (word_at area at long_offset_field) (name_of area at)

-- the serial's top byte is not consulted
unfoldable pub value_of : List ℕ → ℕ → Option Span
value_of area at = cond (is_long area at) (long_value area at) (short_value area at)
