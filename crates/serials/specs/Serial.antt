-- The serial of an entry (RULES 2.9, 5.8): the one place of its bits. Bit 0 is set while a value is written, bits 1 to 15 count updates, bit 16 says long, bits 17
-- to 23 stay, the top byte holds a length.
use Rattle.std.specs.Prelude.{ℕ, ◌+◌, ◌-◌, ◌*◌, ◌/◌, ◌%◌, ◌^◌}
use Rattle.layout.specs.Layout.{message_length}

abbrev pub long_bit : ℕ
long_bit = 2 ^ 16

abbrev pub length_unit : ℕ
length_unit = 2 ^ 24

-- 1 for a long entry, 0 for a short one
abbrev pub long_in : ℕ → ℕ
long_in serial = serial / long_bit % 2

-- 1 while a value is written, else 0
abbrev pub odd_in : ℕ → ℕ
odd_in serial = serial % 2

-- the top byte
abbrev pub length_in : ℕ → ℕ
length_in serial = serial / length_unit

-- the serial of a short entry is its length times 2^24
abbrev pub short_serial : ℕ → ℕ
short_serial size = size * length_unit

-- a long entry's serial is 0x32010000: the message's length, and bit 16
abbrev pub long_serial : ℕ
long_serial = message_length * length_unit + long_bit

-- serial or 1
abbrev pub dirty : ℕ → ℕ
dirty serial = serial / 2 * 2 + 1

-- and 0x00feffff: the bits below the length, without the one that says long
abbrev pub counter_bits : ℕ → ℕ
counter_bits n = n % length_unit - long_in n * long_bit

-- (((serial or 1) + 1) and 0x00feffff) plus length times 2^24
unfoldable pub updated_serial : ℕ → ℕ → ℕ
updated_serial serial size = counter_bits (dirty serial + 1) + short_serial size

-- how many positions there are: they go round
abbrev pub positions : ℕ
positions = 32768

-- position is (serial mod 65,536) / 2 rounded down
abbrev pub position : ℕ → ℕ
position serial = serial % (2 * positions) / 2
