-- What the serial promises: an update leaves a short entry's even serial, one count on, with the new length.
use Rattle.std.proofs.Common.{◌≡◌, ℕ, ◌+◌, ◌*◌, ◌/◌, ◌%◌}
use Rattle.serials.specs.Serial.{long_bit, long_in, odd_in, length_in, short_serial, counter_bits, updated_serial, positions, position}
use Rattle.serials.proofs.Laws as laws

-- ---- the serial that an update leaves: its low bits count on, it is even, and it says short
pub counter-low : (n size : ℕ) → (counter_bits n + short_serial size) % long_bit ≡ n % long_bit
counter-low = laws.counter-low

pub updated-even : (serial size : ℕ) → odd_in (updated_serial serial size) ≡ 0
updated-even = laws.updated-even

pub updated-short : (serial size : ℕ) → long_in (updated_serial serial size) ≡ 0
updated-short = laws.updated-short

-- ---- its length byte is the new value's, and a short entry's bits 17 to 23 stay: the carry is lost at bit 16
pub updated-length : (serial size : ℕ) → length_in (updated_serial serial size) ≡ size
updated-length = laws.updated-length

pub updated-high : (serial size : ℕ) → long_in serial ≡ 0 → updated_serial serial size / (2 * long_bit) % 128 ≡ serial / (2 * long_bit) % 128
updated-high = laws.updated-high

-- ---- so of a short entry it is, whole: bits 17 to 23 as they were, the next position, the new length
pub updated-whole : (serial size : ℕ) → long_in serial ≡ 0
    → updated_serial serial size ≡ serial / (2 * long_bit) % 128 * (2 * long_bit) + (position serial + 1) % positions * 2 + short_serial size
updated-whole = laws.updated-whole
