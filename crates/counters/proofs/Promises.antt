-- What the update distance counts, and what a serial is after updates. That the distance is the difference of positions stands in its contract.
use Rattle.std.proofs.Common.{◌≡◌, ℕ, ◌+◌, ◌*◌, ◌/◌, ◌%◌, ◌<◌, List, [], ◌∷◌, ◌++◌, length, sym, ◌∙◌, arith}
use Rattle.serials.specs.Serial.{long_bit, long_in, short_serial, updated_serial, positions, position}
use Rattle.counters.specs.Distance.{distance, serial_after}
use Rattle.counters.proofs.Laws as laws

-- ---- an update moves a serial by one position
pub updated-position : (serial size : ℕ) → position (updated_serial serial size) ≡ (position serial + 1) % positions
updated-position = laws.updated-position

-- ---- and k updates by k: positions go round at 32,768
pub position-after : (sizes : List ℕ) (serial : ℕ) → position (serial_after serial sizes) ≡ (position serial + length sizes) % positions
position-after = laws.position-after

-- ---- the serial after them, of a short entry: bits 17 to 23 as they were, that position, the last one's length; so bits 0 and 16 are 0
pub after-whole : (sizes : List ℕ) (size serial : ℕ) → long_in serial ≡ 0
    → serial_after serial (sizes ++ size ∷ []) ≡ serial / (2 * long_bit) % 128 * (2 * long_bit) + (position serial + length sizes + 1) % positions * 2 + short_serial size
after-whole = laws.after-whole

-- ---- the distance is the number of updates made between two serials, and goes round: 32,768 updates look like none
pub distance-round : (sizes : List ℕ) (serial : ℕ) → distance serial (serial_after serial sizes) ≡ length sizes % positions
distance-round sizes serial = omega (arith, position-after sizes serial)

-- ---- so below 32,768 it is their number
pub distance-counts : (sizes : List ℕ) (serial : ℕ) → length sizes < positions → distance serial (serial_after serial sizes) ≡ length sizes
distance-counts sizes serial few = omega (arith, distance-round sizes serial)

-- ---- no second outcome
pub one-distance : (earlier later r s : ℕ) → r ≡ distance earlier later → s ≡ distance earlier later → r ≡ s
one-distance earlier later r s p q = p ∙ sym q
