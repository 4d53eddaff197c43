-- The position of a serial after an update, and after a list of them: only the serial's low bits make it. And the whole serial after a list of them.
use Rattle.std.proofs.Common.{◌≡◌, ℕ, ◌+◌, ◌*◌, ◌/◌, ◌%◌, List, [], ◌∷◌, ◌++◌, length, refl, ◌∙◌, arith}
use Rattle.serials.specs.Serial.{long_bit, long_in, dirty, short_serial, updated_serial, positions, position}
use Rattle.serials.proofs.Promises.{counter-low, updated-short, updated-high, updated-whole}
use Rattle.counters.specs.Distance.{serial_after}

updated-low : (serial size : ℕ) → updated_serial serial size % (2 * positions) ≡ (dirty serial + 1) % (2 * positions)
unfolding updated_serial
updated-low serial size = counter-low (dirty serial + 1) size

pub updated-position : (serial size : ℕ) → position (updated_serial serial size) ≡ (position serial + 1) % positions
updated-position serial size = omega (arith, updated-low serial size)

pub position-after : (sizes : List ℕ) (serial : ℕ) → position (serial_after serial sizes) ≡ (position serial + length sizes) % positions
unfolding serial_after
position-after [] serial = omega arith
position-after (size ∷ sizes) serial = position-after sizes _ ∙ one_more _ (updated-position serial _)
  where
    one_more : (moved : ℕ) → moved ≡ (position serial + 1) % positions → (moved + length sizes) % positions ≡ (position serial + length (size ∷ sizes)) % positions
    one_more moved e = omega (arith, e)

-- ---- one list of updates, then another
pub after_both : (a b : List ℕ) (serial : ℕ) → serial_after serial (a ++ b) ≡ serial_after (serial_after serial a) b
unfolding serial_after
after_both [] b serial = refl
after_both (size ∷ a) b serial = after_both a b _

-- ---- a short entry's serial says short after each of them, and its bits 17 to 23 stay
abbrev high : ℕ → ℕ
high serial = serial / (2 * long_bit) % 128

after-short : (sizes : List ℕ) (serial : ℕ) → long_in serial ≡ 0 → long_in (serial_after serial sizes) ≡ 0
unfolding serial_after
after-short [] serial short = short
after-short (size ∷ sizes) serial short = after-short sizes _ (updated-short serial _)

after-high : (sizes : List ℕ) (serial : ℕ) → long_in serial ≡ 0 → high (serial_after serial sizes) ≡ high serial
unfolding serial_after
after-high [] serial short = refl
after-high (size ∷ sizes) serial short = after-high sizes _ (updated-short serial _) ∙ updated-high serial _ short

-- ---- so after the last one it is
pub after-whole : (sizes : List ℕ) (size serial : ℕ) → long_in serial ≡ 0
    → serial_after serial (sizes ++ size ∷ []) ≡ serial / (2 * long_bit) % 128 * (2 * long_bit) + (position serial + length sizes + 1) % positions * 2 + short_serial size
unfolding serial_after
after-whole sizes size serial short =
    let last = serial_after serial sizes in
    let moved : (position last + 1) % positions ≡ (position serial + length sizes + 1) % positions = omega (arith, position-after sizes serial) in
    after_both sizes (size ∷ []) serial ∙ updated-whole last size (after-short sizes serial short) ∙ rw (after-high sizes serial short, moved) refl
