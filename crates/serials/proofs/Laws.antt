-- The serial that an update leaves: as code computes it, and by its bits: those that count, the one that says long, those above it, and the length.
use Rattle.std.proofs.Common.{◌≡◌, ℕ, ◌+◌, ◌-◌, ◌*◌, ◌/◌, ◌%◌, ◌^◌, ◌<◌, ap, ◌∙◌, arith}
use Rattle.std.proofs.Common.{Bool, true, false, ◌==◌, sym}
use Rattle.std.proofs.lemmas.Bool.{eqb-true, eqb-false}
use Rattle.std.specs.Int.{from_bool}
use native.Mathlib.Nat.{div-div-eq-div-mul}
use Rattle.serials.specs.Serial.{long_bit, length_unit, long_in, odd_in, length_in, dirty, counter_bits, updated_serial, short_serial, positions, position}

-- ---- the counter may wrap at 32 bits: its low 24 are the same
counter-wraps : (n : ℕ) → counter_bits (n % 2 ^ 32) ≡ counter_bits n
counter-wraps n =
    let e : n % 2 ^ 32 % length_unit ≡ n % length_unit = omega arith in
    let f : long_in (n % 2 ^ 32) ≡ long_in n = omega arith in
    rw (e, f)

-- the bit that says long, from its test
long-bit : (n : ℕ) (long : Bool) → long ≡ (long_in n == 1) → from_bool long ≡ long_in n
long-bit n true e = sym (eqb-true (long_in n) 1 (sym e))
long-bit n false e = omega (arith, eqb-false (long_in n) 1 (sym e))

pub next-serial : (serial size counter : ℕ) → counter ≡ (dirty serial + 1) % 2 ^ 32 → (long : Bool) → long ≡ (long_in counter == 1) → (top : ℕ) → top ≡ short_serial size
    → counter % length_unit - from_bool long * long_bit + top ≡ updated_serial serial size
unfolding updated_serial
next-serial serial size counter e long f top g = rw (g, long-bit counter long f, e) (rw (counter-wraps (dirty serial + 1)))

-- ---- its bits
pub counter-low : (n size : ℕ) → (counter_bits n + short_serial size) % long_bit ≡ n % long_bit
counter-low n size =
    let e : n / long_bit / 256 ≡ n / length_unit = div-div-eq-div-mul n long_bit 256 in
    let f : n % length_unit ≡ n / long_bit % 256 * long_bit + n % long_bit = omega arith in
    omega arith

pub updated-even : (serial size : ℕ) → odd_in (updated_serial serial size) ≡ 0
unfolding updated_serial
updated-even serial size = omega arith

pub updated-short : (serial size : ℕ) → long_in (updated_serial serial size) ≡ 0
unfolding updated_serial
updated-short serial size = omega arith

pub updated-length : (serial size : ℕ) → length_in (updated_serial serial size) ≡ size
unfolding updated_serial
updated-length serial size = omega arith

-- the counter's bits, by what stands above bit 16 and what stands below
low_byte : (q : ℕ) → q % 256 ≡ q / 2 % 128 * 2 + q % 2
low_byte q = let e : q / 2 / 128 ≡ q / 256 = div-div-eq-div-mul q 2 128 in omega arith

regroup : (a b r : ℕ) → (a * 2 + b) * long_bit + r - b * long_bit ≡ a * (2 * long_bit) + r
regroup a b r = omega arith

counter-split : (n : ℕ) → counter_bits n ≡ n / (2 * long_bit) % 128 * (2 * long_bit) + n % long_bit
counter-split n =
    let q = n / long_bit in
    let high : q / 256 ≡ n / length_unit = div-div-eq-div-mul n long_bit 256 in
    let half : q / 2 ≡ n / (2 * long_bit) = div-div-eq-div-mul n long_bit 2 in
    let low : n % length_unit ≡ q % 256 * long_bit + n % long_bit = omega (arith, high) in
    ap (λ (x : ℕ). x - q % 2 * long_bit) (low ∙ ap (λ (x : ℕ). x * long_bit + n % long_bit) (low_byte q))
    ∙ regroup (q / 2 % 128) (q % 2) (n % long_bit)
    ∙ ap (λ (x : ℕ). x % 128 * (2 * long_bit) + n % long_bit) half

above : (a r size : ℕ) → a < 128 → r < long_bit → (a * (2 * long_bit) + r + size * length_unit) / (2 * long_bit) % 128 ≡ a
above a r size h k = omega arith

no-carry : (serial : ℕ) → long_in serial ≡ 0 → (dirty serial + 1) / (2 * long_bit) ≡ serial / (2 * long_bit)
no-carry serial short = omega arith

pub updated-high : (serial size : ℕ) → long_in serial ≡ 0 → updated_serial serial size / (2 * long_bit) % 128 ≡ serial / (2 * long_bit) % 128
unfolding updated_serial
updated-high serial size short =
    rw (counter-split (dirty serial + 1), no-carry serial short)
    (above (serial / (2 * long_bit) % 128) ((dirty serial + 1) % long_bit) size (omega arith) (omega arith))

-- ---- the whole of it
low-next : (serial : ℕ) → (dirty serial + 1) % long_bit ≡ (position serial + 1) % positions * 2
low-next serial = omega arith

pub updated-whole : (serial size : ℕ) → long_in serial ≡ 0
    → updated_serial serial size ≡ serial / (2 * long_bit) % 128 * (2 * long_bit) + (position serial + 1) % positions * 2 + short_serial size
unfolding updated_serial
updated-whole serial size short = rw (counter-split (dirty serial + 1), no-carry serial short, low-next serial)
