-- What words promise, over every size and place: alignment, reads after writes, the scan, sameness.
use mathlib.Core.Path.{◌≡◌}
use mathlib.Core.Bool.{true}
use mathlib.Core.List.{List}
use Prim.Native.Nat.{ℕ, ◌+◌, ◌%◌, ◌^◌, ◌≤◌, ◌<◌}
use native.Mathlib.Omega.{arith}
use lib.ListN.{length, get_or}
use Rattle.words.specs.Words.{little_at, little_bytes, round_up4, first_in, same_bytes, put}
use Rattle.words.proofs.Laws.{little-agree, put-before, put-after}
use Rattle.words.proofs.Laws as laws

-- ---- align4 gives the least multiple of 4 that is not below n
pub align4-multiple : (n : ℕ) → round_up4 n % 4 ≡ 0
align4-multiple n = omega arith

pub align4-least : (n : ℕ) → (n ≤ round_up4 n) × (round_up4 n < n + 4)
align4-least n = (omega arith, omega arith)

-- ---- a number read elsewhere than bytes were put, and read where it was put
pub little-put-before : (k : ℕ) (s : List ℕ) (i : ℕ) (bs : List ℕ) (at : ℕ) → at + k ≤ i → little_at k (put s i bs) at ≡ little_at k s at
little-put-before k s i bs at h = little-agree k (put s i bs) s at (λ j a b. put-before s i bs j (omega arith))

pub little-put-after : (k : ℕ) (s : List ℕ) (i : ℕ) (bs : List ℕ) (at : ℕ) → i + length bs ≤ at → little_at k (put s i bs) at ≡ little_at k s at
little-put-after k s i bs at h = little-agree k (put s i bs) s at (λ j a b. put-after s i bs j (omega arith))

pub little-put-same : (k : ℕ) (s : List ℕ) (i v : ℕ) → i + k ≤ length s → v < 256 ^ k → little_at k (put s i (little_bytes k v)) i ≡ v
little-put-same = laws.little-put-same

-- ---- no byte before the first that is found is b, and the one there is
pub first-none : (b : ℕ) (s : List ℕ) (at k j : ℕ) → at ≤ j → j < first_in b s at k → get_or s j 0 ≡ b → ⊥
first-none = laws.first-none

pub first-there : (b : ℕ) (s : List ℕ) (at k : ℕ) → first_in b s at k < at + k → get_or s (first_in b s at k) 0 ≡ b
first-there = laws.first-there

-- ---- same_bytes tells equal runs of bytes from others
pub same-eq : (a b : List ℕ) → same_bytes a b ≡ true → a ≡ b
same-eq = laws.same-eq

pub same_self : (a : List ℕ) → same_bytes a a ≡ true
same_self = laws.same_self
