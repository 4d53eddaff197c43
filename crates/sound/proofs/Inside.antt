-- The count of one extent: where it is 1, where 0, parts of it, two end to end.
use Prim.Native.Nat.{ℕ, ◌+◌, ◌-◌, ◌≤◌, ◌<◌}
use native.Mathlib.Omega.{arith}
use native.Mathlib.Decide.{dec_lt}
use mathlib.Core.Path.{◌≡◌, refl}
use mathlib.Core.Logic.{◌⊎◌, inl, inr}
use borrow.Author.Tests.{le-leb, lt-leb, lt-ltb, le-ltb}
use Rattle.sound.specs.Tree.{inside}

module _ (from size i : ℕ) where
  pub inside-yes : from ≤ i → i < from + size → inside from size i ≡ 1
  unfolding inside
  inside-yes low high = rw (le-leb from i low, lt-ltb i (from + size) high) refl

  pub inside-below : i < from → inside from size i ≡ 0
  unfolding inside
  inside-below h = rw (lt-leb from i h) refl

  pub inside-above : from + size ≤ i → inside from size i ≡ 0
  unfolding inside
  inside-above h = by (dec_lt i from)
    where
      by : Dec (i < from) → inside from size i ≡ 0
      by (yes p) = inside-below p
      by (no p) = rw (le-leb from i (omega arith), le-ltb i (from + size) h) refl

  -- a place is outside, or it is counted once
  pub inside-cases : (inside from size i ≡ 0) ⊎ ((inside from size i ≡ 1) × (from ≤ i) × (i < from + size))
  inside-cases = by (dec_lt i from) (dec_lt i (from + size))
    where
      by : Dec (i < from) → Dec (i < from + size) → (inside from size i ≡ 0) ⊎ ((inside from size i ≡ 1) × (from ≤ i) × (i < from + size))
      by (yes p) q = inl (inside-below p)
      by (no p) (yes q) = inr (inside-yes (omega arith) q, omega arith, q)
      by (no p) (no q) = inl (inside-above (omega arith))

  pub inside-most : inside from size i ≤ 1
  inside-most = elim inside-cases [ inl h ↦ omega arith | inr h ↦ omega arith ]

  pub inside-low : 1 ≤ inside from size i → from ≤ i
  inside-low k = elim inside-cases [ inl h ↦ absurd (omega arith) | inr h ↦ h.1 ]

  pub inside-high : 1 ≤ inside from size i → i < from + size
  inside-high k = elim inside-cases [ inl h ↦ absurd (omega arith) | inr h ↦ h.2 ]

pub inside-part : (from size part less i : ℕ) → from ≤ part → part + less ≤ from + size → inside part less i ≤ inside from size i
inside-part from size part less i low high =
    elim (inside-cases part less i) [ inl z ↦ omega arith | inr z ↦ omega (arith, inside-yes from size i (omega arith) (omega arith)) ]

pub inside-join : (from size more i : ℕ) → inside from size i + inside (from + size) more i ≡ inside from (size + more) i
inside-join from size more i = by (dec_lt i from) (dec_lt i (from + size)) (dec_lt i (from + size + more))
  where
    by : Dec (i < from) → Dec (i < from + size) → Dec (i < from + size + more) → inside from size i + inside (from + size) more i ≡ inside from (size + more) i
    by (yes p) q r = omega (arith, inside-below from size i p, inside-below (from + size) more i (omega arith), inside-below from (size + more) i p)
    by (no p) (yes q) r =
        omega (arith, inside-yes from size i (omega arith) q, inside-below (from + size) more i (omega arith), inside-yes from (size + more) i (omega arith) (omega arith))
    by (no p) (no q) (yes r) =
        omega (arith, inside-above from size i (omega arith), inside-yes (from + size) more i (omega arith) (omega arith), inside-yes from (size + more) i (omega arith) (omega arith))
    by (no p) (no q) (no r) =
        omega (arith, inside-above from size i (omega arith), inside-above (from + size) more i (omega arith), inside-above from (size + more) i (omega arith))

-- an extent within another lies between its ends
pub inside-between : (from size lo hi : ℕ) → 1 ≤ size → lo ≤ hi → ((i : ℕ) → inside from size i ≤ inside lo (hi - lo) i) → (lo ≤ from) × (from + size ≤ hi)
inside-between from size lo hi some le within = (
  inside-low lo (hi - lo) from (omega (arith, within from, inside-yes from size from (omega arith) (omega arith))),
  omega (arith, inside-high lo (hi - lo) (from + (size - 1)) (omega (arith, within (from + (size - 1)), inside-yes from size (from + (size - 1)) (omega arith) (omega arith)))),
)
