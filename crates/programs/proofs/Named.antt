-- Laws that the papers name and that no proof here needs any more.
use Prim.Native.Nat.{ℕ, ◌≤◌, ◌<◌}
use mathlib.Core.Path.{◌≡◌}
use native.Mathlib.Omega.{arith}

-- ---- a place that is not where it was has moved on
pub moved_on : (from next : ℕ) → from ≤ next → (next ≡ from → ⊥) → from < next
moved_on from next h stays = omega arith
