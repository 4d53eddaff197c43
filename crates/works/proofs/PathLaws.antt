-- Laws of a path, a segment at a time, from its end backwards.
use Prim.Native.Nat.{ℕ, zero, suc, ◌+◌, ◌-◌, ◌≤◌, ◌<◌}
use mathlib.Core.Path.{◌≡◌, refl, ap}
use mathlib.Core.Bool.{Bool, true, false, ◌&&◌}
use mathlib.Core.List.{List}
use native.Mathlib.Omega.{arith}
use borrow.Author.Tests.{eq-eqb, ne_eqb, le-leb, lt-ltb}
use lib.ListN.{get_or}
use Rattle.std.specs.List.{list_all, range_with_len}
use Rattle.names.specs.Names.{dot}
use Rattle.layout.specs.Layout.{namelen_field}
use Rattle.walk.specs.Marks.{all}
use Rattle.walk.specs.Model.{field_at, name_from, owner_at, same_at, path_step, path_back}

-- ---- a test of each place of a range
pub all-places : (test : ℕ → Bool) (from k : ℕ) → list_all test (range_with_len from k) ≡ all test from k
unfolding all
all-places test from zero = refl
all-places test from (suc k) = ap (λ b. test from && b) (all-places test (from + 1) k)

-- ---- a segment that is the end of the path, behind a dot: what is said of the part before it decides
module _ (area marks : List ℕ) (rest : ℕ → ℕ → Bool) (n from to size : ℕ) (e : size ≡ field_at area n namelen_field) (short : size ≤ to - from) where
  pub step-on : all (same_at area (to - size) (name_from n)) 0 size ≡ true → (owner : ℕ) → owner ≡ owner_at marks n → (owner ≡ 0 → ⊥)
      → from ≤ to → (to - size ≡ from → ⊥) → (b : ℕ) → b ≡ get_or area (to - size - 1) 0 → b ≡ dot
      → path_step area marks rest n from to ≡ rest owner (to - size - 1)
  unfolding path_step
  step-on same owner f deep low more b g h =
      rw (← e, le-leb size (to - from) short, same, ← f, ne_eqb owner 0 deep, lt-ltb from (to - size) (omega arith), ← g, eq-eqb b dot h)

-- ---- so many segments at most, of which i are behind
module _ (area marks : List ℕ) (k i n from to : ℕ) where
  pub path-turn : i < k → path_back area marks (k - i) n from to ≡ path_step area marks (λ owner end. path_back area marks (k - (i + 1)) owner from end) n from to
  unfolding path_back
  path-turn h =
      let e : k - i ≡ suc (k - (i + 1)) = omega arith in
      ap (λ (j : ℕ). path_back area marks j n from to) e

  pub path-none : k ≤ i → path_back area marks (k - i) n from to ≡ false
  unfolding path_back
  path-none h =
      let e : k - i ≡ 0 = omega arith in
      ap (λ (j : ℕ). path_back area marks j n from to) e

pub ruleset path_laws = (path-turn, path-none)
