-- Laws of the marks: a test of each byte of a part, a number stored.
use Prim.Native.Nat.{ℕ, zero, suc, ◌+◌, ◌-◌, ◌/◌, ◌%◌, ◌≤◌}
use mathlib.Core.Path.{◌≡◌, refl, ap}
use mathlib.Core.Bool.{Bool, ◌&&◌}
use mathlib.Core.List.{List}
use native.Mathlib.Nat.{add_assoc}
use native.Mathlib.Omega.{arith}
use lib.ListN.{length, get_or, set, take, drop}
use Rattle.std.specs.List.{list_all, slice_range}
use Rattle.std.proofs.lemmas.List.{drop_more}
use Rattle.words.specs.Words.{put}
use Rattle.walk.specs.Marks.{all, base, write}

-- ---- a test of each byte of a part, by its place
pub all_part : (test : ℕ → Bool) (s : List ℕ) (k from : ℕ) → from + k ≤ length s → list_all test (take k (drop from s)) ≡ all (λ i. test (get_or s i 0)) from k
unfolding all
all_part test s zero from h = refl
all_part test s (suc k) from h = rw (drop_more s from 0 (omega arith)) (ap (λ b. test (get_or s from 0) && b) (all_part test s k (from + 1) (omega arith)))

pub all_range : (test : ℕ → Bool) (s : List ℕ) (from k : ℕ) → from + k ≤ length s → list_all test (slice_range s from (from + k)) ≡ all (λ i. test (get_or s i 0)) from k
all_range test s from k h =
    let e : from + k - from ≡ k = omega arith in
    rw e (all_part test s k from h)

-- ---- a number in three marks: the stores that code makes
pub write-digits : (marks : List ℕ) (n x : ℕ) →
    write marks n x ≡ set (set (set marks n (x % base + 1)) (n + 1) (x / base % base + 1)) (n + 2) (x / base / base % base + 1)
unfolding write put
write-digits marks n x = simp add_assoc
