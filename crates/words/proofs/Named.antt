-- Laws that the papers name and that no proof here needs any more.
use Prim.Native.Nat.{ℕ, suc, ◌+◌, ◌/◌, ◌%◌, ◌≤◌, ◌<◌}
use mathlib.Core.Path.{◌≡◌, refl, ap}
use mathlib.Core.Bool.{true, false}
use mathlib.Core.List.{List, [], ◌∷◌}
use native.Mathlib.Nat.{add_assoc}
use borrow.Author.Tests.{ne_eqb}
use lib.Dec.{eqb}
use lib.ListN.{length, get_or, set, drop, drop_of_length-le}
use lib.Seq.{drop-cons}
use Rattle.words.specs.Words.{little_bytes, put, same_bytes}
use Rattle.words.proofs.Laws.{bool_cases}

-- ---- four stores, one for each byte
pub put_four : (s : List ℕ) (at v : ℕ) →
    put s at (little_bytes 4 v)
    ≡ set (set (set (set s at (v % 256)) (at + 1) (v / 256 % 256)) (at + 2) (v / 256 / 256 % 256)) (at + 3) (v / 256 / 256 / 256 % 256)
unfolding put little_bytes
put_four s at v = simp add_assoc

-- ---- sameness
pub same_length : (a b : List ℕ) → (length a ≡ length b → ⊥) → false ≡ same_bytes a b
unfolding same_bytes
same_length [] [] h = absurd (h refl)
same_length [] (y ∷ ys) h = refl
same_length (x ∷ xs) [] h = refl
same_length (x ∷ xs) (y ∷ ys) h =
    bool_cases (eqb x y)
    (λ e. rw e (same_length xs ys (λ z. h (ap suc z))))
    (λ e. rw e)

module _ (a b : List ℕ) (i : ℕ) (ha : i < length a) (hb : i < length b) where
  pub same_not : (get_or a i 0 ≡ get_or b i 0 → ⊥) → false ≡ same_bytes (drop i a) (drop i b)
  unfolding same_bytes
  same_not h = rw (drop-cons a i 0, drop-cons b i 0, ne_eqb (get_or a i 0) (get_or b i 0) h)

pub same_end : (a b : List ℕ) (i : ℕ) → length a ≤ i → length b ≤ i → true ≡ same_bytes (drop i a) (drop i b)
unfolding same_bytes
same_end a b i h k = rw (drop_of_length-le a {i = i} h, drop_of_length-le b {i = i} k)
