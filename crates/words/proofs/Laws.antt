-- Laws of specs/Words.antt: cases by a test, numbers by their bytes, a run of stores, the scan, sameness.
use mathlib.Core.Path.{◌≡◌, refl, ap, ◌∙◌}
use mathlib.Core.Bool.{Bool, true, false, not}
use mathlib.Core.List.{List, [], ◌∷◌, append_assoc, append-nil}
use Prim.Native.Nat.{ℕ, zero, suc, ◌+◌, ◌-◌, ◌*◌, ◌/◌, ◌%◌, ◌^◌, ◌≤◌, ◌<◌}
use native.Mathlib.Nat.{add-zero, add_assoc, pow-suc, div-lt_iff_lt-mul}
use native.Mathlib.Numerals.{add-one}
use native.Mathlib.Omega.{arith}
use borrow.Author.Tests.{ltb-false, eq-eqb, eqb-true, eqb-false}
use lib.Dec.{eqb, ltb}
use lib.ListN.{length, get_or, set, take, drop, length-set, length-take, length-drop, drop_of_length-le}
use lib.Seq.{get_or-set_same, get_or-set_other, drop-cons, drop-drop, sets, sets-eq, length-sets}
use borrow.Rule.Slice.PartMut.{put_mid}
use Rattle.std.specs.Prelude.{Option, MatchOption, nat_eq}
use Rattle.std.specs.Int.{w32, to_le_bytes}
use Rattle.std.specs.List.{position, position_or_len}
use Rattle.std.specs.Cmp.Lexicographic.{pointwise}
use Rattle.std.proofs.lemmas.List.Sums.{prefix_len-le-length}
use Rattle.words.specs.Words.{little_at, little_bytes, part, first_in, same_bytes, put}

-- a case by a test, with the test's value as an equation
pub bool_cases {ℓ} : {P : Type ℓ} (t : Bool) → (t ≡ true → P) → (t ≡ false → P) → P
bool_cases true f g = f refl
bool_cases false f g = g refl

-- two constructors of one type are never equal: `cc` has 0 ≡ 1 from that, and anything follows
pub clash {ℓ} : {P : Type ℓ} → ◌≡◌ {A = ℕ} 0 1 → P
clash e = absurd (omega (arith, e))

-- ---- numbers
-- a word by its four bytes, at the places that `word` names
pub word_bytes : (s : List ℕ) (at : ℕ) → little_at 4 s at ≡ get_or s at 0 + 256 * (get_or s (at + 1) 0 + 256 * (get_or s (at + 2) 0 + 256 * get_or s (at + 3) 0))
unfolding little_at
word_bytes s at = simp (add_assoc, add-zero)

pub little-bound : (k : ℕ) (s : List ℕ) (at : ℕ) → ((i : ℕ) → get_or s i 0 < 256) → little_at k s at < 256 ^ k
unfolding little_at
little-bound zero s at h = omega arith
little-bound (suc k) s at h = rw pow-suc (omega (arith, h at, little-bound k s (at + 1) h))

-- a number rests on its own bytes alone
pub little-agree : (k : ℕ) (s t : List ℕ) (at : ℕ) → ((j : ℕ) → at ≤ j → j < at + k → get_or s j 0 ≡ get_or t j 0) → little_at k s at ≡ little_at k t at
unfolding little_at
little-agree zero s t at h = refl
little-agree (suc k) s t at h =
    let e : get_or s at 0 ≡ get_or t at 0 = h at (omega arith) (omega arith) in
    let f : little_at k s (at + 1) ≡ little_at k t (at + 1) = little-agree k s t (at + 1) (λ j a b. h j (omega arith) (omega arith)) in
    rw (e, f)

pub length-little : (k v : ℕ) → length (little_bytes k v) ≡ k
unfolding little_bytes
length-little zero v = refl
length-little (suc k) v = ap suc (length-little k (v / 256))

-- ---- a run of stores
-- the library's run of them
put_sets : (s : List ℕ) (at : ℕ) (bs : List ℕ) → put s at bs ≡ sets s at bs
unfolding put
put_sets s at [] = refl
put_sets s at (b ∷ bs) = rw add-one (put_sets (set s at b) (suc at) bs)

pub put-length : (s : List ℕ) (at : ℕ) (bs : List ℕ) → length (put s at bs) ≡ length s
put-length s at bs = rw put_sets (length-sets s at bs)

-- the four bytes of a word are those that `to_le_bytes` gives
pub little_word : (v : ℕ) → to_le_bytes w32 v ≡ little_bytes 4 v
unfolding little_bytes
little_word v =
    let e : v / 256 ^ 2 % 256 ≡ v / 256 / 256 % 256 = omega arith in
    let f : v / 256 ^ 3 % 256 ≡ v / 256 / 256 / 256 % 256 = omega arith in
    rw (e, f)

-- what stands before it, behind it and in it
pub put-before : (s : List ℕ) (at : ℕ) (bs : List ℕ) (j : ℕ) → j < at → get_or (put s at bs) j 0 ≡ get_or s j 0
unfolding put
put-before s at [] j h = refl
put-before s at (b ∷ bs) j h = put-before (set s at b) (at + 1) bs j (omega arith) ∙ get_or-set_other s at j b 0 (λ e. omega arith)

pub put-after : (s : List ℕ) (at : ℕ) (bs : List ℕ) (j : ℕ) → at + length bs ≤ j → get_or (put s at bs) j 0 ≡ get_or s j 0
unfolding put
put-after s at [] j h = refl
put-after s at (b ∷ bs) j h = put-after (set s at b) (at + 1) bs j (omega arith) ∙ get_or-set_other s at j b 0 (λ e. omega arith)

pub put_same : (s : List ℕ) (at : ℕ) (bs : List ℕ) (k : ℕ) → k < length bs → at + length bs ≤ length s → get_or (put s at bs) (at + k) 0 ≡ get_or bs k 0
unfolding put
put_same s at [] k h f = absurd (omega arith)
put_same s at (b ∷ bs) zero h f = rw add-zero (put-before (set s at b) (at + 1) bs at (omega arith) ∙ get_or-set_same s at b 0 (omega arith))
put_same s at (b ∷ bs) (suc k) h f =
    let e : at + suc k ≡ at + 1 + k = omega arith in
    rw e (put_same (set s at b) (at + 1) bs k (omega arith) (simp length-set (omega arith)))

-- a number read where it was put
pub little-put-same : (k : ℕ) (s : List ℕ) (i v : ℕ) → i + k ≤ length s → v < 256 ^ k → little_at k (put s i (little_bytes k v)) i ≡ v
unfolding little_at little_bytes put
little-put-same zero s i v f h = omega arith
little-put-same (suc k) s i v f h =
    let b : v / 256 < 256 ^ k = (div-lt_iff_lt-mul {k = 256} (omega arith)).1 (rw pow-suc at h) in
    let rest = little_bytes k (v / 256) in
    let e : get_or (put (set s i (v % 256)) (i + 1) rest) i 0 ≡ v % 256 =
    put-before (set s i (v % 256)) (i + 1) rest i (omega arith) ∙ get_or-set_same s i (v % 256) 0 (omega arith) in
    let g : little_at k (put (set s i (v % 256)) (i + 1) rest) (i + 1) ≡ v / 256 =
    little-put-same k (set s i (v % 256)) (i + 1) (v / 256) (simp length-set (omega arith)) b in
    omega (arith, e, g)

-- what a method that writes a part of a slice leaves
pub put_part : (s : List ℕ) (at k : ℕ) (bs : List ℕ) → length bs ≡ k → at + k ≤ length s → put_mid at k s bs ≡ put s at bs
put_part s at k bs n h = rw (put_sets, sets-eq bs s at (omega arith), drop-drop, n, append_assoc)

-- a whole list replaced
pub put_whole : (s bs : List ℕ) → length bs ≡ length s → put s 0 bs ≡ bs
put_whole s bs h = rw (put_sets, sets-eq bs s 0 (omega arith), drop_of_length-le s {i = 0 + length bs} (omega arith), append-nil)

-- ---- a part
pub part_length : (s : List ℕ) (from to : ℕ) → from ≤ to → to ≤ length s → length (part s from to) ≡ to - from
part_length s from to h k = simp (length-take, length-drop) (omega arith)

-- ---- the scan
pub first-end : (b : ℕ) (s : List ℕ) (i to : ℕ) → to ≤ i → first_in b s i (to - i) ≡ i
unfolding first_in
first-end b s i to h =
    let e : to - i ≡ 0 = omega arith in
    rw e

-- it counts the bytes before the first b, and so finds what `position` finds
first_counts : (b : ℕ) (s : List ℕ) (at k : ℕ) → at + k ≤ length s → first_in b s at k ≡ at + position_or_len (λ x. eqb x b) (take k (drop at s))
unfolding first_in
first_counts b s at zero h = rw add-zero
first_counts b s at (suc k) h =
    let cut : drop at s ≡ get_or s at 0 ∷ drop (suc at) s = drop-cons s at 0 (omega arith) in
    rw cut
    (bool_cases (eqb (get_or s at 0) b)
    (λ e. rw (e, add-zero))
    (λ e. rw (e, first_counts b s (at + 1) k (omega arith), add-one) (omega arith)))

pub first_found : (b : ℕ) (s : List ℕ) (from to : ℕ) → from ≤ to → to ≤ length s → (o : Option ℕ) → o ≡ position (λ x. eqb x b) (part s from to)
    → (r : ℕ) → MatchOption o (r ≡ to) (λ i. r ≡ from + i) → r ≡ first_in b s from (to - from)
first_found b s from to h k o e r m =
    let bytes = part s from to in
    let place = position_or_len (λ x. eqb x b) bytes in
    rw (first_counts b s from (to - from) (omega arith))
    (bool_cases (ltb place (length bytes))
    (λ t. rw (e, t) at m)
    (λ t.
    let last : r ≡ to = rw (e, t) at m in
    omega (arith, last, part_length s from to h k, ltb-false place (length bytes) t, prefix_len-le-length (λ x. not (eqb x b)) bytes)))

-- it ends within the bytes scanned
pub first-low : (b : ℕ) (s : List ℕ) (at k : ℕ) → at ≤ first_in b s at k
unfolding first_in
first-low b s at zero = omega arith
first-low b s at (suc k) =
    bool_cases (eqb (get_or s at 0) b)
    (λ e. rw e (omega arith))
    (λ e. rw e (omega (arith, first-low b s (at + 1) k)))

pub first-high : (b : ℕ) (s : List ℕ) (at k : ℕ) → first_in b s at k ≤ at + k
unfolding first_in
first-high b s at zero = omega arith
first-high b s at (suc k) =
    bool_cases (eqb (get_or s at 0) b)
    (λ e. rw e (omega arith))
    (λ e. rw e (omega (arith, first-high b s (at + 1) k)))

-- no byte before the first that is found is b, and the one there is
pub first-none : (b : ℕ) (s : List ℕ) (at k j : ℕ) → at ≤ j → j < first_in b s at k → get_or s j 0 ≡ b → ⊥
unfolding first_in
first-none b s at zero j h l e = omega arith
first-none b s at (suc k) j h l e =
    bool_cases (eqb (get_or s at 0) b)
    (λ t. let m : j < at = rw t at l in omega arith)
    (λ t.
    let m : j < first_in b s (at + 1) k = rw t at l in
    bool_cases (eqb j at)
    (λ u. let v : j ≡ at = eqb-true j at u in eqb-false (get_or s at 0) b t (rw (← v) e))
    (λ u. first-none b s (at + 1) k j (omega (arith, eqb-false j at u)) m e))

pub first-there : (b : ℕ) (s : List ℕ) (at k : ℕ) → first_in b s at k < at + k → get_or s (first_in b s at k) 0 ≡ b
unfolding first_in
first-there b s at zero h = absurd (omega arith)
first-there b s at (suc k) h =
    bool_cases (eqb (get_or s at 0) b)
    (λ t. rw t (eqb-true (get_or s at 0) b t))
    (λ t.
    let m : first_in b s (at + 1) k < at + suc k = rw t at h in
    rw t (first-there b s (at + 1) k (omega arith)))

-- ---- sameness: it is the library's `==`
pub same_pointwise : (a b : List ℕ) → pointwise nat_eq a b ≡ same_bytes a b
unfolding same_bytes
same_pointwise [] [] = refl
same_pointwise [] (y ∷ ys) = refl
same_pointwise (x ∷ xs) [] = refl
same_pointwise (x ∷ xs) (y ∷ ys) = rw (same_pointwise xs ys)

-- it tells equal runs of bytes from others
pub same-eq : (a b : List ℕ) → same_bytes a b ≡ true → a ≡ b
unfolding same_bytes
same-eq [] [] h = refl
same-eq [] (y ∷ ys) h = cc
same-eq (x ∷ xs) [] h = cc
same-eq (x ∷ xs) (y ∷ ys) h =
    bool_cases (eqb x y)
    (λ e. let p : x ≡ y = eqb-true x y e in let q : xs ≡ ys = same-eq xs ys (rw e at h) in cc)
    (λ e. let q : ◌≡◌ {A = Bool} false true = rw e at h in cc)

pub same_self : (a : List ℕ) → same_bytes a a ≡ true
unfolding same_bytes
same_self [] = refl
same_self (x ∷ xs) = rw (eq-eqb x x refl) (same_self xs)
