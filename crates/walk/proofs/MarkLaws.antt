-- Marks: tests over a range, words that can be taken, taking them, and the marks as a count over the area's bytes.
use Prim.Native.Nat.{ℕ, zero, suc, ◌+◌, ◌-◌, ◌*◌, ◌/◌, ◌%◌, ◌≤◌, ◌<◌}
use native.Mathlib.Omega.{arith}
use native.Mathlib.Decide.{dec_lt}
use mathlib.Core.Path.{◌≡◌, refl, sym, ap, ◌∙◌}
use mathlib.Core.Logic.{◌≢◌}
use mathlib.Core.Bool.{Bool, true, false, cond, and-eq-true_iff}
use mathlib.Core.List.{List}
use lib.ListN.{length, get_or, replicate, length-replicate, get_or-replicate}
use lib.Dec.{eqb, leb}
use borrow.Author.Tests.{eq-eqb, ne_eqb, eqb-true, eqb-false, le-leb, leb-true}
use Rattle.words.specs.Words.{put}
use Rattle.words.proofs.Laws.{bool_cases, put-length, put-before, put-after, put_same}
use Rattle.layout.specs.Layout.{header_size, word_size, first_free, byte_of}
use Rattle.sound.specs.Tree.{inside}
use Rattle.sound.proofs.Inside.{inside-yes, inside-below, inside-above, inside-between}
use Rattle.walk.specs.Marks.{all, is_zero, can_take, fill}
use Rattle.walk.proofs.Growing.{Grew}

-- a test that stands before a number that is not zero holds
pub cond-some : (t : Bool) (x : ℕ) → cond t x 0 ≢ 0 → (t ≡ true) × (x ≢ 0)
cond-some true x h = (refl, h)
cond-some false x h = absurd (h refl)

-- ---- a test over a range holds at each of its places
pub all-at : (test : ℕ → Bool) (k i w : ℕ) → all test i k ≡ true → i ≤ w → w < i + k → test w ≡ true
unfolding all
all-at test zero i w e low high = absurd (omega arith)
all-at test (suc k) i w e low high =
    let both = (and-eq-true_iff (test i) (all test (i + 1) k)).0 e in
    elim (dec_lt i w) [ yes q ↦ all-at test k (i + 1) w both.1 (omega arith) (omega arith) | no q ↦ let z : w ≡ i = omega arith in ap test z ∙ both.0 ]

pub all_of : (test : ℕ → Bool) (k i : ℕ) → ((w : ℕ) → i ≤ w → w < i + k → test w ≡ true) → all test i k ≡ true
unfolding all
all_of test zero i h = refl
all_of test (suc k) i h =
    (and-eq-true_iff (test i) (all test (i + 1) k)).1 (h i (omega arith) (omega arith), all_of test k (i + 1) (λ w low high. h w (omega arith) (omega arith)))

-- ---- words that can be taken lie in the marks, and all are zero
pub can-inv : (marks : List ℕ) (n k : ℕ) → can_take marks n k ≡ true → (n + k ≤ length marks) × (all (is_zero marks) n k ≡ true)
unfolding can_take
can-inv marks n k e =
    let both = (and-eq-true_iff (leb (n + k) (length marks)) (all (is_zero marks) n k)).0 e in
    (leb-true (n + k) (length marks) both.0, both.1)

pub can-of : (marks : List ℕ) (n k : ℕ) → n + k ≤ length marks → all (is_zero marks) n k ≡ true → can_take marks n k ≡ true
unfolding can_take
can-of marks n k h z = rw (le-leb (n + k) (length marks) h) z

pub can-zero : (marks : List ℕ) (n k w : ℕ) → can_take marks n k ≡ true → n ≤ w → w < n + k → get_or marks w 0 ≡ 0
can-zero marks n k w can low high = eqb-true (get_or marks w 0) 0 (all-at (is_zero marks) k n w (can-inv marks n k can).1 low high)

-- ---- marks changed among k from the n-th on, nowhere else
pub record Only (n k : ℕ) (marks after : List ℕ) : Type 0 where
  pub long : length after ≡ length marks
  pub below : (w : ℕ) → w < n → get_or after w 0 ≡ get_or marks w 0
  pub above : (w : ℕ) → n + k ≤ w → get_or after w 0 ≡ get_or marks w 0

pub put_only : (n k : ℕ) (marks : List ℕ) (at : ℕ) (bs : List ℕ) → n ≤ at → at + length bs ≤ n + k → Only n k marks (put marks at bs)
put_only n k marks at bs low high = record {
  long = put-length marks at bs;
  below = λ w h. put-before marks at bs w (omega arith);
  above = λ w h. put-after marks at bs w (omega arith);
}

pub only-trans : (n k : ℕ) (a b c : List ℕ) → Only n k a b → Only n k b c → Only n k a c
only-trans n k a b c f g = record {
  long = g.long ∙ f.long;
  below = λ w h. g.below w h ∙ f.below w h;
  above = λ w h. g.above w h ∙ f.above w h;
}

-- where words could be taken, marks only grow
pub only-grew : (n k : ℕ) (marks after : List ℕ) → can_take marks n k ≡ true → Only n k marks after → Grew marks after
only-grew n k marks after can o = record { long = o.long; kept = λ w h. by w h (dec_lt w n) (dec_lt w (n + k)) }
  where
    by : (w : ℕ) → get_or marks w 0 ≢ 0 → Dec (w < n) → Dec (w < n + k) → get_or after w 0 ≡ get_or marks w 0
    by w h (yes p) q = o.below w p
    by w h (no p) (yes q) = absurd (h (can-zero marks n k w can (omega arith) q))
    by w h (no p) (no q) = o.above w (omega arith)

-- ---- words taken
pub fill-only : (marks : List ℕ) (n k : ℕ) → Only n k marks (fill marks n k)
unfolding fill
fill-only marks n k = put_only n k marks n (replicate k 1) (omega arith) (omega (arith, length-replicate {A = ℕ} k 1))

pub fill-grew : (marks : List ℕ) (n k : ℕ) → can_take marks n k ≡ true → Grew marks (fill marks n k)
fill-grew marks n k can = only-grew n k marks (fill marks n k) can (fill-only marks n k)

pub fill-in : (marks : List ℕ) (n k w : ℕ) → n + k ≤ length marks → n ≤ w → w < n + k → get_or (fill marks n k) w 0 ≡ 1
unfolding fill
fill-in marks n k w h low high =
    let e : n + (w - n) ≡ w = omega arith in
    let l : length (replicate {A = ℕ} k 1) ≡ k = length-replicate {A = ℕ} k 1 in
    ap (λ (j : ℕ). get_or (put marks n (replicate k 1)) j 0) (sym e)
    ∙ put_same marks n (replicate k 1) (w - n) (omega (arith, l)) (omega (arith, l))
    ∙ get_or-replicate k (w - n) 1 0 (omega arith)

-- ---- the marks as a count over bytes of the area: 1 where the byte's word is taken
abbrev pub word_of : ℕ → ℕ
word_of i = (i - header_size) / word_size

unfoldable pub counted : List ℕ → ℕ → ℕ
counted marks i = cond (eqb (get_or marks (word_of i) 0) 0) 0 1

pub counted-free : (marks : List ℕ) (i : ℕ) → get_or marks (word_of i) 0 ≡ 0 → counted marks i ≡ 0
unfolding counted
counted-free marks i z = rw (eq-eqb (get_or marks (word_of i) 0) 0 z)

pub counted-taken : (marks : List ℕ) (i : ℕ) → get_or marks (word_of i) 0 ≢ 0 → counted marks i ≡ 1
unfolding counted
counted-taken marks i z = rw (ne_eqb (get_or marks (word_of i) 0) 0 z)

pub counted-agree : (a b : List ℕ) (i : ℕ) → get_or a (word_of i) 0 ≡ get_or b (word_of i) 0 → counted a i ≡ counted b i
unfolding counted
counted-agree a b i e = rw e

pub counted-most : (marks : List ℕ) (i : ℕ) → counted marks i ≤ 1
unfolding counted
counted-most marks i = bool_cases (eqb (get_or marks (word_of i) 0) 0) (λ e. rw e (omega arith)) (λ e. rw e (omega arith))

pub counted-blank : (marks : List ℕ) → ((w : ℕ) → get_or marks w 0 ≡ 0) → (i : ℕ) → counted marks i ≡ 0
counted-blank marks h i = counted-free marks i (h (word_of i))

-- words taken are counted, and nothing else
pub took : (marks : List ℕ) (at k size : ℕ) → at % 4 ≡ 0 → first_free ≤ at → 4 * k ≡ size → can_take marks (at / 4) k ≡ true →
    (i : ℕ) → counted (fill marks (at / 4) k) i ≡ counted marks i + inside (byte_of at) size i
took marks at k size aligned low long can i = by (dec_lt i (byte_of at)) (dec_lt i (byte_of at + size))
  where
    by : Dec (i < byte_of at) → Dec (i < byte_of at + size) → counted (fill marks (at / 4) k) i ≡ counted marks i + inside (byte_of at) size i
    by (yes p) q =
        omega (arith, counted-agree (fill marks (at / 4) k) marks i ((fill-only marks (at / 4) k).below (word_of i) (omega arith)), inside-below (byte_of at) size i p)
    by (no p) (yes q) =
        let one : get_or (fill marks (at / 4) k) (word_of i) 0 ≡ 1 = fill-in marks (at / 4) k (word_of i) (can-inv marks (at / 4) k can).0 (omega arith) (omega arith) in
        let free : get_or marks (word_of i) 0 ≡ 0 = can-zero marks (at / 4) k (word_of i) can (omega arith) (omega arith) in
        omega (arith, counted-taken (fill marks (at / 4) k) i (λ z. omega (arith, one, z)), counted-free marks i free, inside-yes (byte_of at) size i (omega arith) q)
    by (no p) (no q) =
        omega (arith, counted-agree (fill marks (at / 4) k) marks i ((fill-only marks (at / 4) k).above (word_of i) (omega arith)), inside-above (byte_of at) size i (omega arith))

-- words that nothing counts can be taken
pub can-at : (marks : List ℕ) (at k size : ℕ) → at % 4 ≡ 0 → 4 * k ≡ size → at + size ≤ 4 * length marks →
    ((i : ℕ) → counted marks i + inside (byte_of at) size i ≤ 1) → can_take marks (at / 4) k ≡ true
can-at marks at k size aligned long room h =
    can-of marks (at / 4) k (omega arith) (all_of (is_zero marks) k (at / 4) (λ w low high. bool_cases (is_zero marks w) (λ e. e) (λ e. absurd (counts w low high e))))
  where
    counts : (w : ℕ) → at / 4 ≤ w → w < at / 4 + k → is_zero marks w ≡ false → ⊥
    counts w low high e =
        let back : word_of (byte_of (4 * w)) ≡ w = omega arith in
        omega (
          arith,
          h (byte_of (4 * w)),
          inside-yes (byte_of at) size (byte_of (4 * w)) (omega arith) (omega arith),
          counted-taken marks (byte_of (4 * w)) (λ z. eqb-false (get_or marks w 0) 0 e (ap (λ (j : ℕ). get_or marks j 0) (sym back) ∙ z)),
        )

-- ---- bytes within the room lie between 112 and the used mark
pub lies-between : (used : ℕ) → first_free ≤ used → (at size : ℕ) → 0 < size → ((i : ℕ) → inside (byte_of at) size i ≤ inside (byte_of first_free) (used - first_free) i)
    → (first_free ≤ at) × (at + size ≤ used)
lies-between used low at size some within =
    let e : byte_of used - byte_of first_free ≡ used - first_free = omega arith in
    let b = inside-between (byte_of at) size (byte_of first_free) (byte_of used) (omega arith) (omega (arith, low))
    (λ i. rw e (within i)) in
    (omega (arith, b.0), omega (arith, b.1))
