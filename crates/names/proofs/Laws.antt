-- Laws of specs/Names.antt: the comparison of slices, and the cursor's step against the segments of the whole name.
use mathlib.Core.Path.{◌≡◌, refl, sym, ap, ◌∙◌}
use Rattle.std.specs.Ordering.{nat_cmp, ordering_then, MatchOrdering}
use Rattle.std.specs.Cmp.{ranks, ranked}
use Rattle.std.specs.Cmp.Lexicographic.{slice_cmp}
use mathlib.Core.Bool.{cond}
use mathlib.Core.List.{List, [], ◌∷◌}
use Prim.Native.Nat.{ℕ, zero, suc, ◌+◌, ◌-◌, ◌≤◌, ◌<◌, zero-le}
use native.Mathlib.Nat.{sub_self}
use native.Mathlib.Numerals.{add-one}
use native.Mathlib.Omega.{arith}
use borrow.Author.Tests.{lt-ltb, le-ltb, le-leb, lt-leb, ltb-true, ltb-false}
use lib.ListN.{length, get_or, drop, drop_of_length-le}
use lib.Seq.{drop-cons, take-nil}
use lib.Dec.{eqb, ltb, leb}
use Rattle.words.specs.Words.{first_in, part}
use Rattle.words.proofs.Laws.{bool_cases, clash, first-low, first-high}
use Rattle.std.specs.declared.cmp.Ordering.{Ordering}
use Rattle.std.specs.declared.cmp.Ordering.TheVariants.{Less, Equal, Greater}
use Rattle.names.specs.declared.NameCursor.{NameCursor}
use Rattle.std.specs.Prelude.{Option, Some, None}
use Rattle.names.specs.declared.Segment.{Segment}
use Rattle.names.specs.Names.{dot, segments, segment_to, step_from, byte_order, segment_order}

-- ---- what a comparison of two numbers decides, and what comes after it
after-numbers : (x y : ℕ) (o p q : Ordering) → MatchOrdering o (x < y) (x ≡ y) (y < x) → p ≡ q → ordering_then o p ≡ cond (ltb x y) Less (cond (ltb y x) Greater q)
after-numbers x y Less p q h e = rw (lt-ltb x y h)
after-numbers x y Equal p q h e = rw (le-ltb x y (omega arith), le-ltb y x (omega arith)) e
after-numbers x y Greater p q h e = rw (le-ltb x y (omega arith), lt-ltb y x h)

-- slices of equal length compare byte by byte
order-bytes : (a b : List ℕ) → length a ≡ length b → slice_cmp nat_cmp a b ≡ byte_order a b
unfolding byte_order
order-bytes [] [] e = refl
order-bytes [] (y ∷ ys) e = absurd (omega arith)
order-bytes (x ∷ xs) [] e = absurd (omega arith)
order-bytes (x ∷ xs) (y ∷ ys) e = after-numbers x y (nat_cmp x y) _ _ (ranks x y) (order-bytes xs ys (omega arith))

pub order_even : (a b : List ℕ) → Equal ≡ nat_cmp (length a) (length b) → slice_cmp nat_cmp a b ≡ segment_order a b
unfolding segment_order
order_even a b e = after-numbers (length a) (length b) Equal _ _ (ranked _ _ Equal e) (order-bytes a b (ranked _ _ Equal e))

-- ---- a turn of the comparison, at an index of both
module _ (a b : List ℕ) (i : ℕ) (ha : i < length a) (hb : i < length b) where
  pub order-less : get_or a i 0 < get_or b i 0 → byte_order (drop i a) (drop i b) ≡ Less
  unfolding byte_order
  order-less h = rw (drop-cons a i 0, drop-cons b i 0, lt-ltb (get_or a i 0) (get_or b i 0) h)

  pub order-greater : get_or b i 0 < get_or a i 0 → byte_order (drop i a) (drop i b) ≡ Greater
  unfolding byte_order
  order-greater h = rw (drop-cons a i 0, drop-cons b i 0, le-ltb (get_or a i 0) (get_or b i 0) (omega arith), lt-ltb (get_or b i 0) (get_or a i 0) h)

  pub order-on : get_or b i 0 ≤ get_or a i 0 → get_or a i 0 ≤ get_or b i 0 → byte_order (drop i a) (drop i b) ≡ byte_order (drop (i + 1) a) (drop (i + 1) b)
  unfolding byte_order
  order-on h k = rw (drop-cons a i 0, drop-cons b i 0, le-ltb (get_or a i 0) (get_or b i 0) h, le-ltb (get_or b i 0) (get_or a i 0) k, add-one)

pub order-end : (a b : List ℕ) (i : ℕ) → length a ≤ i → byte_order (drop i a) (drop i b) ≡ Equal
unfolding byte_order
order-end a b i h = rw (drop_of_length-le a {i = i} h)

-- ---- the segments that a cursor at a place has before it; none past the end
unfoldable pub segments_from : List ℕ → ℕ → List (List ℕ)
segments_from name at = cond (leb at (length name)) (segments (drop at name)) []

pub segments-whole : (name : List ℕ) → segments name ≡ segments_from name 0
unfolding segments_from
segments-whole name = rw (le-leb 0 (length name) zero-le)

segments-step : (k : ℕ) (name : List ℕ) (at : ℕ) → at + k ≡ length name
    → segments (drop at name) ≡ part name at (first_in dot name at k) ∷ segments_from name (first_in dot name at k + 1)
unfolding segments segments_from first_in
segments-step zero name at h = rw (drop_of_length-le name {i = at} (omega arith), lt-leb (at + 1) (length name) (omega arith), take-nil)
segments-step (suc k) name at h =
    let e : drop at name ≡ get_or name at 0 ∷ drop (at + 1) name = drop-cons name at 0 (omega arith) ∙ rw add-one in
    bool_cases (eqb (get_or name at 0) dot)
    (λ t. rw (e, t, le-leb (at + 1) (length name) (omega arith), sub_self))
    (λ t.
    let to = first_in dot name (at + 1) k in
    let ih = segments-step k name (at + 1) (omega arith) in
    let f : to - at ≡ suc (to - (at + 1)) = omega (arith, first-low dot name (at + 1) k) in
    rw (e, t, f, ih))

-- ---- what a step says to a caller: no segment is left
pub step-done : (name : List ℕ) (at : ℕ) → step_from name at ≡ None → segments_from name at ≡ []
unfolding step_from segments_from
step-done name at h =
    bool_cases (ltb (length name) at)
    (λ e. rw (lt-leb at (length name) (ltb-true _ _ e)))
    (λ e. let k : segment_to at (first_in dot name at (length name - at)) ≡ None = rw e at h in
    clash cc)

-- or the next one, where it lies, and that the cursor moves on
pub record Stepped (name : List ℕ) (at from to : ℕ) (next : NameCursor) : Type 0 where
  pub more : at ≤ length name
  pub begins : from ≡ at
  pub low : from ≤ to
  pub high : to ≤ length name
  pub behind : next.at ≡ to + 1
  pub parts : segments_from name at ≡ part name from to ∷ segments_from name next.at

pub step-segment : (name : List ℕ) (at from to : ℕ) (next : NameCursor) → step_from name at ≡ Some (record { from = from; to = to; next = next }) → Stepped name at from to next
unfolding step_from segments_from
step-segment name at from to next h =
    bool_cases (ltb (length name) at)
    (λ e. let k : ◌≡◌ {A = Option Segment} None (Some (record { from = from; to = to; next = next })) = rw e at h in clash cc)
    (λ e.
    let z = first_in dot name at (length name - at) in
    let k : segment_to at z ≡ Some (record { from = from; to = to; next = next }) = rw e at h in
    let b : at ≤ length name = ltb-false _ _ e in
    let r : ◌≡◌ {A = Segment} (record { from = at; to = z; next = record { at = z + 1 } }) (record { from = from; to = to; next = next }) = cc in
    let p : at ≡ from = ap (λ (g : Segment). g.from) r in
    let q : z ≡ to = ap (λ (g : Segment). g.to) r in
    let s : next.at ≡ z + 1 = sym (ap (λ (g : Segment). g.next.at) r) in
    record {
      more = b;
      begins = sym p;
      low = omega (arith, first-low dot name at (length name - at));
      high = omega (arith, first-high dot name at (length name - at));
      behind = omega arith;
      parts = rw (← p, ← q, s, le-leb at (length name) b) (segments-step (length name - at) name at (omega arith));
    })
