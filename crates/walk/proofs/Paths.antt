-- The dotted path, compared from its end backwards along the owners: the test passes exactly where the bytes are the prefix and the name.
use Prim.Native.Nat.{ℕ, zero, suc, ◌+◌, ◌-◌, ◌≤◌, ◌<◌}
use native.Mathlib.Omega.{arith}
use mathlib.Core.Path.{◌≡◌, refl, sym, ap, ◌∙◌}
use mathlib.Core.Bool.{Bool, true, ◌&&◌, false≢true, and-eq-true_iff}
use mathlib.Core.List.{List, [], ◌∷◌, ◌++◌}
use lib.Dec.{eqb, leb, ltb}
use lib.ListN.{length, get_or, length-append}
use borrow.Author.Tests.{eqb-true, leb-true, ltb-true, eq-eqb, ne_eqb, le-leb, lt-ltb}
use Rattle.names.specs.Names.{dot}
use Rattle.layout.specs.Layout.{namelen_field}
use Rattle.sound.specs.Sound.{Holds}
use Rattle.sound.proofs.Holding.{holds-move, holds-left, holds-right, holds-append, holds-one, holds-head}
use Rattle.walk.specs.Marks.{all}
use Rattle.walk.specs.Model.{field_at, span, name_from, name_at, owner_at, same_at, path_up, path_step, path_back}
use Rattle.walk.proofs.Growing.{Owned, Prefix, top, more}
use Rattle.walk.proofs.MarkLaws.{all-at, all_of}
use Rattle.walk.proofs.Scanning.{span-length, span-holds, name-length}

-- ---- the same bytes at two places
module _ (area : List ℕ) (x y k : ℕ) where
  same-holds : all (same_at area x y) 0 k ≡ true → Holds area x (span area y k)
  same-holds h j l =
      let t : same_at area x y j ≡ true = all-at (same_at area x y) k 0 j h (omega arith) (omega (arith, span-length k area y)) in
      eqb-true (get_or area (x + j) 0) (get_or area (y + j) 0) t ∙ span-holds k area y j l

  holds_same : Holds area x (span area y k) → all (same_at area x y) 0 k ≡ true
  holds_same h = all_of (same_at area x y) k 0 (λ j low high.
      let m : j < length (span area y k) = omega (arith, span-length k area y) in
      eq-eqb (get_or area (x + j) 0) (get_or area (y + j) 0) (h j m ∙ sym (span-holds k area y j m)))

-- ---- one segment: the name stands at the end, and the test goes on before it
record Segment (area marks : List ℕ) (rest : ℕ → ℕ → Bool) (n from to : ℕ) : Type 0 where
  start : ℕ
  low : from ≤ start
  ends : to ≡ start + length (name_at area n)
  name : Holds area start (name_at area n)
  up : path_up area rest (owner_at marks n) from start ≡ true

module _ (area marks : List ℕ) (rest : ℕ → ℕ → Bool) (n from to : ℕ) where
  segment-in : from ≤ to → path_step area marks rest n from to ≡ true → Segment area marks rest n from to
  unfolding path_step name_at
  segment-in h t =
      let size : ℕ = field_at area n namelen_field in
      let same : Bool = all (same_at area (to - size) (name_from n)) 0 size in
      let u = (and-eq-true_iff (leb size (to - from) && same) (path_up area rest (owner_at marks n) from (to - size))).0 t in
      let v = (and-eq-true_iff (leb size (to - from)) same).0 u.0 in
      let l : size ≤ to - from = leb-true size (to - from) v.0 in
      record {
        start = to - size;
        low = omega arith;
        ends = omega (arith, name-length area n);
        name = same-holds area (to - size) (name_from n) size v.1;
        up = u.1;
      }

  segment-of : Segment area marks rest n from to → path_step area marks rest n from to ≡ true
  unfolding path_step name_at
  segment-of s =
      let size : ℕ = field_at area n namelen_field in
      let e : to - size ≡ s.start = omega (arith, s.ends, name-length area n) in
      rw (le-leb size (to - from) (omega (arith, s.low, s.ends, name-length area n)), e, holds_same area s.start (name_from n) size s.name) s.up

-- ---- a path, a dot, a name
dotted-length : (path name : List ℕ) → length (path ++ dot ∷ [] ++ name) ≡ length path + 1 + length name
dotted-length path name = length-append (path ++ dot ∷ []) name ∙ ap (λ (k : ℕ). k + length name) (length-append path (dot ∷ []))

module _ (area : List ℕ) (from : ℕ) (path name : List ℕ) where
  dotted : (start : ℕ) → start ≡ from + length path + 1 → Holds area from path → get_or area (start - 1) 0 ≡ dot → Holds area start name → Holds area from (path ++ dot ∷ [] ++ name)
  dotted start e h d g =
      let p : start - 1 ≡ from + length path = omega arith in
      let q : start ≡ from + length (path ++ dot ∷ []) = omega (arith, length-append path (dot ∷ [])) in
      holds-append area from (path ++ dot ∷ []) name
      (holds-append area from path (dot ∷ []) h (holds-one area (from + length path) dot (ap (λ (j : ℕ). get_or area j 0) (sym p) ∙ d)))
      (holds-move area start (from + length (path ++ dot ∷ [])) name q g)

  module _ (h : Holds area from (path ++ dot ∷ [] ++ name)) where
    before-dot : Holds area from path
    before-dot = holds-left area from path (dot ∷ []) (holds-left area from (path ++ dot ∷ []) name h)

    at-dot : get_or area (from + length path) 0 ≡ dot
    at-dot = holds-head area (from + length path) dot [] (holds-right area from path (dot ∷ []) (holds-left area from (path ++ dot ∷ []) name h))

    behind-dot : Holds area (from + length path + 1) name
    behind-dot =
        holds-move area (from + length (path ++ dot ∷ [])) (from + length path + 1) name (omega (arith, length-append path (dot ∷ [])))
        (holds-right area from (path ++ dot ∷ []) name h)

-- ---- the test passes: the bytes are the path
pub path-is : (k : ℕ) (area marks : List ℕ) (n from to o : ℕ) (prefix : List ℕ) → Prefix area marks o prefix → Owned marks n o → from ≤ to
    → path_back area marks k n from to ≡ true → Holds area from (prefix ++ name_at area n) × (to ≡ from + length (prefix ++ name_at area n))
unfolding path_back
path-is zero area marks n from to o prefix spelled owned h t = absurd (false≢true t)
path-is (suc k) area marks n from to o prefix top owned h t =
    let s = segment-in area marks (λ owner end. path_back area marks k owner from end) n from to h t in
    let e : s.start ≡ from = eqb-true s.start from (rw owned.keeps.reads at s.up) in
    (holds-move area s.start from (name_at area n) e s.name, omega (arith, s.ends))
path-is (suc k) area marks n from to o prefix (more m p before w spelled) owned h t =
    let s = segment-in area marks (λ owner end. path_back area marks k owner from end) n from to h t in
    let go_on = rw (owned.keeps.reads, ne_eqb (suc m) 0 (λ z. omega arith)) at s.up in
    let u = (and-eq-true_iff (ltb from s.start && eqb (get_or area (s.start - 1) 0) dot) (path_back area marks k (suc m) from (s.start - 1))).0 go_on in
    let v = (and-eq-true_iff (ltb from s.start) (eqb (get_or area (s.start - 1) 0) dot)).0 u.0 in
    let l : from < s.start = ltb-true from s.start v.0 in
    let rest = path-is k area marks (suc m) from (s.start - 1) p before spelled w (omega arith) u.1 in (
      dotted area from (before ++ name_at area (suc m)) (name_at area n) s.start (omega (arith, rest.1)) rest.0 (eqb-true (get_or area (s.start - 1) 0) dot v.1) s.name,
      omega (arith, s.ends, rest.1, dotted-length (before ++ name_at area (suc m)) (name_at area n)),
    )

-- ---- the bytes are the path: the test passes
pub path-ok : (k : ℕ) (area marks : List ℕ) (n from to o : ℕ) (prefix : List ℕ) → Prefix area marks o prefix → Owned marks n o
    → Holds area from (prefix ++ name_at area n) → to ≡ from + length (prefix ++ name_at area n) → to - from < k → path_back area marks k n from to ≡ true
unfolding path_back
path-ok zero area marks n from to o prefix spelled owned h e l = absurd (omega arith)
path-ok (suc k) area marks n from to o prefix top owned h e l =
    segment-of area marks (λ owner end. path_back area marks k owner from end) n from to
    record { start = from; low = omega arith; ends = e; name = h; up = rw owned.keeps.reads (eq-eqb from from refl) }
path-ok (suc k) area marks n from to o prefix (more m p before w spelled) owned h e l =
    let path : List ℕ = before ++ name_at area (suc m) in
    let size = dotted-length path (name_at area n) in
    let f : from + length path + 1 - 1 ≡ from + length path = omega arith in
    let d : get_or area (from + length path + 1 - 1) 0 ≡ dot = ap (λ (j : ℕ). get_or area j 0) f ∙ at-dot area from path (name_at area n) h in
    let rest : path_back area marks k (suc m) from (from + length path + 1 - 1) ≡ true =
    path-ok k area marks (suc m) from (from + length path + 1 - 1) p before spelled w (before-dot area from path (name_at area n) h) f (omega arith) in
    segment-of area marks (λ owner end. path_back area marks k owner from end) n from to
    record {
      start = from + length path + 1;
      low = omega arith;
      ends = omega arith;
      name = behind-dot area from path (name_at area n) h;
      up = rw (owned.keeps.reads, ne_eqb (suc m) 0 (λ z. omega arith), lt-ltb from (from + length path + 1) (omega arith), eq-eqb (get_or area (from + length path + 1 - 1) 0) dot d) rest;
    }
