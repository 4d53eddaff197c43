-- Where a node can stand: what the test of its room says of the bytes there, and back.
use Prim.Native.Nat.{ℕ, ◌+◌, ◌-◌, ◌*◌, ◌%◌, ◌≤◌, ◌<◌}
use native.Mathlib.Omega.{arith}
use mathlib.Core.Path.{◌≡◌, ap, ◌∙◌}
use mathlib.Core.Logic.{◌≢◌}
use mathlib.Core.Bool.{true, not, ◌&&◌, and-eq-true_iff}
use mathlib.Core.List.{List}
use lib.ListN.{get_or}
use lib.Dec.{eqb, leb, ltb}
use borrow.Author.Tests.{eq-eqb, ne_eqb, eqb-true, eqb-false, le-leb, leb-true, lt-ltb, ltb-true, not-true}
use Rattle.names.specs.Names.{dot}
use Rattle.layout.specs.Layout.{word_size, node_size, namelen_field, first_free, place_of, word_at, node_takes}
use Rattle.walk.specs.Marks.{all, is_zero}
use Rattle.walk.specs.Model.{is_plain, named_room, node_room}
use Rattle.walk.proofs.MarkLaws.{cond-some, all-at, all_of}

pub record NodeFits (area : List ℕ) (used at : ℕ) : Type 0 where
  pub aligned : at % 4 ≡ 0
  pub low : first_free ≤ at
  pub some : 1 ≤ word_at area at namelen_field
  pub high : at + node_size + word_at area at namelen_field + 1 ≤ used
  pub whole : (k : ℕ) → k < word_at area at namelen_field → get_or area (place_of at node_size + k) 0 ≢ 0
  pub plain : (k : ℕ) → k < word_at area at namelen_field → get_or area (place_of at node_size + k) 0 ≢ dot
  pub zero : get_or area (place_of at node_size + word_at area at namelen_field) 0 ≡ 0

plain-inv : (area : List ℕ) (i : ℕ) → is_plain area i ≡ true → (get_or area i 0 ≢ 0) × (get_or area i 0 ≢ dot)
plain-inv area i e =
    let both = (and-eq-true_iff (not (eqb (get_or area i 0) 0)) (not (eqb (get_or area i 0) dot))).0 e in
    (eqb-false (get_or area i 0) 0 (not-true (eqb (get_or area i 0) 0) both.0), eqb-false (get_or area i 0) dot (not-true (eqb (get_or area i 0) dot) both.1))

plain_of : (area : List ℕ) (i : ℕ) → get_or area i 0 ≢ 0 → get_or area i 0 ≢ dot → is_plain area i ≡ true
plain_of area i f g = rw (ne_eqb (get_or area i 0) 0 f, ne_eqb (get_or area i 0) dot g)

module _ (area : List ℕ) (used at : ℕ) where
  abbrev size : ℕ
  size = word_at area at namelen_field

  abbrev from : ℕ
  from = place_of at node_size

  name-plain : NodeFits area used at → all (is_plain area) from size ≡ true
  name-plain fits = all_of (is_plain area) size from (λ w low high.
      let e : from + (w - from) ≡ w = omega arith in
      plain_of area w
      (λ z. fits.whole (w - from) (omega arith) (ap (λ (j : ℕ). get_or area j 0) e ∙ z))
      (λ z. fits.plain (w - from) (omega arith) (ap (λ (j : ℕ). get_or area j 0) e ∙ z)))

  pub room_of : NodeFits area used at → 4 * node_room area used at ≡ node_takes (word_at area at namelen_field)
  unfolding node_room
  room_of fits =
      rw (
        eq-eqb (at % word_size) 0 fits.aligned,
        le-leb first_free at fits.low,
        le-leb (at + node_size) used (omega (arith, fits.high)),
        lt-ltb 0 size fits.some,
        le-leb (at + node_size + size + 1) used fits.high,
        name-plain fits,
        eq-eqb (get_or area (from + size) 0) 0 fits.zero,
      )
      (omega arith)

  room_fits : node_room area used at ≢ 0 → NodeFits area used at
  unfolding node_room
  room_fits h =
      let outer = cond-some (eqb (at % word_size) 0 && leb first_free at && leb (at + node_size) used) (named_room area used at size) h in
      let inner = cond-some (ltb 0 size && leb (at + node_size + size + 1) used && all (is_plain area) from size && is_zero area (from + size)) _ outer.1 in
      let front = (and-eq-true_iff (eqb (at % word_size) 0) (leb first_free at)).0 ((and-eq-true_iff (eqb (at % word_size) 0 && leb first_free at) (leb (at + node_size) used)).0 outer.0).0 in
      let last = (and-eq-true_iff (ltb 0 size && leb (at + node_size + size + 1) used && all (is_plain area) from size) (is_zero area (from + size))).0 inner.0 in
      let name = (and-eq-true_iff (ltb 0 size && leb (at + node_size + size + 1) used) (all (is_plain area) from size)).0 last.0 in
      let ends = (and-eq-true_iff (ltb 0 size) (leb (at + node_size + size + 1) used)).0 name.0 in
      let byte : (k : ℕ) → k < size → (get_or area (from + k) 0 ≢ 0) × (get_or area (from + k) 0 ≢ dot) =
      λ k l. plain-inv area (from + k) (all-at (is_plain area) size from (from + k) name.1 (omega arith) (omega arith)) in
      record {
        aligned = eqb-true (at % word_size) 0 front.0;
        low = leb-true first_free at front.1;
        some = ltb-true 0 size ends.0;
        high = leb-true (at + node_size + size + 1) used ends.1;
        whole = λ k l. (byte k l).0;
        plain = λ k l. (byte k l).1;
        zero = eqb-true (get_or area (from + size) 0) 0 last.1;
      }

  pub room-inv : node_room area used at ≢ 0 → NodeFits area used at × (4 * node_room area used at ≡ node_takes (word_at area at namelen_field))
  room-inv h = (room_fits h, room_of (room_fits h))
