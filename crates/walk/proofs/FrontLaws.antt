-- The test of the used mark and the root says what soundness asks of them, both ways.
use Prim.Native.Nat.{ℕ, zero, suc, ◌*◌, ◌%◌, ◌<◌}
use native.Mathlib.Omega.{arith}
use mathlib.Core.Path.{◌≡◌, refl}
use mathlib.Core.Bool.{Bool, true, and-eq-true_iff}
use mathlib.Core.List.{List}
use lib.Dec.{eqb}
use borrow.Author.Tests.{eq-eqb, eqb-true, le-leb, leb-true}
use Rattle.layout.specs.Layout.{word_size, used_field, namelen_field, prop_field, left_field, right_field, root_at, first_free, data_size, header_word, word_at}
use Rattle.trie.specs.Header.{header_ok}
use Rattle.sound.specs.Sound.{Front}
use Rattle.walk.specs.Model.{front_ok}

module _ (area : List ℕ) (used : ℕ) where
  -- a root's word is zero
  abbrev blank : ℕ → Bool
  blank field = eqb (word_at area root_at field) 0

  root-of : blank namelen_field ≡ true → blank prop_field ≡ true → blank left_field ≡ true → blank right_field ≡ true → (k : ℕ) → k < 4 → word_at area root_at (word_size * k) ≡ 0
  root-of a b c d zero h = eqb-true _ _ a
  root-of a b c d (suc zero) h = eqb-true _ _ b
  root-of a b c d (suc (suc zero)) h = eqb-true _ _ c
  root-of a b c d (suc (suc (suc zero))) h = eqb-true _ _ d
  root-of a b c d (suc (suc (suc (suc k)))) h = absurd (omega arith)

  pub front-inv : header_ok area ≡ true → header_word area used_field ≡ used → front_ok area used ≡ true → Front area used
  unfolding front_ok
  front-inv header mark e =
      let right = (and-eq-true_iff _ _).0 e in
      let left = (and-eq-true_iff _ _).0 right.0 in
      let prop = (and-eq-true_iff _ _).0 left.0 in
      let namelen = (and-eq-true_iff _ _).0 prop.0 in
      let high = (and-eq-true_iff _ _).0 namelen.0 in
      let low = (and-eq-true_iff _ _).0 high.0 in
      record {
        header = header;
        mark = mark;
        low = leb-true _ _ low.1;
        high = leb-true _ _ high.1;
        aligned = eqb-true _ _ low.0;
        root = root-of namelen.1 prop.1 left.1 right.1;
      }

  pub front_of : Front area used → front_ok area used ≡ true
  unfolding front_ok
  front_of f = rw (
    eq-eqb (used % word_size) 0 f.aligned,
    le-leb first_free used f.low,
    le-leb used (data_size area) f.high,
    eq-eqb (word_at area root_at namelen_field) 0 (f.root 0 (omega arith)),
    eq-eqb (word_at area root_at prop_field) 0 (f.root 1 (omega arith)),
    eq-eqb (word_at area root_at left_field) 0 (f.root 2 (omega arith)),
    eq-eqb (word_at area root_at right_field) 0 (f.root 3 (omega arith)),
  ) refl
