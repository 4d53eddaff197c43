-- Bytes read one after the other, and where a text ends: what a scan for its zero finds, and what it must find.
use Prim.Native.Nat.{ℕ, zero, suc, ◌+◌, ◌-◌, ◌%◌, ◌≤◌, ◌<◌}
use native.Mathlib.Nat.{add-zero}
use native.Mathlib.Omega.{arith}
use native.Mathlib.Decide.{dec_lt}
use mathlib.Core.Path.{◌≡◌, refl, sym, ap, ◌∙◌}
use mathlib.Core.Logic.{◌≢◌}
use mathlib.Core.Bool.{◌&&◌, and-eq-true_iff}
use mathlib.Core.List.{List}
use lib.Dec.{eqb, leb, ltb}
use lib.ListN.{length, get_or}
use lib.Seq.{ext_get_or}
use borrow.Author.Tests.{eqb-true, leb-true, ltb-true, eq-eqb, le-leb, lt-ltb}
use Rattle.words.proofs.Laws.{first-low}
use Rattle.words.proofs.Promises.{first-none, first-there}
use Rattle.layout.specs.Layout.{word_size, namelen_field, first_free, byte_of}
use Rattle.sound.specs.Sound.{Holds, HoldsText, Without}
use Rattle.sound.proofs.Holding.{text-holds, text-bytes, text-zero}
use Rattle.walk.specs.Model.{field_at, span, name_from, name_at, end_of, text_end}
use Rattle.walk.proofs.MarkLaws.{cond-some}

-- ---- bytes one after the other
pub span-length : (k : ℕ) (area : List ℕ) (from : ℕ) → length (span area from k) ≡ k
unfolding span
span-length zero area from = refl
span-length (suc k) area from = ap suc (span-length k area (from + 1))

pub span-at : (k : ℕ) (area : List ℕ) (from j : ℕ) → j < k → get_or (span area from k) j 0 ≡ get_or area (from + j) 0
unfolding span
span-at zero area from j h = absurd (omega arith)
span-at (suc k) area from zero h = rw add-zero
span-at (suc k) area from (suc j) h =
    let e : from + suc j ≡ from + 1 + j = omega arith in
    rw e (span-at k area (from + 1) j (omega arith))

pub span-holds : (k : ℕ) (area : List ℕ) (from : ℕ) → Holds area from (span area from k)
span-holds k area from j h = sym (span-at k area from j (omega (arith, span-length k area from)))

pub holds-span : (area : List ℕ) (from : ℕ) (bs : List ℕ) → Holds area from bs → span area from (length bs) ≡ bs
holds-span area from bs h =
    ext_get_or 0 (span area from (length bs)) bs (span-length (length bs) area from)
    (λ j l. let m : j < length bs = omega (arith, span-length (length bs) area from) in span-at (length bs) area from j m ∙ h j m)

module _ (area : List ℕ) (n : ℕ) where
  pub name-length : length (name_at area n) ≡ field_at area n namelen_field
  unfolding name_at
  name-length = span-length (field_at area n namelen_field) area (name_from n)

  pub name-holds : Holds area (name_from n) (name_at area n)
  unfolding name_at
  name-holds = span-holds (field_at area n namelen_field) area (name_from n)

-- ---- where a text ends: at its first zero
pub record Ends (area : List ℕ) (from stop : ℕ) : Type 0 where
  pub low : from ≤ stop
  pub there : get_or area stop 0 ≡ 0
  pub full : (k : ℕ) → k < stop - from → get_or area (from + k) 0 ≢ 0

module _ (area : List ℕ) (from to : ℕ) where
  pub end-found : end_of area from to < to → Ends area from (end_of area from to)
  end-found h =
      let l : from ≤ end_of area from to = first-low 0 area from (to - from) in
      record {
        low = l;
        there = first-there 0 area from (to - from) (omega arith);
        full = λ k q. first-none 0 area from (to - from) (from + k) (omega arith) (omega arith);
      }

  -- no later than at any zero
  pub end-le : (stop : ℕ) → from ≤ stop → get_or area stop 0 ≡ 0 → end_of area from to ≤ stop
  end-le stop h z = by (dec_lt stop (end_of area from to))
    where
      by : Dec (stop < end_of area from to) → end_of area from to ≤ stop
      by (yes q) = absurd (first-none 0 area from (to - from) stop h q z)
      by (no q) = omega arith

  pub end_is : (stop : ℕ) → Ends area from stop → stop < to → end_of area from to ≡ stop
  end_is stop ends h = by (dec_lt (end_of area from to) stop)
    where
      l : end_of area from to ≤ stop
      l = end-le stop ends.low ends.there

      by : Dec (end_of area from to < stop) → end_of area from to ≡ stop
      by (yes q) =
          let found : Ends area from (end_of area from to) = end-found (omega arith) in
          let e : from + (end_of area from to - from) ≡ end_of area from to = omega arith in
          absurd (ends.full (end_of area from to - from) (omega arith) (ap (λ (j : ℕ). get_or area j 0) e ∙ found.there))
      by (no q) = omega (arith, l)

-- ---- as a list of bytes, and back
module _ (area : List ℕ) (from stop : ℕ) (ends : Ends area from stop) where
  pub ends-length : from + length (span area from (stop - from)) ≡ stop
  ends-length = omega (arith, span-length (stop - from) area from)

  pub ends-text : HoldsText area from (span area from (stop - from))
  ends-text =
      text-holds area from (span area from (stop - from)) (span-holds (stop - from) area from) (ap (λ (j : ℕ). get_or area j 0) ends-length ∙ ends.there)

  pub ends-without : Without 0 (span area from (stop - from))
  ends-without k l e =
      let m : k < stop - from = omega (arith, span-length (stop - from) area from) in
      ends.full k m (sym (span-at (stop - from) area from k m) ∙ e)

pub text-ends : (area : List ℕ) (from : ℕ) (text : List ℕ) → HoldsText area from text → Without 0 text → Ends area from (from + length text)
text-ends area from text h w = record {
  low = omega arith;
  there = text-zero area from text h;
  full = λ k q e. let l : k < length text = omega arith in w k l (sym (text-bytes area from text h k l) ∙ e);
}

-- ---- the text of an object
pub record TextFits (area : List ℕ) (used at from stop : ℕ) : Type 0 where
  pub aligned : at % word_size ≡ 0
  pub low : first_free ≤ at
  pub high : stop < byte_of used
  pub ends : Ends area from stop

module _ (area : List ℕ) (used at from : ℕ) where
  pub text-inv : text_end area used at from ≢ 0 → TextFits area used at from (text_end area used at from)
  unfolding text_end
  text-inv h =
      let z : ℕ = end_of area from (byte_of used) in
      let t = (cond-some (eqb (at % word_size) 0 && leb first_free at && ltb z (byte_of used)) z h).0 in
      let u = (and-eq-true_iff (eqb (at % word_size) 0 && leb first_free at) (ltb z (byte_of used))).0 t in
      let v = (and-eq-true_iff (eqb (at % word_size) 0) (leb first_free at)).0 u.0 in
      let l : z < byte_of used = ltb-true z (byte_of used) u.1 in
      record {
        aligned = eqb-true (at % word_size) 0 v.0;
        low = leb-true first_free at v.1;
        high = rw t l;
        ends = rw t (end-found area from (byte_of used) l);
      }

  pub text_of : (stop : ℕ) → TextFits area used at from stop → text_end area used at from ≡ stop
  unfolding text_end
  text_of stop fits =
      let e : end_of area from (byte_of used) ≡ stop = end_is area from (byte_of used) stop fits.ends fits.high in
      rw (eq-eqb (at % word_size) 0 fits.aligned, le-leb first_free at fits.low, e, lt-ltb stop (byte_of used) fits.high)
