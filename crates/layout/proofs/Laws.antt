-- Laws of specs/Layout.antt: when an object is touched, and where a text ends.
use mathlib.Core.Path.{◌≡◌, sym, ap, ◌∙◌}
use mathlib.Core.Bool.{Bool, true, false}
use mathlib.Core.List.{List}
use Prim.Native.Nat.{ℕ, ◌+◌, ◌%◌, ◌≤◌, ◌<◌}
use native.Mathlib.Omega.{arith}
use borrow.Author.Tests.{le-leb, leb-true, eqb-true, eqb-false}
use lib.ListN.{length}
use lib.Dec.{eqb, leb}
use Rattle.words.specs.Words.{first_in}
use Rattle.words.proofs.Laws.{bool_cases, clash, first-low, first-high}
use Rattle.std.specs.Prelude.{None, Result, Err, IsErrAnd}
use Rattle.std.proofs.lemmas.Result.{err_from_is_err_and}
use Rattle.layout.specs.declared.refusal.Refusal.{Refusal}
use Rattle.layout.specs.declared.text.Span.{Span}
use Rattle.layout.specs.Refusals.{Verdict, verdict_number, leaves, refuse_leaving}
use Rattle.layout.specs.Layout.{data_size, touch, span_at, text_in}

-- ---- touching
module _ (area : List ℕ) (size at : ℕ) where
  pub touch-lies : at + size ≤ data_size area → touch area size at ≡ eqb (at % 4) 0
  unfolding touch
  touch-lies h = rw (le-leb (at + size) (data_size area) h)

  pub touch-in : touch area size at ≡ true → at + size ≤ data_size area
  unfolding touch
  touch-in h =
      bool_cases (leb (at + size) (data_size area))
      (λ e. leb-true (at + size) (data_size area) e)
      (λ e. let z : ◌≡◌ {A = Bool} false true = rw e at h in clash cc)

-- what is touched lies within the area, at a multiple of 4
pub touch-says : (area : List ℕ) (size at : ℕ) → touch area size at ≡ true → (at + size ≤ data_size area) × (at % 4 ≡ 0)
touch-says area size at t =
    let h : at + size ≤ data_size area = touch-in area size at t in
    (h, eqb-true (at % 4) 0 (sym (touch-lies area size at h) ∙ t))

-- ---- a refusal that is handed on is the refusal that came
pub handed-on : {A : Type 0} (r : Result A Refusal) (why : Refusal) → IsErrAnd r (λ given. given ≡ why) → r ≡ Err why
handed-on r why e = let p = err_from_is_err_and r e in p.1 ∙ ap Err p.2

-- a place that is not touched is damage
pub damage-handed : {A : Type 0} (r : Result A Refusal) (why : Refusal) → IsErrAnd r (λ given. given ≡ why) → why ≡ Refusal.Damaged → r ≡ Err Refusal.Damaged
damage-handed r why e d = handed-on r why e ∙ ap Err d

pub verdict-handed : (v : Verdict) (why : Refusal) (bytes : List ℕ) → IsErrAnd v (λ given. given ≡ why) → leaves (verdict_number v) bytes ≡ refuse_leaving bytes why
verdict-handed v why bytes e = ap (λ (w : Verdict). leaves (verdict_number w) bytes) (handed-on v why e)

pub verdict-damaged : (v : Verdict) (why : Refusal) (bytes : List ℕ) → IsErrAnd v (λ given. given ≡ why) → why ≡ Refusal.Damaged → leaves (verdict_number v) bytes ≡ refuse_leaving bytes Refusal.Damaged
verdict-damaged v why bytes e d = ap (λ (w : Verdict). leaves (verdict_number w) bytes) (damage-handed v why e d)

-- ---- text
pub span-one : (a b from to : ℕ) → span_at a b ≡ span_at from to → (a ≡ from) × (b ≡ to)
span-one a b from to e =
    let f : ◌≡◌ {A = Span} (record { from = a; to = b }) (record { from = from; to = to }) = cc in
    (ap (λ (s : Span). s.from) f, ap (λ (s : Span). s.to) f)

pub span-some : {P : Type 0} (from to : ℕ) → None ≡ span_at from to → P
span-some from to e = clash cc

-- where a text stands that is not broken: its zero lies in the area too
pub record Stands (area : List ℕ) (place size from to : ℕ) : Type 0 where
  pub begins : from ≡ place
  pub low : from ≤ to
  pub high : to < place + size
  pub within : place + size ≤ length area

pub text-stands : (area : List ℕ) (place size from to : ℕ) → text_in area place size ≡ span_at from to → Stands area place size from to
unfolding text_in
text-stands area place size from to h =
    let z = first_in 0 area place size in
    bool_cases (leb (place + size) (length area))
    (λ e. bool_cases (eqb z (place + size))
    (λ f. span-some from to (rw (e, f) at h))
    (λ f.
    let k = span-one place z from to (rw (e, f) at h) in
    record {
      begins = sym k.0;
      low = omega (arith, first-low 0 area place size);
      high = omega (arith, first-high 0 area place size, eqb-false z (place + size) f);
      within = leb-true _ _ e;
    }))
    (λ e. span-some from to (rw e at h))

-- so it lies in the area
pub text-within : (area : List ℕ) (place size from to : ℕ) → text_in area place size ≡ span_at from to → (from ≤ to) × (to < length area)
text-within area place size from to h =
    let s = text-stands area place size from to h in
    (s.low, omega (arith, s.high, s.within))
