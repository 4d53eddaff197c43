-- Bytes that stand in an area: parts, joins, a zero at the end; bytes that lack a value.
use Prim.Native.Nat.{ℕ, zero, suc, ◌+◌, ◌-◌, ◌<◌}
use native.Mathlib.Nat.{add-zero}
use native.Mathlib.Omega.{arith}
use native.Mathlib.Decide.{dec_lt}
use mathlib.Core.Path.{◌≡◌, sym, ap, subst, ◌∙◌}
use mathlib.Core.Logic.{◌≢◌}
use mathlib.Core.List.{List, [], ◌∷◌, ◌++◌}
use lib.ListN.{length, get_or, length-append, get_or-append}
use lib.Seq.{get_or-append-add}
use Rattle.sound.specs.Sound.{Holds, HoldsText, Without}

module _ (area : List ℕ) where
  pub holds-move : (from to : ℕ) (bs : List ℕ) → from ≡ to → Holds area from bs → Holds area to bs
  holds-move from to bs e h = subst (λ (i : ℕ). Holds area i bs) e h

  pub holds-left : (from : ℕ) (x y : List ℕ) → Holds area from (x ++ y) → Holds area from x
  holds-left from x y h k l = h k (omega (arith, length-append x y)) ∙ get_or-append x y 0 k l

  pub holds-right : (from : ℕ) (x y : List ℕ) → Holds area from (x ++ y) → Holds area (from + length x) y
  holds-right from x y h k l =
      let e : from + length x + k ≡ from + (length x + k) = omega arith in
      ap (λ (j : ℕ). get_or area j 0) e ∙ h (length x + k) (omega (arith, length-append x y)) ∙ get_or-append-add x y k 0

  pub holds-append : (from : ℕ) (x y : List ℕ) → Holds area from x → Holds area (from + length x) y → Holds area from (x ++ y)
  holds-append from x y f g k l = by (dec_lt k (length x))
    where
      by : Dec (k < length x) → get_or area (from + k) 0 ≡ get_or (x ++ y) k 0
      by (yes q) = f k q ∙ sym (get_or-append x y 0 k q)
      by (no q) =
          let e : length x + (k - length x) ≡ k = omega arith in
          let d : from + length x + (k - length x) ≡ from + k = omega arith in
          ap (λ (j : ℕ). get_or area j 0) (sym d) ∙ g (k - length x) (omega (arith, length-append x y)) ∙ sym (get_or-append-add x y (k - length x) 0)
          ∙ ap (λ (j : ℕ). get_or (x ++ y) j 0) e

  pub holds-one : (from b : ℕ) → get_or area from 0 ≡ b → Holds area from (b ∷ [])
  holds-one from b e zero l = ap (λ (j : ℕ). get_or area j 0) (add-zero from) ∙ e
  holds-one from b e (suc k) l = absurd (omega arith)

  pub holds-head : (from b : ℕ) (bs : List ℕ) → Holds area from (b ∷ bs) → get_or area from 0 ≡ b
  holds-head from b bs h = ap (λ (j : ℕ). get_or area j 0) (sym (add-zero from)) ∙ h 0 (omega arith)

  -- a text and its zero
  pub text-holds : (from : ℕ) (text : List ℕ) → Holds area from text → get_or area (from + length text) 0 ≡ 0 → HoldsText area from text
  text-holds from text h z = holds-append from text (0 ∷ []) h (holds-one (from + length text) 0 z)

  pub text-bytes : (from : ℕ) (text : List ℕ) → HoldsText area from text → Holds area from text
  text-bytes from text h = holds-left from text (0 ∷ []) h

  pub text-zero : (from : ℕ) (text : List ℕ) → HoldsText area from text → get_or area (from + length text) 0 ≡ 0
  text-zero from text h = holds-head (from + length text) 0 [] (holds-right from text (0 ∷ []) h)

pub text-length : (text : List ℕ) → length (text ++ 0 ∷ []) ≡ length text + 1
text-length text = length-append text (0 ∷ [])

pub without-append : (b : ℕ) (x y : List ℕ) → Without b x → Without b y → Without b (x ++ y)
without-append b x y f g k l = by (dec_lt k (length x))
  where
    by : Dec (k < length x) → get_or (x ++ y) k 0 ≢ b
    by (yes q) e = f k q (sym (get_or-append x y 0 k q) ∙ e)
    by (no q) e =
        let d : length x + (k - length x) ≡ k = omega arith in
        g (k - length x) (omega (arith, length-append x y)) (sym (get_or-append-add x y (k - length x) 0) ∙ ap (λ (j : ℕ). get_or (x ++ y) j 0) d ∙ e)
