-- Bytes up to their first zero: they have none, they stand where the bytes stand, and a scan there ends behind them.
use Prim.Native.Nat.{ℕ, ◌+◌, ◌≤◌, ◌<◌}
use native.Mathlib.Nat.{sub-zero}
use native.Mathlib.Omega.{arith}
use native.Mathlib.Decide.{dec_lt}
use mathlib.Core.Path.{◌≡◌, sym, ap, ◌∙◌}
use mathlib.Core.List.{List}
use lib.ListN.{length, get_or}
use lib.Seq.{get_or-take, length-take-le}
use Rattle.words.specs.Words.{first_in, part, up_to_zero}
use Rattle.words.proofs.Laws.{first-high}
use Rattle.words.proofs.Promises.{first-none, first-there}
use Rattle.sound.specs.Sound.{Holds, HoldsText, Has, Without}
use Rattle.sound.proofs.Holding.{text-bytes, text-zero, text-holds}
use Rattle.finding.proofs.NodeReads.{part-holds, first-zero}

module _ (bs : List ℕ) where
  -- where it is
  abbrev end : ℕ
  end = first_in 0 bs 0 (length bs)

  up-length : length (up_to_zero bs) ≡ first_in 0 bs 0 (length bs)
  up-length = length-take-le end bs (omega (arith, first-high 0 bs 0 (length bs)))

  pub up-most : length (up_to_zero bs) ≤ length bs
  up-most = omega (arith, up-length, first-high 0 bs 0 (length bs))

  pub up-whole : Without 0 (up_to_zero bs)
  up-whole k l e =
      first-none 0 bs 0 (length bs) k (omega arith) (omega (arith, up-length)) (sym (get_or-take end bs k 0 (omega (arith, up-length))) ∙ e)

  -- a zero among the bytes
  pub up-before : Has 0 bs → length (up_to_zero bs) < length bs
  up-before has = by (dec_lt end (length bs))
    where
      by : Dec (end < length bs) → length (up_to_zero bs) < length bs
      by (yes p) = omega (arith, up-length)
      by (no p) = absurd (first-none 0 bs 0 (length bs) has.0 (omega arith) (omega (arith, has.1)) has.2)

  module _ (area : List ℕ) (from : ℕ) (h : Holds area from bs) where
    begins : Holds area from (up_to_zero bs)
    begins k l = h k (omega (arith, up-most)) ∙ sym (get_or-take end bs k 0 (omega (arith, up-length)))

    pub up-held : length (up_to_zero bs) < length bs → HoldsText area from (up_to_zero bs)
    up-held l =
        text-holds area from (up_to_zero bs) begins
        (h (length (up_to_zero bs)) l ∙ ap (λ (k : ℕ). get_or bs k 0) up-length ∙ first-there 0 bs 0 (length bs) (omega (arith, up-length)))

  pub up-text : (area : List ℕ) (from : ℕ) → HoldsText area from bs → HoldsText area from (up_to_zero bs)
  up-text area from h = by (dec_lt (length (up_to_zero bs)) (length bs))
    where
      by : Dec (length (up_to_zero bs) < length bs) → HoldsText area from (up_to_zero bs)
      by (yes p) = up-held area from (text-bytes area from bs h) p
      by (no p) =
          let e : length (up_to_zero bs) ≡ length bs = omega (arith, up-most) in
          text-holds area from (up_to_zero bs) (begins area from (text-bytes area from bs h))
          (ap (λ (k : ℕ). get_or area (from + k) 0) e ∙ text-zero area from bs h)

-- ---- a scan over a text that has no zero but its last
pub scan-shows : (area : List ℕ) (from : ℕ) (text : List ℕ) → HoldsText area from text → Without 0 text → (size : ℕ) → length text < size
    → from + length text ≤ length area → part area from (first_in 0 area from size) ≡ text
scan-shows area from text h whole size l fits =
    rw (first-zero area from text h whole size l) (part-holds area from text (text-bytes area from text h) fits)

-- a slot that begins with a text and its zero shows the text up to its first
pub slot-shows : (slot value : List ℕ) → length value < length slot → HoldsText slot 0 value → up_to_zero slot ≡ up_to_zero value
slot-shows slot value l h =
    rw sub-zero at
    (scan-shows slot 0 (up_to_zero value) (up-text value slot 0 h) (up-whole value) (length slot) (omega (arith, up-most value)) (omega (arith, up-most value)))
