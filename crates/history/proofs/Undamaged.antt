-- Refusals that tell neither of damage nor of a bad header: by their number, which then is neither 5 nor 8, and not 0.
use Prim.Native.Nat.{ℕ}
use mathlib.Core.Path.{◌≡◌, refl, sym, ap, ◌∙◌}
use mathlib.Core.Logic.{◌≢◌, ◌⊎◌, inl, inr}
use mathlib.Core.Bool.{false}
use lib.Dec.{eqb}
use borrow.Author.Tests.{ne_eqb, eqb-false}
use Rattle.layout.specs.declared.refusal.Refusal.{Refusal}
use Rattle.layout.specs.Refusals.{number_of, no_refusal}
use Rattle.layout.proofs.Numbers.{number-some, number-one}
use Rattle.history.specs.Calls.{Undamaged}

-- the number of a refusal that is neither
abbrev pub Mild : ℕ → Type 0
Mild number = (why : Refusal) × (number ≡ number_of why) × (why ≢ Refusal.Damaged) × (why ≢ Refusal.BadHeader)

-- of a refusal that is given, these tests compute
pub mild : (why : Refusal) → eqb (number_of why) (number_of Refusal.Damaged) ≡ false → eqb (number_of why) (number_of Refusal.BadHeader) ≡ false → Mild (number_of why)
mild why d h =
    (why, refl, (λ e. eqb-false (number_of why) (number_of Refusal.Damaged) d (ap number_of e)), (λ e. eqb-false (number_of why) (number_of Refusal.BadHeader) h (ap number_of e)))

module _ (number : ℕ) where
  pub undamaged : Mild number → Undamaged number
  undamaged m = (
    λ e. m.2 (number-one m.0 Refusal.Damaged (sym m.1 ∙ e)),
    λ e. m.3 (number-one m.0 Refusal.BadHeader (sym m.1 ∙ e)),
  )

  pub not-accepted : Mild number → eqb number no_refusal ≡ false
  not-accepted m = ne_eqb number no_refusal (λ e. number-some m.0 (sym m.1 ∙ e))

  -- ---- such are an add's without room, and a lookup's
  pub room-mild : (number ≡ number_of Refusal.NoRoom) ⊎ (number ≡ number_of Refusal.TooLarge) → Mild number
  room-mild (inl e) = rw e (mild Refusal.NoRoom refl refl)
  room-mild (inr e) = rw e (mild Refusal.TooLarge refl refl)

  pub found-mild : (number ≡ number_of Refusal.Missing) ⊎ (number ≡ number_of Refusal.EmptySegment) → Mild number
  found-mild (inl e) = rw e (mild Refusal.Missing refl refl)
  found-mild (inr e) = rw e (mild Refusal.EmptySegment refl refl)
