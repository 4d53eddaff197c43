-- Room asked for, by the used mark: it is given, or it is refused and nothing changes.
use Prim.Native.Nat.{ℕ, ◌+◌, ◌≤◌, ◌<◌}
use native.Mathlib.Omega.{arith}
use mathlib.Core.Path.{◌≡◌, refl, ◌∙◌}
use mathlib.Core.Logic.{◌⊎◌, inl, inr}
use mathlib.Core.Bool.{cond}
use mathlib.Core.List.{List, [], ◌∷◌}
use lib.Dec.{ltb}
use borrow.Author.Tests.{lt-ltb, le-ltb, ltb-true, ltb-false}
use Rattle.words.proofs.Laws.{bool_cases}
use Rattle.words.specs.Stores.{run, word_store}
use Rattle.layout.specs.declared.refusal.Refusal.{Refusal}
use Rattle.layout.specs.Layout.{word_max, used_field, data_size, header_word}
use Rattle.layout.specs.Refusals.{number_of}
use Rattle.allocation.specs.Steps.{goes, stops, stop_by}
use Rattle.allocation.specs.Allocate.{allocate}

-- the refusal for want of room: 9 above 32 bits, else 4
unfoldable pub full_number : ℕ → ℕ
full_number grown = cond (ltb word_max grown) (number_of Refusal.TooLarge) (number_of Refusal.NoRoom)

module _ (area : List ℕ) (room used : ℕ) (mark : header_word area used_field ≡ used) where
  pub room-given : data_size area ≤ word_max → used + room ≤ data_size area
      → allocate area room ≡ goes used (run area (word_store used_field (used + room) ∷ [])) (room ∷ [])
  unfolding allocate
  room-given small fits = rw (mark, le-ltb word_max (used + room) (omega arith), le-ltb (data_size area) (used + room) fits)

  pub room-none : used + room ≤ word_max → data_size area < used + room → allocate area room ≡ stop_by area Refusal.NoRoom
  unfolding allocate
  room-none small full = rw (mark, le-ltb word_max (used + room) small, lt-ltb (data_size area) (used + room) full)

  pub room-large : word_max < used + room → allocate area room ≡ stop_by area Refusal.TooLarge
  unfolding allocate
  room-large large = rw (mark, lt-ltb word_max (used + room) large)

  -- room that is refused, with either number
  pub room-full : data_size area < used + room → allocate area room ≡ stops (full_number (used + room)) area []
  unfolding full_number
  room-full past =
      bool_cases (ltb word_max (used + room))
      (λ t. rw t (room-large (ltb-true word_max (used + room) t)))
      (λ t. rw t (room-none (ltb-false word_max (used + room) t) past))

pub full-number : (grown : ℕ) → (full_number grown ≡ number_of Refusal.NoRoom) ⊎ (full_number grown ≡ number_of Refusal.TooLarge)
unfolding full_number
full-number grown = bool_cases (ltb word_max grown) (λ t. rw t (inr refl)) (λ t. rw t (inl refl))

-- 4, unless the sum passes 32 bits, and with it any that is no less
pub which-number : (wanted number limit : ℕ) → wanted ≤ limit → number ≡ full_number wanted → (number ≡ number_of Refusal.NoRoom) ⊎ ((number ≡ number_of Refusal.TooLarge) × (word_max < limit))
unfolding full_number
which-number wanted number limit within e =
    bool_cases (ltb word_max wanted) (λ t. inr (e ∙ rw t refl, omega (arith, ltb-true word_max wanted t, within))) (λ t. inl (e ∙ rw t refl))
