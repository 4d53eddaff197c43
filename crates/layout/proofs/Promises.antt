-- What the layout promises: the header's fields fill it, touching is what RULES 3.2 says, and no two refusals share a number.
use mathlib.Core.Path.{◌≡◌, refl, ◌∙◌}
use mathlib.Core.Logic.{◌≢◌}
use mathlib.Core.Bool.{true}
use mathlib.Core.List.{List}
use Prim.Native.Nat.{ℕ, ◌+◌, ◌*◌, ◌%◌, ◌≤◌}
use borrow.Author.Tests.{eq-eqb}
use Rattle.layout.specs.declared.refusal.Refusal.{Refusal}
use Rattle.layout.specs.Layout.{word_size, header_size, used_field, area_serial_field, magic_field, magic_size, version_field, reserved_field, data_size, touch}
use Rattle.layout.specs.Refusals.{Verdict, number_of, verdict_number, Outcome, leaves}
use Rattle.layout.proofs.Laws.{touch-lies}
use Rattle.layout.proofs.Laws as laws
use Rattle.layout.proofs.Numbers as numbers

-- ---- the header's fields stand side by side and fill it: used, serial, magic, version, 28 reserved words
pub header-full :
    (used_field + word_size ≡ area_serial_field)
    × (area_serial_field + word_size ≡ magic_field)
    × (magic_field + magic_size ≡ version_field)
    × (version_field + word_size ≡ reserved_field)
    × (reserved_field + 28 * word_size ≡ header_size)
header-full = (refl, refl, refl, refl, refl)

-- ---- an object is touched exactly if it lies within the area, at a multiple of 4
pub touch-yes : (area : List ℕ) (size at : ℕ) → at + size ≤ data_size area → at % 4 ≡ 0 → touch area size at ≡ true
touch-yes area size at h e = touch-lies area size at h ∙ eq-eqb (at % 4) 0 e

pub touch-says : (area : List ℕ) (size at : ℕ) → touch area size at ≡ true → (at + size ≤ data_size area) × (at % 4 ≡ 0)
touch-says = laws.touch-says

-- ---- a number tells its verdict, and so its refusal
pub one-verdict : (v w : Verdict) → verdict_number v ≡ verdict_number w → v ≡ w
one-verdict = numbers.verdict-one

-- none has 0, which stands for accepted
pub some_number : (why : Refusal) → number_of why ≢ 0
some_number = numbers.number-some

pub one-refusal : (a b : Refusal) → number_of a ≡ number_of b → a ≡ b
one-refusal = numbers.number-one

-- ---- so a verdict and bytes that a definition gives are given once
pub one-outcome : (o : Outcome) (v w : Verdict) (a b : List ℕ) → leaves (verdict_number v) a ≡ o → leaves (verdict_number w) b ≡ o → (v ≡ w) × (a ≡ b)
one-outcome = numbers.outcome-one
