-- Laws that the papers name and that no proof here needs any more.
use Prim.Native.Nat.{ℕ, ◌-◌}
use mathlib.Core.Path.{◌≡◌}
use Rattle.std.specs.Prelude.{Result}
use Rattle.layout.specs.declared.refusal.Refusal.{Refusal}
use Rattle.layout.specs.declared.text.Span.{Span}
use Rattle.layout.specs.Refusals.{Answer}
use Rattle.property_area.specs.Value.{Part, part_answer}
use Rattle.property_area.proofs.ValueLaws.{part_at}
use Rattle.capi.specs.declared.PaPart.{PaPart}
use Rattle.capi.specs.Capi.{part_struct}

abbrev c-part : ℕ → ℕ → ℕ → PaPart
c-part refusal start length = record { refusal = refusal; start = start; length = length }

-- ---- s is what value, or name, answered
module _ (answer : Answer Part) (s : Result Span Refusal) (e : part_answer s ≡ answer) where
  pub part_bytes : (from to : ℕ) → s ≡ part_at from to → c-part 0 from (to - from) ≡ part_struct answer
  part_bytes from to g = rw (← e, g)
