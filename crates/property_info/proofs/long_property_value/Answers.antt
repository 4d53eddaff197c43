-- `long_property_value`: that no sum wraps follows from where the name stands. Assumes nothing.
use mathlib.Core.Path.{sym, ◌∙◌}
use Prim.Native.Nat.{◌≤◌, ◌<◌}
use native.Mathlib.Omega.{arith}
use lib.ListN.{length}
use Rattle.layout.proofs.Laws.{text-within}
use Rattle.property_info.specs.Entry.{name_of}
use Rattle.property_info.proofs.long_property_value.Goals as goal
use Rattle.property_info.proofs.long_property_value.Goals.{After-long_offset-relative}

-- the name lies in the area
within : (c : After-long_offset-relative) → (c.in_ok-name.name.from ≤ c.in_ok-name.name.to) × (c.in_ok-name.name.to < length c.args.entry.area.now)
unfolding name_of
within c = text-within _ _ _ _ _ (sym c.property_info_name.ensures ∙ c.in_ok-name.was)

pub overflow_sub-name : goal.overflow_sub-name
overflow_sub-name c = (within (goal.at.overflow_sub-name c).After-long_offset-relative).0

pub overflow_add-name : goal.overflow_add-name
overflow_add-name c = omega (arith, (within (goal.at.overflow_add-name c).After-long_offset-relative).1)

pub overflow_add-name-2 : goal.overflow_add-name-2
overflow_add-name-2 c = omega (arith, (within (goal.at.overflow_add-name-2 c).After-long_offset-relative).1)

pub align4-requires : goal.align4-requires
align4-requires c = omega (arith, (within (goal.at.align4-requires c).After-long_offset-relative).1)
