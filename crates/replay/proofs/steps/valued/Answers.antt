-- `steps::valued`: both numbers of a value fit 32 bits, since the area's length does. Assumes nothing.
use native.Mathlib.Omega.{arith}
use Rattle.property_area.proofs.ValueLaws.{PartIn, value-stands, part_in}
use Rattle.replay.proofs.steps.valued.Goals as goal
use Rattle.replay.proofs.steps.valued.Goals.{In-Ok}

-- the value lies in the area
placed : (c : In-Ok) → PartIn c.args.area.now c.in-Ok.field-0.from c.in-Ok.field-0.to
placed c = part_in _ _ _ (value-stands _ _) _ c.value.ensures _ _ c.in-Ok.is

pub overflow_cast-result : goal.overflow_cast-result
overflow_cast-result c =
    let s = placed (goal.at.overflow_cast-result c).In-Ok in
    omega (arith, s.low, s.high, s.small)

pub overflow_sub-result : goal.overflow_sub-result
overflow_sub-result c = (placed (goal.at.overflow_sub-result c).In-Ok).low

pub overflow_cast-result-in-Ok : goal.overflow_cast-result-in-Ok
overflow_cast-result-in-Ok c =
    let s = placed (goal.at.overflow_cast-result-in-Ok c).In-Ok in
    omega (arith, s.low, s.high, s.small)
