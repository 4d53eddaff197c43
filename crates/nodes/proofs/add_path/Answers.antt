use mathlib.Core.Path.{refl, sym, ◌∙◌}
use native.Mathlib.Omega.{arith}
use Rattle.std.proofs.lemmas.Grind.{common_steps}
use Rattle.names.proofs.Laws.{segments-whole, step-done, step-segment, Stepped}
use Rattle.allocation.specs.View.{seen}
use Rattle.nodes.specs.Nodes.{add_path}
use Rattle.nodes.proofs.add_path.Goals as goal
use Rattle.nodes.proofs.add_path.Goals.{In-Some}

pub loop-from-init : goal.loop-from-init
loop-from-init c = (refl, rw (c.start-cursor.ensures, segments-whole))

pub returns : goal.returns
unfolding add_path seen
returns c = rw (c.loop-from.invariant.1, step-done _ _ (sym c.step.ensures ∙ c.in_default.is))

-- what the cursor's step says of the segment
stepped : (c : In-Some)
    → Stepped c.args.name.now c.loop-from.cursor.at c.in-Some.field-0.from c.in-Some.field-0.to c.in-Some.field-0.next
stepped c = step-segment _ _ _ _ _ (sym c.step.ensures ∙ c.in-Some.is)

pub slice_bounds-add_segment-count : goal.slice_bounds-add_segment-count
slice_bounds-add_segment-count c = (stepped (goal.at.slice_bounds-add_segment-count c).In-Some).low

pub slice_bounds-add_segment-start : goal.slice_bounds-add_segment-start
slice_bounds-add_segment-start c = (stepped (goal.at.slice_bounds-add_segment-start c).In-Some).low

pub slice_bounds-add_segment-end : goal.slice_bounds-add_segment-end
slice_bounds-add_segment-end c = (stepped (goal.at.slice_bounds-add_segment-end c).In-Some).high

pub returns-in_default-placed : goal.returns-in_default-placed
unfolding add_path seen
returns-in_default-placed c =
    let s = stepped (goal.at.returns-in_default-placed c).In-Some in
    rw (c.loop-from.invariant.1, s.parts) (grind (arith, common_steps))

pub loop-from-smaller : goal.loop-from-smaller
loop-from-smaller c =
    let s = stepped (goal.at.loop-from-smaller c).In-Some in
    omega (arith, s.more, s.begins, s.low, s.behind)

pub loop-from-preserved : goal.loop-from-preserved
unfolding add_path seen
loop-from-preserved c =
    let s = stepped (goal.at.loop-from-preserved c).In-Some in
    (omega arith, rw (c.loop-from.invariant.1, s.parts) (grind (arith, common_steps)))
