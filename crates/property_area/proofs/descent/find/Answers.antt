use Rattle.std.proofs.Common.{sym, ◌∙◌, arith}
use Rattle.names.proofs.Laws.{step-segment, Stepped}
use Rattle.property_area.proofs.descent.find.Goals as goal
use Rattle.property_area.proofs.descent.find.Goals.{In-Some}

-- what the cursor's step says of the segment
stepped : (c : In-Some)
    → Stepped c.args.name.now c.loop-from.cursor.at c.in-Some.field-0.from c.in-Some.field-0.to c.in-Some.field-0.next
stepped c = step-segment _ _ _ _ _ (sym c.step.ensures ∙ c.in-Some.is)

pub slice_bounds-find_segment-count : goal.slice_bounds-find_segment-count
slice_bounds-find_segment-count c = (stepped (goal.at.slice_bounds-find_segment-count c).In-Some).low

pub slice_bounds-find_segment-start : goal.slice_bounds-find_segment-start
slice_bounds-find_segment-start c = (stepped (goal.at.slice_bounds-find_segment-start c).In-Some).low

pub slice_bounds-find_segment-end : goal.slice_bounds-find_segment-end
slice_bounds-find_segment-end c = (stepped (goal.at.slice_bounds-find_segment-end c).In-Some).high

pub loop-from-smaller : goal.loop-from-smaller
loop-from-smaller c =
    let s = stepped (goal.at.loop-from-smaller c).In-Some in
    omega (arith, s.more, s.begins, s.low, s.behind)
