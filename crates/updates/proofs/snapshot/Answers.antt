-- `snapshot` copies what `shown` says. Assumes nothing.
use native.Mathlib.Omega.{arith}
use lib.ListN.{length-take, length-drop}
use Rattle.updates.proofs.Laws.{slot-low, slot-high, slot-copied}
use Rattle.updates.proofs.snapshot.Goals as goal

pub slice_bounds-copy-count : goal.slice_bounds-copy-count
slice_bounds-copy-count c = slot-low _ _ _ c.first-to.ensures

pub slice_bounds-copy-start : goal.slice_bounds-copy-start
slice_bounds-copy-start c = slot-low _ _ _ c.first-to.ensures

pub slice_bounds-copy-end : goal.slice_bounds-copy-end
slice_bounds-copy-end c = omega (arith, slot-high _ _ _ c.first-to.ensures)

pub copy-requires : goal.copy-requires
copy-requires c = simp (length-take, length-drop) (omega (arith, slot-high _ _ _ c.first-to.ensures))

pub overflow_sub-result : goal.overflow_sub-result
overflow_sub-result c = slot-low _ _ _ c.first-to.ensures

pub returns : goal.returns
returns c = slot-copied _ _ _ c.first-to.ensures c.args.entry.inside _ _ c.requires c.copy.ensures
