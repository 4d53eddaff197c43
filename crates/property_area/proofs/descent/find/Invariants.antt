-- `find` answers what `find_steps` says. The loop's invariant: find over the whole name is find over the segments before the cursor, from the node
-- and the count so far. The measure is what is left of the name. Assumes nothing.
use Rattle.std.proofs.Common.{◌≡◌, ◌+◌, ◌-◌, length}
use Rattle.names.proofs.Laws.{segments_from}
use Rattle.property_area.specs.Find.{find_steps, find_from}
use Rattle.property_area.proofs.descent.find.Given as goal

abbrev pub invariant-loop-from : goal.invariant-loop-from
invariant-loop-from l = find_steps l.area l.name ≡ find_from l.area (segments_from l.name l.cursor.at) l.node l.compared

abbrev pub decreases-loop-from : goal.decreases-loop-from
decreases-loop-from l = length l.name + 1 - l.cursor.at
