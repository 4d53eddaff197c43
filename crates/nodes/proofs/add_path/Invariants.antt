-- `add_path` comes to what `add_path` says. The loop's invariant: the path over the whole name is the path over the segments before the cursor,
-- from the bytes and the node so far. The measure is what is left of the name. Assumes nothing.
use Prim.Native.Nat.{◌+◌, ◌-◌}
use mathlib.Core.Path.{◌≡◌}
use lib.ListN.{length}
use Rattle.names.specs.Names.{segments}
use Rattle.names.proofs.Laws.{segments_from}
use Rattle.layout.specs.Layout.{root_at}
use Rattle.allocation.specs.View.{seen}
use Rattle.nodes.specs.Nodes.{add_path}
use Rattle.nodes.proofs.add_path.Given as goal

abbrev pub invariant-loop-from : goal.invariant-loop-from
invariant-loop-from l = (length l.area ≡ length l.initial.area) × (seen (add_path l.initial.area (segments l.name) root_at) ≡ seen (add_path l.area (segments_from l.name l.cursor.at) l.node))

abbrev pub decreases-loop-from : goal.decreases-loop-from
decreases-loop-from l = length l.name + 1 - l.cursor.at
