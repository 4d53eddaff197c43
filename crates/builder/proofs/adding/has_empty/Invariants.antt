-- `has_empty` says what `any_empty` says of the segments. The loop's invariant: some segment is empty exactly if one before the cursor is.
-- The measure is what is left of the name. Assumes nothing.
use Prim.Native.Nat.{◌+◌, ◌-◌}
use mathlib.Core.Path.{◌≡◌}
use lib.ListN.{length}
use Rattle.names.specs.Names.{segments}
use Rattle.names.proofs.Laws.{segments_from}
use Rattle.builder.specs.Add.{any_empty}
use Rattle.builder.proofs.adding.has_empty.Given as goal

abbrev pub invariant-loop-from : goal.invariant-loop-from
invariant-loop-from l = any_empty (segments l.name) ≡ any_empty (segments_from l.name l.cursor.at)

abbrev pub decreases-loop-from : goal.decreases-loop-from
decreases-loop-from l = length l.name + 1 - l.cursor.at
