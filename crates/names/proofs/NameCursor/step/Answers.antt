-- `NameCursor::step`: the place behind a segment fits, since the segment ends within the name. Assumes nothing.
use Prim.Native.Nat.{◌-◌}
use native.Mathlib.Omega.{arith}
use lib.ListN.{length}
use Rattle.words.proofs.Laws.{first-high}
use Rattle.names.specs.Names.{dot}
use Rattle.names.proofs.NameCursor.step.Goals as goal

pub overflow_add-result : goal.overflow_add-result
overflow_add-result c =
    let a = c.args in
    omega (arith, first-high dot a.name.now a.self.at (length a.name.now - a.self.at))
