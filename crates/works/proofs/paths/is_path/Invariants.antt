-- `paths::is_path` says what `is_path` says. The loop's invariant: the whole is the path of n exactly if what stands before `end` is that of `node`,
-- by as many segments as turns are left. Assumes nothing.
use Prim.Native.Nat.{◌+◌, ◌-◌, ◌≤◌}
use mathlib.Core.Path.{◌≡◌}
use Rattle.walk.specs.Model.{path_back}
use Rattle.works.proofs.paths.is_path.Given as goal

abbrev pub invariant-loop : goal.invariant-loop
invariant-loop l =
    (l.from ≤ l.end-2) × (l.end-2 ≤ l.to)
    × (path_back l.area l.marks (l.to - l.from + 1) l.fn.n.word l.from l.to ≡ path_back l.area l.marks (l.end - l.counter) l.node.word l.from l.end-2)
