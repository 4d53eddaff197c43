-- `answer_some` says what it owes, turn by turn. The loop's invariant: what is said, with what is owed for the rest, is what was owed at the start; places lie
-- within their buffers, which stay large enough; at the start nothing is said. The measure is what is left of the input. Assumes nothing.
use Prim.Native.Nat.{◌-◌, ◌≤◌}
use mathlib.Core.Path.{◌≡◌}
use lib.ListN.{length, take}
use Rattle.programs.specs.Owed.{Ready, OwesIn}
use Rattle.programs.proofs.answer_some.Given as goal

abbrev pub invariant-loop-next : goal.invariant-loop-next
invariant-loop-next l =
    (l.line.out.ghost_name ≡ l.fn.line.out.ghost_name) × (l.page.out.ghost_name ≡ l.fn.page.out.ghost_name)
    × Ready l.line.out.now l.line.at l.page.out.now × (l.next ≤ length l.input) × (l.page.at ≤ length l.page.out.now) × (l.from ≤ l.next) × (l.next ≡ l.from → l.page.at ≡ 0)
    × OwesIn l.area l.input (take l.fn.line.at l.fn.line.out.now) l.from (take l.page.at l.page.out.now) (take l.line.at l.line.out.now) l.next

abbrev pub decreases-loop-next : goal.decreases-loop-next
decreases-loop-next l = length l.input - l.next
