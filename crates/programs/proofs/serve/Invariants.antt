-- `serve` goes through the input and prints what `answer_some` says. The loop's invariant: line and page are ready; what was owed at the start is a text, and what is
-- owed from here on. The measure is what is left of the input. Assumes nothing.
use Prim.Native.Nat.{ℕ, ◌-◌, ◌≤◌}
use mathlib.Core.Path.{◌≡◌}
use mathlib.Core.List.{List}
use lib.ListN.{length, take, drop}
use Rattle.programs.specs.Owed.{Ready, Owes}
use Rattle.programs.proofs.serve.Given as goal

abbrev pub invariant-loop-next : goal.invariant-loop-next
invariant-loop-next l =
    (l.line.out.ghost_name ≡ l.fn.line.out.ghost_name) × (l.page.out.ghost_name ≡ l.fn.page.out.ghost_name)
    × Ready l.line.out.now l.line.at l.page.out.now × (l.next ≤ length l.input)
    × ((text : List ℕ) × Owes l.area (take l.fn.line.at l.fn.line.out.now) l.input text (take l.line.at l.line.out.now) (drop l.next l.input))

abbrev pub decreases-loop-next : goal.decreases-loop-next
decreases-loop-next l = length l.input - l.next
