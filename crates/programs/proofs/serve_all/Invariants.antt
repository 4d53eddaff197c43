-- `serve_all` reads until the input ends. The loop's invariant: line and page are ready. Assumes nothing.
use Rattle.programs.specs.Owed.{Ready}
use Rattle.programs.proofs.serve_all.Given as goal

abbrev pub invariant-loop : goal.invariant-loop
invariant-loop g l = Ready l.line.out.now l.line.at l.page.out.now
