-- `checking::check` accepts where there is a count, and refuses as the count does. Assumes nothing.
use mathlib.Core.Path.{◌∙◌}
use Rattle.layout.proofs.Laws.{verdict-handed}
use Rattle.audit.proofs.CheckLaws.{check-entries, check-refused}
use Rattle.audit.proofs.checking.check.Goals as goal

pub returns-in_err-count : goal.returns-in_err-count
returns-in_err-count c = λ judged.
    verdict-handed c.from_residual.result _ _ c.from_residual.ensures.1
    ∙ check-refused c.args.area.now c.args.scratch.now c.count.new.scratch c.count.result c.count.ensures _ c.in_err-count.was judged

pub returns : goal.returns
returns c = check-entries c.args.area.now c.args.scratch.now c.count.new.scratch c.count.result c.count.ensures _ c.in_ok-count.was
