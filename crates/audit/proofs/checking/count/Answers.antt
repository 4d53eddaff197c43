-- `checking::count` makes the tests of the header and of scratch, then surveys with no list. Assumes nothing.
use mathlib.Core.Path.{sym, ◌∙◌}
use Rattle.audit.specs.Check.{listed_answer}
use Rattle.audit.proofs.CheckLaws.{count-judged}
use Rattle.audit.proofs.checking.count.Goals as goal

pub returns : goal.returns
returns c =
    count-judged c.args.area.now c.args.scratch.now (sym c.header_ok.ensures ∙ c.if-not-header_ok.false) c.if-scratch-area.false (listed_answer c.survey.result) c.survey.new.scratch c.survey.ensures.clears c.survey.ensures.judges
