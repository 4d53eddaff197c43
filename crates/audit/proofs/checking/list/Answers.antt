-- `checking::list` counts first, so that the list is kept on any refusal, then surveys with the list. Assumes nothing.
use Rattle.audit.proofs.CheckLaws.{list-room, list-listed}
use Rattle.audit.proofs.checking.list.Goals as goal

pub survey-requires : goal.survey-requires
survey-requires c =
    list-room c.args.area.now c.args.scratch.now c.count.new.scratch c.count.result c.count.ensures c.args.list.now c.in_ok-entries.entries c.in_ok-entries.was

pub returns : goal.returns
returns c =
    list-listed c.args.area.now c.args.scratch.now c.count.new.scratch c.count.result c.count.ensures c.args.list.now c.in_ok-entries.entries c.in_ok-entries.was c.if-list-entries.false
    c.survey.result c.survey.new.scratch c.survey.new.list c.survey.ensures.clears c.survey.ensures.judges c.survey.ensures.notes
