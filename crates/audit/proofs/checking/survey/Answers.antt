-- `checking::survey` clears scratch, walks, clears it again, and tells what the walk decided. Assumes nothing.
use mathlib.Core.Path.{refl, sym, ap, ◌∙◌}
use mathlib.Core.Bool.{true, false}
use lib.ListN.{length}
use Rattle.words.specs.Words.{put}
use Rattle.layout.specs.declared.refusal.Refusal.{Refusal}
use Rattle.layout.proofs.Laws.{handed-on}
use Rattle.audit.specs.Check.{listed_answer}
use Rattle.audit.proofs.CheckLaws.{header-word, tour-fits, front-none, walk_none, walk-tree, walk-listed, none-judged, tree-judged}
use Rattle.audit.proofs.checking.survey.Goals as goal

pub word-mark-requires : goal.word-mark-requires
word-mark-requires c = header-word c.args.area.now c.requires.0

pub returns-then-not-front_ok-clause-judges : goal.returns-then-not-front_ok-clause-judges
returns-then-not-front_ok-clause-judges c = none-judged c.args.area.now (front-none c.args.area.now c.word-mark.result c.word-mark.ensures (sym c.front_ok.ensures ∙ c.if-not-front_ok.true))

pub returns-then-not-front_ok-clause-notes : goal.returns-then-not-front_ok-clause-notes
returns-then-not-front_ok-clause-notes c = λ tree S. absurd (front-none c.args.area.now c.word-mark.result c.word-mark.ensures (sym c.front_ok.ensures ∙ c.if-not-front_ok.true) tree S)

pub invariant_of-tour : goal.invariant_of-tour
invariant_of-tour c = record { inside = tour-fits c.args.area.now c.word-mark.result c.word-mark.ensures c.requires.0 (sym c.front_ok.ensures ∙ c.if-not-front_ok.false) }

pub returns-clause-judges : goal.returns-clause-judges
returns-clause-judges c =
    let area = c.args.area.now in
    let front = sym c.front_ok.ensures ∙ c.if-not-front_ok.false in
    let found = walk-tree area c.word-mark.result c.word-mark.ensures c.requires.0 front c.args.scratch.now c.clear.new.s c.clear.ensures c.requires.1 true c.in_ok-walked.ensures.ends refl in
    let lists = walk-listed area c.word-mark.result c.word-mark.ensures c.requires.0 front c.args.scratch.now c.clear.new.s c.clear.ensures c.requires.1 in
    tree-judged area found.0 found.1 c.in_ok-walked.field-0 (λ tree S. c.in_ok-walked.ensures.notes.0 ∙ ap length (lists tree S))

pub returns-clause-notes : goal.returns-clause-notes
returns-clause-notes c =
    let front = sym c.front_ok.ensures ∙ c.if-not-front_ok.false in
    let lists = walk-listed c.args.area.now c.word-mark.result c.word-mark.ensures c.requires.0 front c.args.scratch.now c.clear.new.s c.clear.ensures c.requires.1 in
    λ tree S. c.in_ok-walked.ensures.notes.1 ∙ ap (put c.args.list.now 0) (lists tree S)

pub returns-in_err-walked-clause-judges : goal.returns-in_err-walked-clause-judges
returns-in_err-walked-clause-judges c =
    let front = sym c.front_ok.ensures ∙ c.if-not-front_ok.false in
    λ judged.
    ap listed_answer (handed-on c.from_residual.result Refusal.Damaged c.from_residual.ensures.1)
    ∙ none-judged c.args.area.now
    (walk_none c.args.area.now c.word-mark.result c.word-mark.ensures c.requires.0 front c.args.scratch.now c.clear.new.s c.clear.ensures c.requires.1 false c.in_err-walked.ensures.ends refl)
    judged

pub returns-in_err-walked-clause-notes : goal.returns-in_err-walked-clause-notes
returns-in_err-walked-clause-notes c =
    let front = sym c.front_ok.ensures ∙ c.if-not-front_ok.false in
    λ tree S.
    absurd (walk_none c.args.area.now c.word-mark.result c.word-mark.ensures c.requires.0 front c.args.scratch.now c.clear.new.s c.clear.ensures c.requires.1 false c.in_err-walked.ensures.ends refl tree S)
