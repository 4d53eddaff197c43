-- `step` does what `step_at` says, whatever entries were listed before, and tells the entry that it saw: a law for each way on. Assumes nothing.
use Rattle.std.specs.Prelude.{Ok}
use mathlib.Core.Path.{◌≡◌, ap, ◌∙◌}
use Rattle.tour.specs.declared.phases.Dir.{Dir}
use Rattle.tour.specs.declared.phases.Phase.{Phase}
use Rattle.tour.proofs.StepLaws.{step_left, step_below, step_right}
use Rattle.tour.proofs.touring.step.Goals as goal

pub returns-in_ok-go-in-On-Left-clause-says : goal.returns-in_ok-go-in-On-Left-clause-says
returns-in_ok-go-in-On-Left-clause-says c =
    let phase : c.args.w.phase ≡ Phase.On c.in-On-Left.field-0 = c.in-On-Left.is in
    let dir : c.in-On-Left.field-0 ≡ Dir.Left = rw phase at c.in-On-Left.field-0-is in
    step_left _ _ c.args.w _ c.requires (Ok c.in_ok-go-in-On-Left.field-0) _ c.in_ok-go-in-On-Left.ensures (phase ∙ ap Phase.On dir)

pub returns-in_ok-go-in-On-Children-clause-says : goal.returns-in_ok-go-in-On-Children-clause-says
returns-in_ok-go-in-On-Children-clause-says c =
    let phase : c.args.w.phase ≡ Phase.On c.in-On-Children.field-0 = c.in-On-Children.is in
    let dir : c.in-On-Children.field-0 ≡ Dir.Children = rw phase at c.in-On-Children.field-0-is in
    step_below _ _ c.args.w _ c.requires c.in_ok-go-in-On-Children.field-0 _ _ _ c.in_ok-seen-in-On-Children.ensures.says c.in_ok-go-in-On-Children.ensures
    (phase ∙ ap Phase.On dir)

pub returns-in_ok-go-in-On-Right-clause-says : goal.returns-in_ok-go-in-On-Right-clause-says
returns-in_ok-go-in-On-Right-clause-says c =
    let phase : c.args.w.phase ≡ Phase.On c.in-On-Right.field-0 = c.in-On-Right.is in
    let dir : c.in-On-Right.field-0 ≡ Dir.Right = rw phase at c.in-On-Right.field-0-is in
    step_right _ _ c.args.w _ c.requires (Ok c.in_ok-go-in-On-Right.field-0) _ c.in_ok-go-in-On-Right.ensures (phase ∙ ap Phase.On dir)
