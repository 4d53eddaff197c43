use mathlib.Core.Path.{◌∙◌}
use native.Mathlib.Omega.{arith}
use Rattle.answers.proofs.Reaching.{turn-within}
use Rattle.printed.proofs.Promises.{turn-goes, turn-clean}
use Rattle.programs.proofs.answer_some.Goals as goal

pub loop-next-smaller : goal.loop-next-smaller
loop-next-smaller c =
    let inv = c.loop-next.invariant in
    let w = turn-within _ _ _ _ _ _ _ _ _ _ _ _ c.turn-next.ensures.turned inv.4 inv.2.2.0 inv.3 in
    omega (arith, w.goes c.loop-next-test.true, w.input-left)

pub loop-next-preserved : goal.loop-next-preserved
loop-next-preserved c =
    let inv = c.loop-next.invariant in
    let turned = c.turn-next.ensures.turned in
    let w = turn-within _ _ _ _ _ _ _ _ _ _ _ _ turned inv.4 inv.2.2.0 inv.3 in
    let further = w.goes c.loop-next-test.true in
    let roomy = c.if-page-ge-TEXT_MAX.true in
    let clean = turn-clean _ _ _ _ _ _ _ _ _ _ _ _ turned (omega (arith, roomy, inv.4)) inv.3 inv.2.2.0 inv.2.2.1 in (
      c.turn-next.ensures.same_line ∙ inv.0,
      c.turn-next.ensures.same_buffer ∙ inv.1,
      (rw w.size inv.2.0, rw w.output.size inv.2.1, (w.held, clean)),
      w.input-left,
      w.output.place,
      omega (arith, further),
      λ e. absurd (omega (arith, further, e)),
      λ later. inv.7 later ∙ turn-goes _ _ _ _ _ _ _ _ _ _ _ _ turned (omega (arith, roomy, inv.4)) inv.3 inv.2.2.0 inv.2.2.1 inv.2.0 later,
    )
