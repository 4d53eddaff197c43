use mathlib.Core.Path.{◌∙◌}
use mathlib.Core.List.{◌++◌}
use lib.ListN.{take}
use Rattle.programs.proofs.Laws.{owes-on}
use Rattle.programs.proofs.serve.Goals as goal

pub loop-next-preserved : goal.loop-next-preserved
loop-next-preserved c =
    let says = c.answer_some-next.ensures in
    let inv = c.loop-next.invariant in
    let more = take c.answer_some-next.new.page.at c.answer_some-next.new.page.out.now in (
      says.same_line ∙ inv.0,
      says.same_buffer ∙ inv.1,
      says.ready,
      says.within.0,
      (inv.4.0 ++ more, owes-on _ _ _ inv.4.0 more inv.4.1 says.serves),
    )
