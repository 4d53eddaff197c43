use Rattle.texts.proofs.Laws.{says-more}
use Rattle.texts.proofs.Page.say_escaped.Goals as goal

pub loop-b-preserved : goal.loop-b-preserved
loop-b-preserved c = says-more _ _ c.loop-b-test.true c.loop-b.invariant c.say_byte.ensures
