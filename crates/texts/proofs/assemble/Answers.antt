-- `assemble` answers and leaves what `feed` says. Assumes nothing.
use Rattle.texts.proofs.Laws.{feed-ends, feed-goes}
use Rattle.texts.proofs.assemble.Goals as goal

pub returns-then-ended-clause-fed : goal.returns-then-ended-clause-fed
returns-then-ended-clause-fed c = feed-ends _ _ _ _ _ _ _ _ c.min-start.ensures c.first-end.ensures c.say.ensures.said c.if-ended.true

pub returns-else-ended-clause-fed : goal.returns-else-ended-clause-fed
returns-else-ended-clause-fed c = feed-goes _ _ _ _ _ _ _ _ c.min-start.ensures c.first-end.ensures c.say.ensures.said c.if-ended.false
