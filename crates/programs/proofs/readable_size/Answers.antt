-- `readable_size` goes by what the further read has answered. Assumes nothing.
use Rattle.programs.proofs.Laws.{readable-all, readable-none}
use Rattle.programs.proofs.readable_size.Goals as goal

pub returns-then-behind-eq0 : goal.returns-then-behind-eq0
returns-then-behind-eq0 c = readable-all _ _ c.ranges.behind c.if-behind-eq0.true

pub returns-else-behind-eq0 : goal.returns-else-behind-eq0
returns-else-behind-eq0 c = readable-none c.args.size c.args.behind c.if-behind-eq0.false
