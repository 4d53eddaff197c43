-- `words::same` says what `same_bytes` says. Assumes nothing.
use Rattle.words.proofs.Laws.{same_pointwise}
use Rattle.words.proofs.same.Goals as goal

pub returns : goal.returns
returns c = rw (c.eq.ensures, same_pointwise)
