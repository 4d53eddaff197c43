-- `words::put_word` leaves the four bytes that `put` and `little_bytes` say. Assumes nothing.
use Rattle.words.proofs.Laws.{little_word}
use Rattle.words.proofs.put_word.Goals as goal

pub returns : goal.returns
returns c = rw (c.copy.ensures, c.to_le_bytes.ensures, little_word)
