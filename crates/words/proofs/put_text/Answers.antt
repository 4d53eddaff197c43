-- `words::put_text` leaves what the run of `text_stores` leaves. Assumes nothing.
use Rattle.words.proofs.StoreLaws.{run-text}
use Rattle.words.proofs.put_text.Goals as goal

pub returns : goal.returns
returns c = rw run-text (cc)
