-- `words::copy` leaves the bytes that `put` says. Assumes nothing.
use native.Mathlib.Omega.{arith}
use Rattle.words.proofs.Laws.{put_part}
use Rattle.words.proofs.copy.Goals as goal

pub returns : goal.returns
returns c = rw c.copy_from_slice.ensures.after (put_part _ _ _ _ (omega arith) (omega arith))
