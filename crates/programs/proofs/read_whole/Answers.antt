-- `read_whole` counts the bytes that were read, or none. Assumes nothing.
use Rattle.programs.proofs.Laws.{readable-counts}
use Rattle.programs.proofs.read_whole.Goals as goal

pub returns-else-size-buf : goal.returns-else-size-buf
returns-else-size-buf c = rw c.readable_size.ensures (readable-counts _ _ _ c.read_full-size.ensures)
