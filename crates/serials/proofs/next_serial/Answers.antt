-- `next_serial` gives the serial that `updated_serial` says. Assumes nothing.
use Rattle.serials.proofs.Laws.{next-serial}
use Rattle.serials.proofs.next_serial.Goals as goal

pub returns : goal.returns
returns c = rw c.from.ensures (next-serial _ _ _ (rw c.dirty_serial-counter.ensures) _ c.says_long.ensures _ c.short_serial.ensures)
