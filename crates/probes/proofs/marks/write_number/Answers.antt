-- `marks::write_number` leaves the three digits that `write` says; each is below 256. Assumes nothing.
use native.Mathlib.Omega.{arith}
use lib.ListN.{length-set}
use Rattle.probes.proofs.MarkLaws.{write-digits}
use Rattle.probes.proofs.marks.write_number.Goals as goal

pub bounds-marks-n-2 : goal.bounds-marks-n-2
bounds-marks-n-2 c = simp length-set (omega arith)

pub bounds-marks-n-3 : goal.bounds-marks-n-3
bounds-marks-n-3 c = simp length-set (omega arith)

pub returns : goal.returns
returns c = rw write-digits
