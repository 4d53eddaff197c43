-- `marks::read_number` gives the number that `read` says; each digit is below 255. Assumes nothing.
use native.Mathlib.Omega.{arith}
use Rattle.walk.specs.Marks.{read}
use Rattle.probes.proofs.marks.read_number.Goals as goal

pub returns : goal.returns
unfolding read
returns c = (cc, omega arith)
