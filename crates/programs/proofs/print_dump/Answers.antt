-- `print_dump` prints as many bytes as the dump has: they lie within the output. Assumes nothing.
use mathlib.Core.Path.{sym}
use lib.Seq.{length-take-le}
use Rattle.programs.proofs.print_dump.Goals as goal

pub slice_bounds-print-end : goal.slice_bounds-print-end
slice_bounds-print-end c = sym (length-take-le _ _ c.dump_text-told.ensures.within)
