-- `read_full` counts the bytes that it put at the buffer's start. The measure is what is left of the buffer.
use Rattle.std.proofs.Common.{length, ◌-◌}
use Rattle.io.specs.Counts.{IsPrefixLen}
use Rattle.streams.proofs.read_full.Given as goal

abbrev pub invariant-loop-done : goal.invariant-loop-done
invariant-loop-done g l = IsPrefixLen l.done l.buf

abbrev pub decreases-loop-done : goal.decreases-loop-done
decreases-loop-done g l = length l.initial.buf - l.done
