-- `replaying::replay_records` is `replay_from`. The loop's invariant: every record is counted, the tally is fair, and the records that are left give what all give. Assumes nothing.
use mathlib.Core.Path.{◌≡◌}
use Prim.Native.Nat.{◌-◌}
use lib.ListN.{length}
use Rattle.replay.specs.Replay.{nothing, Fair, replay_from}
use Rattle.replay.proofs.replaying.replay_records.Given as goal

abbrev pub invariant-loop-done : goal.invariant-loop-done
invariant-loop-done l =
    record {
      counted : l.tally.records ≡ l.done;
      fair : Fair l.tally;
      rest :
          replay_from l.vectors (length l.initial.buffer) l.count 4 0 l.initial.space nothing
          ≡ replay_from l.vectors (length l.initial.buffer) (l.count - l.done) l.at l.size l.space l.tally;
    }
