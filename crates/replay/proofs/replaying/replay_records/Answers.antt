use mathlib.Core.Path.{sym, ◌∙◌}
use Prim.Native.Nat.{◌-◌}
use native.Mathlib.Omega.{arith}
use Rattle.replay.specs.Replay.{count_record}
use Rattle.replay.proofs.ReplayLaws.{replay-stops, replay-on, replay-ends}
use Rattle.replay.proofs.replaying.replay_records.Goals as goal

pub returns-in-Err : goal.returns-in-Err
returns-in-Err c =
    let l = c.loop-done in
    replay-stops _ _ (c.args.count - l.done - 1) _ _ _ _ _ _ _ l.auto.buffer c.play_at.ensures _ (omega arith) _ c.in-Err.is ∙ sym l.invariant.rest

pub loop-done-preserved : goal.loop-done-preserved
unfolding count_record
loop-done-preserved c =
    let l = c.loop-done in
    record {
      counted = rw c.counted-tally.ensures.value (omega (arith, l.invariant.counted));
      fair = c.counted-tally.ensures.fair;
      rest = l.invariant.rest ∙ replay-on _ _ _ _ _ _ _ _ _ _ l.auto.buffer c.play_at.ensures _ (omega arith) _ c.in-Ok.is _ c.counted-tally.ensures.value;
    }

pub returns : goal.returns
returns c =
    let l = c.loop-done in
    replay-ends _ _ _ _ _ _ _ (omega arith) _ c.end_at.ensures ∙ sym l.invariant.rest
