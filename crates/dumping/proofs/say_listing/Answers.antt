use lib.ListN.{length}
use Rattle.audit.specs.Check.{used_of}
use Rattle.dumping.specs.Dump.{head_text}
use Rattle.dumping.proofs.Laws.{lines-more}
use Rattle.dumping.proofs.say_listing.Goals as goal

pub loop-offset-preserved : goal.loop-offset-preserved
loop-offset-preserved c =
    lines-more _ _ (head_text (length c.args.offsets.now) (used_of c.args.area.now)) _ c.loop-offset-test.true c.loop-offset.invariant c.say_entry.ensures
