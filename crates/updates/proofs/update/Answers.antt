-- The entry that find named lies in the area. Assumes nothing.
use Rattle.layout.specs.Layout.{entry_size}
use Rattle.layout.proofs.Laws.{touch-in}
use Rattle.updates.proofs.Laws.{entry-touched}
use Rattle.updates.proofs.update.Goals as goal

pub update_entry-requires : goal.update_entry-requires
update_entry-requires c = touch-in _ entry_size _ (entry-touched _ _ _ c.find-searched.ensures _ c.in-Ok.is)
