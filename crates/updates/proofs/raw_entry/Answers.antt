-- The entry lies in the area, and the value fits its slot. Assumes nothing.
use mathlib.Core.Path.{sym, ◌∙◌}
use Rattle.layout.specs.Layout.{entry_size}
use Rattle.layout.proofs.Laws.{touch-in}
use Rattle.updates.proofs.Laws.{value-short}
use Rattle.updates.proofs.raw_entry.Goals as goal

pub apply_write-requires : goal.apply_write-requires
apply_write-requires c = (touch-in _ entry_size _ (sym c.in_ok-entry.ensures.says), value-short _ (sym c.value_verdict.ensures ∙ c.in_ok-value_verdict.was))
