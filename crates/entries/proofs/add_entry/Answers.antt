-- The offset of a new entry fits a word. Assumes nothing.
use native.Mathlib.Omega.{arith}
use Rattle.allocation.proofs.StepLaws.{placed_at}
use Rattle.entries.proofs.Laws.{entry-small}
use Rattle.entries.proofs.add_entry.Goals as goal

pub overflow_cast-at : goal.overflow_cast-at
overflow_cast-at c = omega (arith, entry-small _ _ _ _ _ (placed_at _ _ _ c.new_prop_info.ensures _ c.in_ok-at.was))
