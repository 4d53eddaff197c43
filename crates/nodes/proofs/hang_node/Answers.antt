-- The offset of a new node fits a word. Assumes nothing.
use native.Mathlib.Omega.{arith}
use Rattle.allocation.proofs.StepLaws.{placed_at}
use Rattle.nodes.proofs.Laws.{node-small}
use Rattle.nodes.proofs.hang_node.Goals as goal

pub overflow_cast-at : goal.overflow_cast-at
overflow_cast-at c = omega (arith, node-small _ _ _ _ (placed_at _ _ _ c.new_prop_trie_node.ensures _ c.in_ok-at.was))
