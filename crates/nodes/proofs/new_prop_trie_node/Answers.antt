-- The room that was given holds the node. Assumes nothing.
use native.Mathlib.Omega.{arith}
use Rattle.allocation.proofs.StepLaws.{placed_at}
use Rattle.allocation.proofs.AllocateLaws.{allocate-room}
use Rattle.nodes.proofs.new_prop_trie_node.Goals as goal

pub init_node-requires : goal.init_node-requires
init_node-requires c =
    let r = allocate-room _ _ _ _ (placed_at _ _ _ c.allocate_obj.ensures _ c.in_ok-at.was) in
    (omega (arith, r.fits, r.kept), omega (arith, r.small))
