-- `visit`: the node's name lies in the area. Assumes nothing.
use mathlib.Core.Path.{sym, ◌∙◌}
use Prim.Native.Nat.{◌≤◌, ◌<◌}
use native.Mathlib.Omega.{arith}
use lib.ListN.{length}
use Rattle.layout.proofs.Laws.{text-within}
use Rattle.trie.proofs.trie.visit.Goals as goal
use Rattle.trie.proofs.trie.visit.Goals.{In-Some}

within : (c : In-Some) → (c.in-Some.field-0.from ≤ c.in-Some.field-0.to) × (c.in-Some.field-0.to < length c.args.area.now)
within c = rw c.in_ok-node.ensures.there.0 at (text-within _ _ _ _ _ (sym c.trie_node_name.ensures ∙ c.in-Some.is))

pub slice_bounds-cmp_prop_name-count : goal.slice_bounds-cmp_prop_name-count
slice_bounds-cmp_prop_name-count c = (within (goal.at.slice_bounds-cmp_prop_name-count c).In-Some).0

pub slice_bounds-cmp_prop_name-start : goal.slice_bounds-cmp_prop_name-start
slice_bounds-cmp_prop_name-start c = (within (goal.at.slice_bounds-cmp_prop_name-start c).In-Some).0

pub slice_bounds-cmp_prop_name-end : goal.slice_bounds-cmp_prop_name-end
slice_bounds-cmp_prop_name-end c = omega (arith, (within (goal.at.slice_bounds-cmp_prop_name-end c).In-Some).1)
