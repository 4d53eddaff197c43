-- Where a new node stands: where its room was given, so its offset fits a word.
use mathlib.Core.Path.{◌≡◌}
use mathlib.Core.List.{List, []}
use Prim.Native.Nat.{ℕ, ◌≤◌}
use native.Mathlib.Omega.{arith}
use lib.ListN.{length}
use Rattle.words.specs.Stores.{run}
use Rattle.words.proofs.Laws.{bool_cases, clash}
use Rattle.layout.specs.declared.refusal.Refusal.{Refusal}
use Rattle.layout.specs.Layout.{word_max, node_takes, node_ok}
use Rattle.allocation.specs.Steps.{goes, stop_by}
use Rattle.allocation.specs.View.{seen}
use Rattle.allocation.specs.Allocate.{allocate}
use Rattle.nodes.specs.Nodes.{node_stores, lay_node, new_node}
use Rattle.allocation.proofs.StepLaws.{then-through}
use Rattle.allocation.proofs.AllocateLaws.{allocate-room}

lay_at : (given name : List ℕ) (mid at : ℕ) (after : List ℕ) → goes at after [] ≡ seen (lay_node given name mid) → at ≡ mid
unfolding seen
lay_at given name mid at after e =
    bool_cases (node_ok given mid)
    (λ t. let k : goes at after [] ≡ goes mid (run given (node_stores mid name)) [] = rw t at e in cc)
    (λ t. let k : goes at after [] ≡ stop_by given Refusal.Damaged = rw t at e in clash cc)

pub node-small : (area name : List ℕ) (at : ℕ) (after : List ℕ) → goes at after [] ≡ seen (new_node area name) → at ≤ word_max
unfolding new_node
node-small area name at after e =
    let t = then-through (allocate area (node_takes (length name))) _ at after e in
    omega (arith, lay_at t.between name t.mid at after t.second, (allocate-room area (node_takes (length name)) t.mid t.between t.first).small)
