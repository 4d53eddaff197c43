-- Laws that the papers name and that no proof here needs any more.
use Prim.Native.Nat.{ℕ}
use mathlib.Core.Path.{◌≡◌, refl}
use mathlib.Core.List.{List}
use Rattle.std.specs.Prelude.{Result, Err}
use Rattle.layout.specs.declared.refusal.Refusal.{Refusal}
use Rattle.allocation.specs.Steps.{stop_by}
use Rattle.trie.specs.declared.trie.Searched.{Searched}
use Rattle.trie.specs.Trie.{nodes_max, search_from}
use Rattle.allocation.specs.View.{seen}
use Rattle.nodes.specs.Nodes.{or_hang, add_node}

-- ---- a search that neither names a node nor finds it missing
pub stopped : (area segment : List ℕ) (why : Refusal) → or_hang area segment (Err why) ≡ stop_by area why
stopped area segment why = refl

-- ---- the search that lays down refuses: s is what it answered
pub add-stop : (area segment : List ℕ) (first : ℕ) (s : Result Searched Refusal) → s ≡ search_from area segment (nodes_max area) first 0 → (why : Refusal) → s ≡ Err why
    → stop_by area why ≡ seen (add_node area segment first)
unfolding add_node seen
add-stop area segment first s e why f = rw (← e, f)
