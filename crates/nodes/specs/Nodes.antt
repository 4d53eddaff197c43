-- Add (RULES 5.3), the nodes: the walk of find, laying down each missing node and linking it at once.
use Rattle.std.specs.Prelude.{ℕ, ◌+◌, cond, List, [], ◌∷◌, length, eqb, Result, Ok, Err}
use Rattle.words.specs.Stores.{Store, run, word_store, text_stores}
use Rattle.layout.specs.declared.refusal.Refusal.{Refusal}
use Rattle.layout.specs.Refusals.{guard}
use Rattle.layout.specs.Layout.{node_size, node_takes, namelen_field, prop_field, left_field, right_field, children_field, place_of, word_at, node_ok}
use Rattle.trie.specs.declared.trie.Searched.{Searched}
use Rattle.trie.specs.Trie.{nodes_max, search_from}
use Rattle.allocation.specs.Steps.{Step, goes, stop_by, and_then, link_to}
use Rattle.allocation.specs.Allocate.{allocate}

-- four zero links, namelen, name, zero
unfoldable pub node_stores : ℕ → List ℕ → List Store
node_stores at name =
    word_store (place_of at prop_field) 0
    ∷ word_store (place_of at left_field) 0
    ∷ word_store (place_of at right_field) 0
    ∷ word_store (place_of at children_field) 0
    ∷ word_store (place_of at namelen_field) (length name)
    ∷ text_stores (place_of at node_size) name

-- a node's place is touched (5)
abbrev pub lay_node : List ℕ → List ℕ → ℕ → Step
lay_node area name at = guard (node_ok area at) (stop_by area Refusal.Damaged) (goes at (run area (node_stores at name)) [])

unfoldable pub new_node : List ℕ → List ℕ → Step
new_node area name = and_then (allocate area (node_takes (length name))) (λ at given. lay_node given name at)

unfoldable pub hang_node : List ℕ → ℕ → List ℕ → Step
hang_node area link name = and_then (new_node area name) (λ at laid. link_to laid link at)

-- the search over left and right; a missing node is laid down
abbrev pub or_hang : List ℕ → List ℕ → Result Searched Refusal → Step
or_hang area segment (Ok (Searched.Named node compared)) = goes node area []
or_hang area segment (Ok (Searched.Absent link compared)) = hang_node area link segment
or_hang area segment (Err why) = stop_by area why

unfoldable pub add_node : List ℕ → List ℕ → ℕ → Step
add_node area segment first = or_hang area segment (search_from area segment (nodes_max area) first 0)

-- RULES 5.3: where the children link was 0, the search begins at the new node
abbrev pub add_child : List ℕ → List ℕ → ℕ → ℕ → Step
add_child area segment link first =
    cond (eqb first 0) (and_then (hang_node area link segment) (λ at laid. add_node laid segment at)) (add_node area segment first)

unfoldable pub add_segment : List ℕ → List ℕ → ℕ → Step
add_segment area segment parent =
    guard (node_ok area parent) (stop_by area Refusal.Damaged) (add_child area segment (parent + children_field) (word_at area parent children_field))

unfoldable pub add_path : List ℕ → List (List ℕ) → ℕ → Step
add_path area [] node = goes node area []
add_path area (segment ∷ rest) node = and_then (add_segment area segment node) (λ next after. add_path after rest next)
