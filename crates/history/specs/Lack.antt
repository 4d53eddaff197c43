-- What an add lacks in a tree: the padded sizes of the nodes, the entry and the long value that are not there (RULES 10.3).
use Rattle.std.specs.Prelude.{ℕ, ◌+◌, cond, List, [], ◌∷◌, length, ltb}
use Rattle.allocation.specs.Steps.{total}
use Rattle.names.specs.Names.{segments}
use Rattle.layout.specs.Layout.{slot_size, node_takes, entry_takes, value_takes}
use Rattle.sound.specs.Tree.{Entry, bare, entry, Tree, leaf}
use Rattle.sound.specs.Ways.{reached}
use Rattle.finding.specs.Look.{spot, by_node}

-- the entry that a path of segments leads to, from a node with its own entry and what hangs below it; bare if there is none
unfoldable pub seek : List (List ℕ) → Entry → Tree → Entry
seek [] own below = own
seek (segment ∷ rest) own below = by_node (reached below (spot segment below)) bare (λ next under. seek rest next under)

abbrev pub entry_of : Tree → List ℕ → Entry
entry_of tree name = seek (segments name) bare tree

-- nodes: nothing while they are found; from the first that is missing on, all
unfoldable pub missing : List (List ℕ) → Tree → ℕ
missing [] tree = 0
missing (segment ∷ rest) tree =
    by_node (reached tree (spot segment tree)) (node_takes (length segment) + missing rest leaf) (λ own below. missing rest below)

-- an entry, and its value if that has 92 bytes or more
unfoldable pub entry_rooms : List ℕ → List ℕ → List ℕ
entry_rooms name value = entry_takes (length name) ∷ cond (ltb (length value) slot_size) [] (value_takes (length value) ∷ [])

unfoldable pub entry_needs : List ℕ → List ℕ → ℕ
entry_needs name value = total (entry_rooms name value)

-- an entry that is there lacks nothing
unfoldable pub own_lacks : Entry → List ℕ → List ℕ → ℕ
own_lacks bare name value = entry_needs name value
own_lacks (entry at serial full v) name value = 0

abbrev pub lacks : Tree → List ℕ → List ℕ → ℕ
lacks tree name value = missing (segments name) tree + own_lacks (entry_of tree name) name value
