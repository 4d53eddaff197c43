-- For promises: the nodes that find compares over all segments, in their order, whatever it answers.
use Rattle.std.specs.Prelude.{ℕ, List, [], ◌∷◌, ◌++◌, Result, Ok, Err}
use Rattle.names.specs.Names.{segments}
use Rattle.layout.specs.Layout.{root_at}
use Rattle.layout.specs.declared.refusal.Refusal.{Refusal}
use Rattle.layout.specs.Refusals.{guard}
use Rattle.trie.specs.declared.trie.Searched.{Searched}
use Rattle.trie.specs.Header.{header_ok}
use Rattle.trie.specs.Trie.{nodes_max, segment_steps}
use Rattle.trie.specs.Visits.{visits}

-- a search that names a node, and what follows from there
abbrev pub by_named : Result Searched Refusal → (ℕ → List ℕ) → List ℕ
by_named (Ok (Searched.Named node compared)) on = on node
by_named (Ok (Searched.Absent link compared)) on = []
by_named (Err why) on = []

-- the segments below a node, one below the other
unfoldable pub walked_from : List ℕ → List (List ℕ) → ℕ → List ℕ
walked_from area [] node = []
walked_from area (segment ∷ rest) node = visits (nodes_max area) area segment node ++ by_named (segment_steps area segment node) (walked_from area rest)

-- none at 8; else from the root on
unfoldable pub walked : List ℕ → List ℕ → List ℕ
walked area name = guard (header_ok area) [] (walked_from area (segments name) root_at)
