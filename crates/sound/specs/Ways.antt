-- Ways down a tree: where a run of directions leads.
use Rattle.std.specs.Prelude.{ℕ, ◌+◌, ◌≡◌, List, [], ◌∷◌}
use Rattle.sound.specs.Tree.{Tree, leaf, node}

pub data Dir : Type 0 where
  to_left to_below to_right : Dir

-- what hangs there
unfoldable pub toward : Dir → Tree → Tree
toward dir leaf = leaf
toward to_left (node at name own left below right) = left
toward to_below (node at name own left below right) = below
toward to_right (node at name own left below right) = right

unfoldable pub reached : Tree → List Dir → Tree
reached tree [] = tree
reached tree (dir ∷ way) = reached (toward dir tree) way

-- a tree whose top node stands at an offset
abbrev pub TopAt : Tree → ℕ → Type 0
TopAt leaf at = ⊥
TopAt (node place name own left below right) at = place ≡ at

-- how many nodes there are
unfoldable pub nodes : Tree → ℕ
nodes leaf = 0
nodes (node at name own left below right) = 1 + nodes left + nodes below + nodes right
