-- The nodes that a search passes among siblings; and, whatever is measured of nodes, that these have no more of it than all nodes of the tree.
use Prim.Native.Nat.{ℕ, ◌+◌, ◌≤◌}
use native.Mathlib.Omega.{arith}
use mathlib.Core.Path.{◌≡◌}
use mathlib.Core.List.{List, [], ◌∷◌, ◌++◌}
use lib.ListN.{length}
use Rattle.names.specs.Names.{segment_order}
use Rattle.std.specs.declared.cmp.Ordering.{Ordering}
use Rattle.sound.specs.Tree.{Tree, leaf, node}
use Rattle.sound.specs.Ways.{to_left, to_below, to_right, toward, reached, nodes}
use Rattle.finding.specs.Look.{turn, spot, compares, summed}

-- the nodes on the way among siblings
unfoldable pub passes : List ℕ → Tree → List ℕ
passes segment leaf = []
passes segment (node at name own left below right) = at ∷ turn (segment_order segment name) [] (passes segment left) (passes segment right)

-- ---- what is measured of nodes, over all of a tree's
unfoldable pub whole : (ℕ → ℕ) → Tree → ℕ
whole measure leaf = 0
whole measure (node at name own left below right) = measure at + whole measure left + whole measure below + whole measure right

module _ (measure : ℕ → ℕ) where
  pub summed-append : (a b : List ℕ) → summed measure (a ++ b) ≡ summed measure a + summed measure b
  unfolding summed
  summed-append [] b = omega arith
  summed-append (x ∷ a) b = omega (arith, summed-append a b)

  -- the nodes on the way, and those below where it ends, are nodes of the tree
  pub passes-few : (segment : List ℕ) (tree : Tree) → summed measure (passes segment tree) + whole measure (toward to_below (reached tree (spot segment tree))) ≤ whole measure tree
  unfolding summed whole reached spot passes toward
  passes-few segment leaf = omega arith
  passes-few segment (node at name own left below right) = by (segment_order segment name) (passes-few segment left) (passes-few segment right)
    where
      by : (order : Ordering) → summed measure (passes segment left) + whole measure (toward to_below (reached left (spot segment left))) ≤ whole measure left
          → summed measure (passes segment right) + whole measure (toward to_below (reached right (spot segment right))) ≤ whole measure right
          → measure at + summed measure (turn order [] (passes segment left) (passes segment right))
          + whole measure (toward to_below (reached (node at name own left below right) (turn order [] (to_left ∷ spot segment left) (to_right ∷ spot segment right))))
          ≤ measure at + whole measure left + whole measure below + whole measure right
      by Ordering.Equal l r = omega arith
      by Ordering.Less l r = omega arith
      by Ordering.Greater l r = omega arith

-- ---- counted: one for each
pub length-summed : (at : List ℕ) → length at ≡ summed (λ _. 1) at
unfolding summed
length-summed [] = omega arith
length-summed (x ∷ at) = omega (arith, length-summed at)

pub nodes-whole : (tree : Tree) → nodes tree ≡ whole (λ _. 1) tree
unfolding nodes whole
nodes-whole leaf = omega arith
nodes-whole (node at name own left below right) = omega (arith, nodes-whole left, nodes-whole below, nodes-whole right)

pub compares-summed : (segment : List ℕ) (tree : Tree) → compares segment tree ≡ summed (λ _. 1) (passes segment tree)
unfolding compares passes summed
compares-summed segment leaf = omega arith
compares-summed segment (node at name own left below right) = by (segment_order segment name) (compares-summed segment left) (compares-summed segment right)
  where
    by : (order : Ordering) → compares segment left ≡ summed (λ _. 1) (passes segment left) → compares segment right ≡ summed (λ _. 1) (passes segment right)
        → 1 + turn order 0 (compares segment left) (compares segment right) ≡ 1 + summed (λ _. 1) (turn order [] (passes segment left) (passes segment right))
    by Ordering.Equal l r = omega arith
    by Ordering.Less l r = omega arith
    by Ordering.Greater l r = omega arith

pub compares-few : (segment : List ℕ) (tree : Tree) → compares segment tree + nodes (toward to_below (reached tree (spot segment tree))) ≤ nodes tree
compares-few segment tree =
    omega (
      arith,
      passes-few (λ _. 1) segment tree,
      compares-summed segment tree,
      nodes-whole tree,
      nodes-whole (toward to_below (reached tree (spot segment tree))),
    )
