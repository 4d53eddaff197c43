-- The search among siblings, over the bytes, goes as it goes in the tree: same node or same zero link, same count.
use Prim.Native.Nat.{ℕ, zero, suc, ◌+◌, ◌≤◌}
use native.Mathlib.Nat.{add-zero, add_assoc}
use native.Mathlib.Omega.{arith}
use mathlib.Core.Path.{◌≡◌, refl, ap, ◌∙◌}
use mathlib.Core.Bool.{true}
use mathlib.Core.List.{List, [], ◌∷◌}
use lib.Dec.{eqb}
use lib.ListN.{length}
use borrow.Author.Tests.{ne_eqb}
use Rattle.words.proofs.Laws.{bool_cases}
use Rattle.names.specs.Names.{segment_order}
use Rattle.std.specs.declared.cmp.Ordering.{Ordering}
use Rattle.std.specs.Prelude.{Result, Ok}
use Rattle.layout.specs.declared.refusal.Refusal.{Refusal}
use Rattle.layout.specs.Layout.{left_field, right_field, children_field, node_ok, word_at}
use Rattle.trie.specs.declared.trie.Visited.{Visited}
use Rattle.trie.specs.declared.trie.Searched.{Searched}
use Rattle.trie.specs.Trie.{follow, nodes_max, named, absent, by_visit, search_from, child_steps, segment_steps}
use Rattle.sound.specs.Tree.{Tree, leaf, node, link}
use Rattle.sound.specs.Ways.{Dir, to_left, to_right, toward, reached, nodes}
use Rattle.sound.specs.Links.{link_field}
use Rattle.finding.specs.Look.{turn, spot, compares}
use Rattle.finding.proofs.NodeReads.{Standing, stands-left, stands-right, node-lies, visit-node}

-- the offset of the link word to what a way reaches, from that of the link to the tree itself
unfoldable pub link_offset : ℕ → Tree → List Dir → ℕ
link_offset place tree [] = place
link_offset place leaf (dir ∷ way) = place
link_offset place (node at name own left below right) (dir ∷ way) = link_offset (at + link_field dir) (toward dir (node at name own left below right)) way

-- a search that ends there: at a node, or at a zero link
unfoldable pub ends_at : Tree → ℕ → ℕ → Result Searched Refusal
ends_at leaf place compared = absent place compared
ends_at (node at name own left below right) place compared = named at compared

-- where the search of a segment among siblings ends
unfoldable pub search_end : List ℕ → Tree → ℕ → ℕ → Result Searched Refusal
search_end segment tree place compared = ends_at (reached tree (spot segment tree)) (link_offset place tree (spot segment tree)) (compared + compares segment tree)

-- the search from a link on, with so many comparisons left: a zero link stops it at the link's place
abbrev pub from_link : List ℕ → List ℕ → ℕ → ℕ → ℕ → ℕ → ℕ → Result Searched Refusal
from_link area segment more before first place compared = by_visit (Ok (follow first place)) before compared (λ next. search_from area segment more next compared)

module _ (area : List ℕ) (used : ℕ) (prefix segment : List ℕ) where
  pub search-siblings : (tree : Tree) (more before place compared : ℕ) → Standing area used prefix tree → nodes tree ≤ more
      → from_link area segment more before (link tree) place compared ≡ search_end segment tree place compared
  unfolding link nodes reached spot compares link_offset ends_at search_end search_from toward
  search-siblings leaf more before place compared stands enough = rw add-zero
  search-siblings (node at name own left below right) zero before place compared stands enough = absurd (omega arith)
  search-siblings (node at name own left below right) (suc more) before place compared stands enough =
      let lies = node-lies area used prefix at name own left below right stands in
      rw (ne_eqb at 0 (λ e. omega arith), visit-node area used prefix at name own left below right stands segment)
      (by (segment_order segment name)
      (search-siblings left more at (at + left_field) (compared + 1) (stands-left area used prefix at name own left below right stands) (omega arith))
      (search-siblings right more at (at + right_field) (compared + 1) (stands-right area used prefix at name own left below right stands) (omega arith)))
    where
      by : (order : Ordering) → from_link area segment more at (link left) (at + left_field) (compared + 1) ≡ search_end segment left (at + left_field) (compared + 1)
          → from_link area segment more at (link right) (at + right_field) (compared + 1) ≡ search_end segment right (at + right_field) (compared + 1)
          → by_visit (Ok (turn order Visited.Same (follow (link left) (at + left_field)) (follow (link right) (at + right_field)))) at (compared + 1)
          (λ next. search_from area segment more next (compared + 1))
          ≡ ends_at (reached (node at name own left below right) (turn order [] (to_left ∷ spot segment left) (to_right ∷ spot segment right)))
          (link_offset place (node at name own left below right) (turn order [] (to_left ∷ spot segment left) (to_right ∷ spot segment right)))
          (compared + (1 + turn order 0 (compares segment left) (compares segment right)))
      by Ordering.Equal l r = refl
      by Ordering.Less l r =
          l ∙ ap (ends_at (reached left (spot segment left)) (link_offset (at + left_field) left (spot segment left))) (add_assoc compared 1 (compares segment left))
      by Ordering.Greater l r =
          r ∙ ap (ends_at (reached right (spot segment right)) (link_offset (at + right_field) right (spot segment right))) (add_assoc compared 1 (compares segment right))

  child-link : (parent first : ℕ) → child_steps area segment parent first ≡ from_link area segment (nodes_max area) parent first (parent + children_field) 0
  child-link parent first = bool_cases (eqb first 0) (λ t. rw t) (λ t. rw t)

  -- one segment, from the node whose children link leads to the siblings
  pub segment-siblings : (tree : Tree) (parent : ℕ) → Standing area used prefix tree → node_ok area parent ≡ true → word_at area parent children_field ≡ link tree
      → (length segment ≡ 0 → ⊥) → segment_steps area segment parent ≡ search_end segment tree (parent + children_field) 0
  unfolding segment_steps
  segment-siblings tree parent stands touched children some =
      rw (ne_eqb (length segment) 0 some, touched, children)
      (child-link parent (link tree)
      ∙ search-siblings tree (nodes_max area) parent (parent + children_field) 0 stands (omega (arith, stands.few, stands.high)))
