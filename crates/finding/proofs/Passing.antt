-- The nodes that find compares over the bytes of a sound area are those that its search passes in the tree, found or not. So whatever is measured of
-- nodes, the nodes compared have at most as much of it as all nodes of the tree.
use Prim.Native.Nat.{ℕ, zero, suc, ◌+◌, ◌≤◌}
use native.Mathlib.Omega.{arith}
use mathlib.Core.Path.{◌≡◌, refl, ap, ◌∙◌}
use mathlib.Core.Bool.{true, cond}
use mathlib.Core.List.{List, [], ◌∷◌, ◌++◌}
use lib.Dec.{eqb}
use lib.ListN.{length}
use borrow.Author.Tests.{eq-eqb, ne_eqb, eqb-true, eqb-false}
use Rattle.words.proofs.Laws.{bool_cases}
use Rattle.names.specs.Names.{dot, segments, segment_order}
use Rattle.std.specs.declared.cmp.Ordering.{Ordering}
use Rattle.std.specs.Prelude.{Ok}
use Rattle.layout.specs.Layout.{left_field, right_field, children_field, root_at, node_ok, word_at}
use Rattle.trie.specs.declared.trie.Visited.{Visited}
use Rattle.trie.specs.Trie.{follow, nodes_max}
use Rattle.trie.specs.Visits.{by_next, visits_from, visits}
use Rattle.trie.proofs.TrieLaws.{segment-empty}
use Rattle.property_area.specs.Walked.{by_named, walked_from, walked}
use Rattle.sound.specs.Tree.{Entry, bare, Tree, leaf, node, link}
use Rattle.sound.specs.Sound.{Sound}
use Rattle.sound.specs.Ways.{to_below, toward, reached, nodes}
use Rattle.finding.specs.Look.{turn, spot, compares, by_node, summed}
use Rattle.finding.proofs.Measures.{passes, whole, summed-append, passes-few}
use Rattle.finding.proofs.NodeReads.{Standing, stands-left, stands-right, node-lies, visit-node}
use Rattle.finding.proofs.Searching.{ends_at, search_end, link_offset, segment-siblings}
use Rattle.finding.proofs.FindLook.{Parent, root-parent, node-parent, stands-reached}

-- ---- the nodes that a search passes for some segments
unfoldable pub passed : List (List ℕ) → Tree → List ℕ
passed [] below = []
passed (segment ∷ rest) below =
    cond (eqb (length segment) 0) [] (passes segment below ++ by_node (reached below (spot segment below)) [] (λ next under. passed rest under))

-- ---- over the bytes, the same
module _ (area : List ℕ) (used : ℕ) (prefix segment : List ℕ) where
  from-siblings : (tree : Tree) (more place : ℕ) → Standing area used prefix tree → nodes tree ≤ more
      → by_next (Ok (follow (link tree) place)) (visits_from area segment more) ≡ passes segment tree
  unfolding link nodes passes visits_from
  from-siblings leaf more place stands enough = refl
  from-siblings (node at name own left below right) zero place stands enough = absurd (omega arith)
  from-siblings (node at name own left below right) (suc more) place stands enough =
      let lies = node-lies area used prefix at name own left below right stands in
      rw (ne_eqb at 0 (λ e. omega arith), visit-node area used prefix at name own left below right stands segment)
      (ap (λ (rest : List ℕ). at ∷ rest)
      (by (segment_order segment name)
      (from-siblings left more (at + left_field) (stands-left area used prefix at name own left below right stands) (omega arith))
      (from-siblings right more (at + right_field) (stands-right area used prefix at name own left below right stands) (omega arith))))
    where
      by : (order : Ordering) → by_next (Ok (follow (link left) (at + left_field))) (visits_from area segment more) ≡ passes segment left
          → by_next (Ok (follow (link right) (at + right_field))) (visits_from area segment more) ≡ passes segment right
          → by_next (Ok (turn order Visited.Same (follow (link left) (at + left_field)) (follow (link right) (at + right_field)))) (visits_from area segment more)
          ≡ turn order [] (passes segment left) (passes segment right)
      by Ordering.Equal l r = refl
      by Ordering.Less l r = l
      by Ordering.Greater l r = r

  visits-passes : (tree : Tree) (parent : ℕ) → Standing area used prefix tree → node_ok area parent ≡ true → word_at area parent children_field ≡ link tree
      → (length segment ≡ 0 → ⊥) → visits (nodes_max area) area segment parent ≡ passes segment tree
  unfolding visits
  visits-passes tree parent stands touched children some =
      rw (ne_eqb (length segment) 0 some, touched, children)
      (by (link tree) ∙ from-siblings tree (nodes_max area) (parent + children_field) stands (omega (arith, stands.few, stands.high)))
    where
      by : (first : ℕ) → cond (eqb first 0) [] (visits_from area segment (nodes_max area) first) ≡ by_next (Ok (follow first (parent + children_field))) (visits_from area segment (nodes_max area))
      by first = bool_cases (eqb first 0) (λ t. rw t) (λ t. rw t)

visits-empty : (area segment : List ℕ) (parent : ℕ) → length segment ≡ 0 → visits (nodes_max area) area segment parent ≡ []
unfolding visits
visits-empty area segment parent e = rw (eq-eqb (length segment) 0 e)

walked_from_lem : (segs : List (List ℕ)) (area : List ℕ) (used : ℕ) (prefix : List ℕ) (parent : ℕ) (own : Entry) (below : Tree) → Parent area used prefix parent own below
    → walked_from area segs parent ≡ passed segs below
unfolding walked_from passed ends_at search_end
walked_from_lem [] area used prefix parent own below p = refl
walked_from_lem (segment ∷ rest) area used prefix parent own below p =
    bool_cases (eqb (length segment) 0)
    (λ t. let none = eqb-true (length segment) 0 t in rw (t, ← segment-empty area segment parent none, visits-empty area segment parent none))
    (λ t. let some = eqb-false (length segment) 0 t in
    rw (
      t,
      segment-siblings area used prefix segment below parent p.stands p.touched p.children some,
      visits-passes area used prefix segment below parent p.stands p.touched p.children some,
    )
    (by (reached below (spot segment below)) (stands-reached (spot segment below) area used prefix below p.stands) (walked_from_lem rest area used)))
  where
    by : (end : Tree) → (q : List ℕ) × Standing area used q end
        → ((prefix : List ℕ) (parent : ℕ) (own : Entry) (below : Tree) → Parent area used prefix parent own below → walked_from area rest parent ≡ passed rest below)
        → passes segment below ++ by_named (ends_at end (link_offset (parent + children_field) below (spot segment below)) (0 + compares segment below)) (walked_from area rest)
        ≡ passes segment below ++ by_node end [] (λ next under. passed rest under)
    by leaf stands on = refl
    by (node at name next left under right) stands on =
        ap (λ (rest : List ℕ). passes segment below ++ rest)
        (on (stands.0 ++ name ++ dot ∷ []) at next under (node-parent area used stands.0 at name next left under right stands.1))

pub walked-passed : (area name : List ℕ) (used : ℕ) (tree : Tree) → Sound area used tree → walked area name ≡ passed (segments name) tree
unfolding walked
walked-passed area name used tree sound = rw sound.front.header (walked_from_lem (segments name) area used [] root_at bare tree (root-parent area used tree sound))

module _ (measure : ℕ → ℕ) where
  pub passed-few : (segs : List (List ℕ)) (below : Tree) → summed measure (passed segs below) ≤ whole measure below
  unfolding summed passed
  passed-few [] below = omega arith
  passed-few (segment ∷ rest) below =
      bool_cases (eqb (length segment) 0)
      (λ t. rw t (omega arith))
      (λ t. rw t (by (reached below (spot segment below)) (passes-few measure segment below) (passed-few rest)))
    where
      by : (end : Tree) → summed measure (passes segment below) + whole measure (toward to_below end) ≤ whole measure below
          → ((tree : Tree) → summed measure (passed rest tree) ≤ whole measure tree)
          → summed measure (passes segment below ++ by_node end [] (λ next under. passed rest under)) ≤ whole measure below
      by leaf few on = omega (arith, summed-append measure (passes segment below) [])
      by (node at name own left under right) few on = unfold toward in omega (arith, few, on under, summed-append measure (passes segment below) (passed rest under))
