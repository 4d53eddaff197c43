-- In a sound area, find over the bytes is the tree's search: same answer, same count.
use Prim.Native.Nat.{ℕ, ◌+◌, ◌%◌, ◌≤◌, ◌<◌}
use native.Mathlib.Omega.{arith}
use mathlib.Core.Path.{◌≡◌, refl}
use mathlib.Core.Bool.{true}
use mathlib.Core.List.{List, [], ◌∷◌, ◌++◌}
use lib.Dec.{eqb}
use lib.ListN.{length}
use borrow.Author.Tests.{ne_eqb, eqb-true, eqb-false}
use Rattle.words.proofs.Laws.{bool_cases}
use Rattle.names.specs.Names.{dot, segments}
use Rattle.layout.specs.Layout.{root_at, node_size, prop_field, children_field, node_ok, word_at}
use Rattle.layout.specs.declared.refusal.Refusal.{Refusal}
use Rattle.layout.specs.Refusals.{refuse}
use Rattle.layout.proofs.Promises.{touch-yes}
use Rattle.property_area.specs.Find.{count_limit, by_search, prop_steps, find_from, find_steps}
use Rattle.trie.proofs.HeaderLaws.{header-max}
use Rattle.trie.proofs.TrieLaws.{segment-empty}
use Rattle.sound.specs.Tree.{Entry, bare, entry, Tree, leaf, node, link, entry_link}
use Rattle.sound.specs.Sound.{TreeRule, Sound}
use Rattle.sound.specs.Ways.{Dir, to_left, to_below, to_right, toward, reached, nodes}
use Rattle.finding.specs.Look.{spot, compares, own_answer, by_node, look}
use Rattle.finding.proofs.Measures.{compares-few}
use Rattle.finding.proofs.NodeReads.{Standing, stands-whole, stands-left, stands-below, stands-right, node-touched, prop-word, children-word, own_room, OwnTouched, own-touched}
use Rattle.finding.proofs.Searching.{ends_at, search_end, link_offset, segment-siblings}

-- what a way reaches stands there too, below some prefix
pub stands-reached : (way : List Dir) (area : List ℕ) (used : ℕ) (prefix : List ℕ) (tree : Tree) → Standing area used prefix tree
    → (p : List ℕ) × Standing area used p (reached tree way)
unfolding reached toward
stands-reached [] area used prefix tree stands = (prefix, stands)
stands-reached (dir ∷ way) area used prefix leaf stands = stands-reached way area used prefix leaf stands
stands-reached (to_left ∷ way) area used prefix (node at name own left below right) stands =
    stands-reached way area used prefix left (stands-left area used prefix at name own left below right stands)
stands-reached (to_below ∷ way) area used prefix (node at name own left below right) stands =
    stands-reached way area used (prefix ++ name ++ dot ∷ []) below (stands-below area used prefix at name own left below right stands)
stands-reached (to_right ∷ way) area used prefix (node at name own left below right) stands =
    stands-reached way area used prefix right (stands-right area used prefix at name own left below right stands)

-- a node from which the search of the next segment goes on: its entry, and what hangs below it
pub record Parent (area : List ℕ) (used : ℕ) (prefix : List ℕ) (parent : ℕ) (own : Entry) (below : Tree) : Type 0 where
  pub touched : node_ok area parent ≡ true
  pub prop : word_at area parent prop_field ≡ entry_link own
  pub children : word_at area parent children_field ≡ link below
  pub entry : OwnTouched area own
  pub stands : Standing area used prefix below

pub root-parent : (area : List ℕ) (used : ℕ) (tree : Tree) → Sound area used tree → Parent area used [] root_at bare tree
unfolding entry_link
root-parent area used tree sound = record {
  touched = touch-yes area node_size root_at (omega (arith, sound.front.low, sound.front.high)) refl;
  prop = sound.front.root 1 (omega arith);
  children = sound.top;
  entry = tt;
  stands = stands-whole area used tree sound;
}

pub node-parent : (area : List ℕ) (used : ℕ) (prefix : List ℕ) (at : ℕ) (name : List ℕ) (own : Entry) (left below right : Tree)
    → Standing area used prefix (node at name own left below right) → Parent area used (prefix ++ name ++ dot ∷ []) at own below
unfolding TreeRule
node-parent area used prefix at name own left below right stands = record {
  touched = node-touched area used prefix at name own left below right stands;
  prop = prop-word area used prefix at name own left below right stands;
  children = children-word area used prefix at name own left below right stands;
  entry = own-touched area used (prefix ++ name) own stands.low stands.high (own_room area used prefix at name own left below right stands) stands.rule.1;
  stands = stands-below area used prefix at name own left below right stands;
}

-- after the last segment
prop-own : (area : List ℕ) (parent : ℕ) (own : Entry) (compared : ℕ) → node_ok area parent ≡ true → word_at area parent prop_field ≡ entry_link own → OwnTouched area own
    → prop_steps area parent compared ≡ own_answer own compared
unfolding prop_steps own_answer entry_link
prop-own area parent bare compared touched prop own = rw (touched, prop)
prop-own area parent (entry at serial name value) compared touched prop own = rw (touched, prop, ne_eqb at 0 (λ e. omega arith), own.1)

-- the segments from a parent on: the count does not pass the limit
pub find-from : (segs : List (List ℕ)) (area : List ℕ) (used : ℕ) (prefix : List ℕ) (parent : ℕ) (own : Entry) (below : Tree) (compared : ℕ)
    → Parent area used prefix parent own below → compared + nodes below < count_limit → find_from area segs parent compared ≡ look segs own below compared
unfolding find_from look ends_at search_end toward
find-from [] area used prefix parent own below compared p small = prop-own area parent own compared p.touched p.prop p.entry
find-from (segment ∷ rest) area used prefix parent own below compared p small =
    bool_cases (eqb (length segment) 0)
    (λ t. rw (t, ← segment-empty area segment parent (eqb-true (length segment) 0 t)))
    (λ t. rw (t, segment-siblings area used prefix segment below parent p.stands p.touched p.children (eqb-false (length segment) 0 t))
    (by (reached below (spot segment below)) (stands-reached (spot segment below) area used prefix below p.stands) (compares-few segment below) (find-from rest area used)))
  where
    by : (end : Tree) → (q : List ℕ) × Standing area used q end → compares segment below + nodes (toward to_below end) ≤ nodes below
        → ((prefix : List ℕ) (parent : ℕ) (own : Entry) (below : Tree) (compared : ℕ)
        → Parent area used prefix parent own below → compared + nodes below < count_limit → find_from area rest parent compared ≡ look rest own below compared)
        → by_search (ends_at end (link_offset (parent + children_field) below (spot segment below)) (0 + compares segment below))
        (λ named more. find_from area rest named ((compared + more) % count_limit))
        ≡ by_node end (refuse Refusal.Missing) (λ next under. look rest next under (compared + compares segment below))
    by leaf stands few on = refl
    by (node at name next left under right) stands few on =
        let on-from : Parent area used (stands.0 ++ name ++ dot ∷ []) at next under = node-parent area used stands.0 at name next left under right stands.1 in
        let exact : (compared + (0 + compares segment below)) % count_limit ≡ compared + compares segment below = omega arith in
        rw exact (on (stands.0 ++ name ++ dot ∷ []) at next under (compared + compares segment below) on-from (omega arith))

pub find-look : (area name : List ℕ) (used : ℕ) (tree : Tree) → Sound area used tree → find_steps area name ≡ look (segments name) bare tree 0
unfolding find_steps
find-look area name used tree sound =
    let p = root-parent area used tree sound in
    rw sound.front.header (find-from (segments name) area used [] root_at bare tree 0 p (omega (arith, p.stands.few, sound.front.high, header-max area sound.front.header)))
