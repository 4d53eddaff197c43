-- Search and ways: the names along a way are found at its end, and every search that finds an entry goes along such a way.
use Prim.Native.Nat.{ℕ, ◌+◌, ◌≤◌}
use native.Mathlib.Nat.{add_assoc}
use native.Mathlib.Omega.{arith}
use mathlib.Core.Path.{◌≡◌, refl, ap, ◌∙◌}
use mathlib.Core.List.{List, [], ◌∷◌, ◌++◌}
use lib.Dec.{eqb}
use lib.ListN.{length}
use borrow.Author.Tests.{ne_eqb}
use Rattle.words.proofs.Laws.{bool_cases, clash}
use Rattle.names.specs.Names.{dot, segment_order}
use Rattle.std.specs.declared.cmp.Ordering.{Ordering}
use Rattle.std.specs.declared.cmp.Ordering.TheVariants.{Less, Equal, Greater}
use Rattle.names.proofs.Promises.{order-self, order-equal}
use Rattle.layout.specs.declared.refusal.Refusal.{Refusal}
use Rattle.layout.specs.Refusals.{Answer, accepted, refuse}
use Rattle.property_area.specs.Find.{Hit, hit}
use Rattle.sound.specs.Tree.{Value, Entry, bare, entry, Tree, leaf, node}
use Rattle.sound.specs.Sound.{Side, TreeRule}
use Rattle.sound.specs.Ways.{Dir, to_left, to_below, to_right, toward, reached}
use Rattle.finding.specs.Look.{turn, spot, compares, own_answer, by_node, look}
use Rattle.finding.proofs.Spelling.{own_of, names_to}

-- ---- a turn of the lookup, at a node
module _ (at : ℕ) (name : List ℕ) (own : Entry) (left below right : Tree)
    (segs : List (List ℕ)) (segment : List ℕ) (rest : List (List ℕ)) (is : segs ≡ segment ∷ rest) (above : Entry) (compared : ℕ) where
  pub look-here : 1 ≤ length name → segment ≡ name → look segs above (node at name own left below right) compared ≡ look rest own below (compared + 1)
  unfolding look spot compares reached
  look-here some same = rw (is, same, ne_eqb (length name) 0 (λ z. omega arith), order-self name)

  pub look-left : segment_order segment name ≡ Less → look segs above (node at name own left below right) compared ≡ look segs above left (compared + 1)
  unfolding look spot compares reached toward
  look-left less = rw (is, less, add_assoc)

  pub look-right : segment_order segment name ≡ Greater → look segs above (node at name own left below right) compared ≡ look segs above right (compared + 1)
  unfolding look spot compares reached toward
  look-right greater = rw (is, greater, add_assoc)

-- ---- the names along a way to an entry are found there
-- on a side, the first of them is ordered as the side is
side-first : (way : List Dir) (order : Ordering) (name : List ℕ) (tree : Tree) (at serial : ℕ) (full : List ℕ) (value : Value) → Side order name tree
    → own_of (reached tree way) ≡ entry at serial full value
    → (segment : List ℕ) × (rest : List (List ℕ)) × (names_to tree way ≡ segment ∷ rest) × (segment_order segment name ≡ order)
unfolding reached toward names_to Side
side-first [] order name leaf at serial full value side is = clash cc
side-first (dir ∷ way) order name leaf at serial full value side is = side-first way order name leaf at serial full value side is
side-first [] order name (node place other own left below right) at serial full value side is = (other, [], refl, side.0)
side-first (to_left ∷ way) order name (node place other own left below right) at serial full value side is = side-first way order name left at serial full value side.1 is
side-first (to_below ∷ way) order name (node place other own left below right) at serial full value side is = (other, names_to below way, refl, side.0)
side-first (to_right ∷ way) order name (node place other own left below right) at serial full value side is = side-first way order name right at serial full value side.2 is

pub look-names : (way : List Dir) (prefix : List ℕ) (tree : Tree) (above : Entry) (compared at serial : ℕ) (full : List ℕ) (value : Value) → TreeRule prefix tree
    → own_of (reached tree way) ≡ entry at serial full value → (count : ℕ) × (look (names_to tree way) above tree compared ≡ accepted (hit at count))
unfolding reached toward names_to TreeRule look own_answer
look-names [] prefix leaf above compared at serial full value rule is = clash cc
look-names (dir ∷ way) prefix leaf above compared at serial full value rule is = look-names way prefix leaf above compared at serial full value rule is
look-names [] prefix (node place name own left below right) above compared at serial full value rule is =
    (compared + 1, look-here place name own left below right (name ∷ []) name [] refl above compared rule.0.some refl ∙ rw is)
look-names (to_below ∷ way) prefix (node place name own left below right) above compared at serial full value rule is =
    let found = look-names way (prefix ++ name ++ dot ∷ []) below own (compared + 1) at serial full value rule.5 is in
    (found.0, look-here place name own left below right (name ∷ names_to below way) name (names_to below way) refl above compared rule.0.some refl ∙ found.1)
look-names (to_left ∷ way) prefix (node place name own left below right) above compared at serial full value rule is =
    let first = side-first way Less name left at serial full value rule.2 is in
    let found = look-names way prefix left above (compared + 1) at serial full value rule.4 is in
    (found.0, look-left place name own left below right (names_to left way) first.0 first.1 first.2 above compared first.3 ∙ found.1)
look-names (to_right ∷ way) prefix (node place name own left below right) above compared at serial full value rule is =
    let first = side-first way Greater name right at serial full value rule.3 is in
    let found = look-names way prefix right above (compared + 1) at serial full value rule.6 is in
    (found.0, look-right place name own left below right (names_to right way) first.0 first.1 first.2 above compared first.3 ∙ found.1)

-- ---- and what is found, is found along a way that has these names
pub record LeadsTo (tree : Tree) (segs : List (List ℕ)) (at : ℕ) : Type 0 where
  pub way : List Dir
  pub serial : ℕ
  pub name : List ℕ
  pub value : Value
  pub own : own_of (reached tree way) ≡ entry at serial name value
  pub names : names_to tree way ≡ segs

reached-append : (v w : List Dir) (tree : Tree) → reached tree (v ++ w) ≡ reached (reached tree v) w
unfolding reached
reached-append [] w tree = refl
reached-append (dir ∷ v) w tree = reached-append v w (toward dir tree)

-- the way among siblings adds no name
names-spot : (segment : List ℕ) (tree : Tree) (way : List Dir) → names_to tree (spot segment tree ++ way) ≡ names_to (reached tree (spot segment tree)) way
unfolding reached toward names_to spot
names-spot segment leaf way = refl
names-spot segment (node at name own left below right) way = by (segment_order segment name) (names-spot segment left way) (names-spot segment right way)
  where
    by : (order : Ordering) → names_to left (spot segment left ++ way) ≡ names_to (reached left (spot segment left)) way
        → names_to right (spot segment right ++ way) ≡ names_to (reached right (spot segment right)) way
        → names_to (node at name own left below right) (turn order [] (to_left ∷ spot segment left) (to_right ∷ spot segment right) ++ way)
        ≡ names_to (reached (node at name own left below right) (turn order [] (to_left ∷ spot segment left) (to_right ∷ spot segment right))) way
    by Equal l r = refl
    by Less l r = l
    by Greater l r = r

leads-spot : (segment : List ℕ) (tree : Tree) (segs : List (List ℕ)) (at : ℕ) → LeadsTo (reached tree (spot segment tree)) segs at → LeadsTo tree segs at
leads-spot segment tree segs at leads = record {
  way = spot segment tree ++ leads.way;
  serial = leads.serial;
  name = leads.name;
  value = leads.value;
  own = ap own_of (reached-append (spot segment tree) leads.way tree) ∙ leads.own;
  names = names-spot segment tree leads.way ∙ leads.names;
}

-- the node that it reaches has that name
abbrev pub Named : List ℕ → Tree → Type 0
Named segment leaf = Unit {0}
Named segment (node at name own left below right) = segment ≡ name

pub spot-named : (segment : List ℕ) (tree : Tree) → Named segment (reached tree (spot segment tree))
unfolding reached toward spot
spot-named segment leaf = tt
spot-named segment (node at name own left below right) = by (segment_order segment name) refl (spot-named segment left) (spot-named segment right)
  where
    by : (order : Ordering) → segment_order segment name ≡ order → Named segment (reached left (spot segment left)) → Named segment (reached right (spot segment right))
        → Named segment (reached (node at name own left below right) (turn order [] (to_left ∷ spot segment left) (to_right ∷ spot segment right)))
    by Equal e l r = order-equal segment name e
    by Less e l r = l
    by Greater e l r = r

own-leads : (at : ℕ) (name : List ℕ) (own : Entry) (left below right : Tree) (segment : List ℕ) (compared place count : ℕ) → segment ≡ name
    → own_answer own compared ≡ accepted (hit place count) → LeadsTo (node at name own left below right) (segment ∷ []) place
unfolding own_answer reached names_to
own-leads at name bare left below right segment compared place count named e = clash cc
own-leads at name (entry from serial full value) left below right segment compared place count named e =
    let same : from ≡ place = cc in
    record { way = []; serial = serial; name = full; value = value; own = (cc); names = (cc) }

below-leads : (at : ℕ) (name : List ℕ) (own : Entry) (left below right : Tree) (segment : List ℕ) (segs : List (List ℕ)) (place : ℕ) → segment ≡ name
    → LeadsTo below segs place → LeadsTo (node at name own left below right) (segment ∷ segs) place
unfolding reached toward names_to
below-leads at name own left below right segment segs place named leads =
    let names = leads.names in
    record { way = to_below ∷ leads.way; serial = leads.serial; name = leads.name; value = leads.value; own = leads.own; names = (cc) }

-- a lookup that finds, finds below the node of its first segment
module _ (segment : List ℕ) (rest : List (List ℕ)) (above : Entry) (tree : Tree) (compared at count : ℕ) where
  abbrev later : Entry → Tree → Answer Hit
  later own below = look rest own below (compared + compares segment tree)

  end-leads : (end : Tree) → Named segment end → by_node end (refuse Refusal.Missing) later ≡ accepted (hit at count)
      → ((place : ℕ) (name : List ℕ) (own : Entry) (left below right : Tree) → segment ≡ name → later own below ≡ accepted (hit at count)
      → LeadsTo (node place name own left below right) (segment ∷ rest) at)
      → LeadsTo end (segment ∷ rest) at
  end-leads leaf named e on = clash cc
  end-leads (node place name own left below right) named e on = on place name own left below right named e

  first-leads : look (segment ∷ rest) above tree compared ≡ accepted (hit at count)
      → ((place : ℕ) (name : List ℕ) (own : Entry) (left below right : Tree) → segment ≡ name → later own below ≡ accepted (hit at count)
      → LeadsTo (node place name own left below right) (segment ∷ rest) at)
      → LeadsTo tree (segment ∷ rest) at
  unfolding look
  first-leads e on =
      bool_cases (eqb (length segment) 0)
      (λ t. let k : refuse Refusal.EmptySegment ≡ accepted (hit at count) = rw t at e in clash cc)
      (λ t. leads-spot segment tree (segment ∷ rest) at (end-leads (reached tree (spot segment tree)) (spot-named segment tree) (rw t at e) on))

pub look-leads : (rest : List (List ℕ)) (segment : List ℕ) (above : Entry) (tree : Tree) (compared at count : ℕ)
    → look (segment ∷ rest) above tree compared ≡ accepted (hit at count) → LeadsTo tree (segment ∷ rest) at
unfolding look
look-leads [] segment above tree compared at count e =
    first-leads segment [] above tree compared at count e
    (λ place name own left below right named f. own-leads place name own left below right segment (compared + compares segment tree) at count named f)
look-leads (next ∷ rest) segment above tree compared at count e =
    first-leads segment (next ∷ rest) above tree compared at count e
    (λ place name own left below right named f. below-leads place name own left below right segment (next ∷ rest) at named
    (look-leads rest next own below (compared + compares segment tree) at count f))

pub found-leads : (segs : List (List ℕ)) (tree : Tree) (at count : ℕ) → look segs bare tree 0 ≡ accepted (hit at count) → LeadsTo tree segs at
unfolding look own_answer
found-leads [] tree at count e = clash cc
found-leads (segment ∷ rest) tree at count e = look-leads rest segment bare tree 0 at count e
