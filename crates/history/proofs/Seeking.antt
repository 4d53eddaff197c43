-- The entry that a path of segments leads to, and how find answers by it: 3 where there is none, else its offset and the nodes compared.
use Prim.Native.Nat.{ℕ, ◌+◌}
use mathlib.Core.Path.{◌≡◌, refl}
use mathlib.Core.Bool.{true, false}
use mathlib.Core.List.{List, [], ◌∷◌}
use lib.Dec.{eqb}
use lib.ListN.{length}
use Rattle.words.proofs.Laws.{bool_cases, clash}
use Rattle.names.specs.Names.{segment_order}
use Rattle.std.specs.declared.cmp.Ordering.{Ordering}
use Rattle.std.specs.declared.cmp.Ordering.TheVariants.{Less, Equal, Greater}
use Rattle.layout.specs.declared.refusal.Refusal.{Refusal}
use Rattle.layout.specs.Refusals.{accepted, refuse}
use Rattle.property_area.specs.Find.{hit}
use Rattle.builder.specs.Add.{any_empty}
use Rattle.sound.specs.Tree.{Value, Entry, bare, entry, Tree, leaf, node}
use Rattle.sound.specs.Ways.{to_left, to_right, toward, reached}
use Rattle.finding.specs.Look.{turn, spot, compares, own_answer, by_node, look}
use Rattle.history.specs.Lack.{seek}

-- one node of the search
pub seek-node : (segment : List ℕ) (rest : List (List ℕ)) (above : Entry) (at : ℕ) (name : List ℕ) (own : Entry) (left below right : Tree)
    → seek (segment ∷ rest) above (node at name own left below right)
    ≡ turn (segment_order segment name) (seek rest own below) (seek (segment ∷ rest) above left) (seek (segment ∷ rest) above right)
unfolding seek spot reached toward
seek-node segment rest above at name own left below right = by (segment_order segment name)
  where
    by : (order : Ordering)
        → by_node (reached (node at name own left below right) (turn order [] (to_left ∷ spot segment left) (to_right ∷ spot segment right))) bare (λ next under. seek rest next under)
        ≡ turn order (seek rest own below) (by_node (reached left (spot segment left)) bare (λ next under. seek rest next under))
        (by_node (reached right (spot segment right)) bare (λ next under. seek rest next under))
    by Equal = refl
    by Less = refl
    by Greater = refl

-- ---- no segment is empty, and there is no entry
pub look_none : (segs : List (List ℕ)) (own : Entry) (below : Tree) (compared : ℕ) → any_empty segs ≡ false → seek segs own below ≡ bare
    → look segs own below compared ≡ refuse Refusal.Missing
unfolding look seek any_empty own_answer
look_none [] own below compared full is = rw is
look_none (segment ∷ rest) own below compared full is =
    bool_cases (eqb (length segment) 0)
    (λ t. let k : true ≡ false = rw t at full in clash cc)
    (λ t. rw t (by (reached below (spot segment below)) is (λ next under more. look_none rest next under more (rw t at full))))
  where
    by : (end : Tree) → by_node end bare (λ next under. seek rest next under) ≡ bare
        → ((next : Entry) (under : Tree) (more : ℕ) → seek rest next under ≡ bare → look rest next under more ≡ refuse Refusal.Missing)
        → by_node end (refuse Refusal.Missing) (λ next under. look rest next under (compared + compares segment below)) ≡ refuse Refusal.Missing
    by leaf none on = refl
    by (node at name next left under right) none on = on next under (compared + compares segment below) none

-- ---- what is found is the entry there
abbrev pub IsAt : ℕ → Entry → Type 0
IsAt at own = (serial : ℕ) × (name : List ℕ) × (value : Value) × (own ≡ entry at serial name value)

own-found : (own : Entry) (compared at count : ℕ) → own_answer own compared ≡ accepted (hit at count) → IsAt at own
unfolding own_answer
own-found bare compared at count e = clash cc
own-found (entry from serial name value) compared at count e = (serial, name, value, let same : from ≡ at = cc in rw same)

pub seek_found : (segs : List (List ℕ)) (own : Entry) (below : Tree) (compared at count : ℕ)
    → look segs own below compared ≡ accepted (hit at count) → IsAt at (seek segs own below)
unfolding look seek
seek_found [] own below compared at count e = own-found own compared at count e
seek_found (segment ∷ rest) own below compared at count e =
    bool_cases (eqb (length segment) 0)
    (λ t. let k : refuse Refusal.EmptySegment ≡ accepted (hit at count) = rw t at e in clash cc)
    (λ t. by (reached below (spot segment below)) (rw t at e) (seek_found rest))
  where
    by : (end : Tree) → by_node end (refuse Refusal.Missing) (λ next under. look rest next under (compared + compares segment below)) ≡ accepted (hit at count)
        → ((next : Entry) (under : Tree) (more at count : ℕ) → look rest next under more ≡ accepted (hit at count) → IsAt at (seek rest next under))
        → IsAt at (by_node end bare (λ next under. seek rest next under))
    by leaf e on = clash cc
    by (node place name next left under right) e on = on next under (compared + compares segment below) at count e

-- ---- some segment is empty: no node has that name
