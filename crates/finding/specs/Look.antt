-- Searching for a name in a tree: the search of a segment among siblings, one segment below the other.
use Rattle.std.specs.Prelude.{ℕ, ◌+◌, cond, List, [], ◌∷◌, length, eqb}
use Rattle.words.specs.Words.{up_to_zero}
use Rattle.names.specs.Names.{segment_order}
use Rattle.std.specs.declared.cmp.Ordering.{Ordering}
use Rattle.std.specs.declared.cmp.Ordering.TheVariants.{Less, Equal, Greater}
use Rattle.layout.specs.declared.refusal.Refusal.{Refusal}
use Rattle.layout.specs.Refusals.{Answer, accepted, refuse}
use Rattle.layout.specs.Layout.{node_size, namelen_field, byte_of, word_at}
use Rattle.property_area.specs.Find.{Hit, hit}
use Rattle.sound.specs.Tree.{Value, short, long, Entry, bare, entry, Tree, leaf, node, inside}
use Rattle.sound.specs.Ways.{Dir, to_left, to_right, reached}

-- equal ends it, less goes left, greater right
abbrev pub turn : {A : Type 0} → Ordering → A → A → A → A
turn Equal same left right = same
turn Less same left right = left
turn Greater same left right = right

-- the way among siblings to the node of a segment, or to where it would hang
unfoldable pub spot : List ℕ → Tree → List Dir
spot segment leaf = []
spot segment (node at name own left below right) = turn (segment_order segment name) [] (to_left ∷ spot segment left) (to_right ∷ spot segment right)

-- how many nodes are compared on it
unfoldable pub compares : List ℕ → Tree → ℕ
compares segment leaf = 0
compares segment (node at name own left below right) = 1 + turn (segment_order segment name) 0 (compares segment left) (compares segment right)

-- after the last segment, the node's entry
unfoldable pub own_answer : Entry → ℕ → Answer Hit
own_answer bare compared = refuse Refusal.Missing
own_answer (entry at serial name value) compared = accepted (hit at compared)

-- where there is a node, its entry and what hangs below it
abbrev pub by_node : {A : Type 0} → Tree → A → (Entry → Tree → A) → A
by_node leaf none on = none
by_node (node at name own left below right) none on = on own below

-- the segments from a node on: empty is 2, none of that name is 3
unfoldable pub look : List (List ℕ) → Entry → Tree → ℕ → Answer Hit
look [] own below compared = own_answer own compared
look (segment ∷ rest) own below compared =
    cond (eqb (length segment) 0)
    (refuse Refusal.EmptySegment)
    (by_node (reached below (spot segment below)) (refuse Refusal.Missing) (λ next under. look rest next under (compared + compares segment below)))

-- what a value shows: a short one its slot up to the first zero, a long one its text
unfoldable pub value_text : Value → List ℕ
value_text (short slot) = up_to_zero slot
value_text (long far text) = text

-- ---- what find reads: of each node that it compares (`walked`) the five words, the name and its zero
abbrev pub node_bytes : List ℕ → ℕ → ℕ
node_bytes area at = node_size + word_at area at namelen_field + 1

-- 1 at each of these bytes, 0 elsewhere
abbrev pub node_cover : List ℕ → ℕ → ℕ → ℕ
node_cover area i at = inside (byte_of at) (node_bytes area at) i

-- over some nodes
unfoldable pub summed : (ℕ → ℕ) → List ℕ → ℕ
summed measure [] = 0
summed measure (at ∷ rest) = measure at + summed measure rest
