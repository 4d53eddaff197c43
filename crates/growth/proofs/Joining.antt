-- A way behind another, and the same way in the tree with another put where it leads: for adding node below node.
use Prim.Native.Nat.{ℕ}
use mathlib.Core.Path.{◌≡◌, refl, ap, ◌∙◌}
use mathlib.Core.List.{List, [], ◌∷◌, ◌++◌}
use Rattle.words.proofs.Laws.{clash}
use Rattle.sound.specs.Tree.{Entry, Tree, leaf, node}
use Rattle.sound.specs.Ways.{Dir, to_left, to_below, to_right, toward, reached}
use Rattle.growth.specs.Plug.{hang, plug, field_place, link_place}
use Rattle.growth.proofs.Rules.{prefix_toward, prefix_at, Placed}

-- ---- one way behind another
pub reached-append : (v w : List Dir) (tree : Tree) → reached tree (v ++ w) ≡ reached (reached tree v) w
unfolding reached
reached-append [] w tree = refl
reached-append (dir ∷ v) w tree = reached-append v w (toward dir tree)

pub plug-append : (v w : List Dir) (tree other : Tree) → plug tree (v ++ w) other ≡ plug tree v (plug (reached tree v) w other)
unfolding plug reached
plug-append [] w tree other = refl
plug-append (dir ∷ v) w tree other = ap (hang dir tree) (plug-append v w (toward dir tree) other)

pub link-append : (v w : List Dir) (place : ℕ) (tree : Tree) → link_place place tree (v ++ w) ≡ link_place (link_place place tree v) (reached tree v) w
unfolding link_place reached
link-append [] w place tree = refl
link-append (dir ∷ v) w place tree = link-append v w (field_place place dir tree) (toward dir tree)

pub prefix-append : (v w : List Dir) (prefix : List ℕ) (tree : Tree) → prefix_at prefix tree (v ++ w) ≡ prefix_at (prefix_at prefix tree v) (reached tree v) w
unfolding prefix_at reached
prefix-append [] w prefix tree = refl
prefix-append (dir ∷ v) w prefix tree = prefix-append v w (prefix_toward prefix dir tree) (toward dir tree)

-- ---- a way that goes past no leaf
unfoldable pub Along : Tree → List Dir → Type 0
Along tree [] = Unit {0}
Along leaf (dir ∷ way) = ⊥
Along (node at name own left below right) (dir ∷ way) = Along (toward dir (node at name own left below right)) way

pub along-placed : (way : List Dir) (segment : List ℕ) (tree : Tree) → Placed segment tree way → Along tree way
unfolding Along Placed toward
along-placed [] segment tree h = tt
along-placed (dir ∷ way) segment leaf h = h
along-placed (to_left ∷ way) segment (node at name own left below right) h = along-placed way segment left h.1
along-placed (to_below ∷ way) segment (node at name own left below right) h = absurd h
along-placed (to_right ∷ way) segment (node at name own left below right) h = along-placed way segment right h.1

leaf-ends : (way : List Dir) (at : ℕ) (name : List ℕ) (own : Entry) (left below right : Tree) → reached leaf way ≡ node at name own left below right → ⊥
unfolding reached toward
leaf-ends [] at name own left below right e = clash cc
leaf-ends (dir ∷ way) at name own left below right e = leaf-ends way at name own left below right e

pub along-reached : (way : List Dir) (tree : Tree) (at : ℕ) (name : List ℕ) (own : Entry) (left below right : Tree)
    → reached tree way ≡ node at name own left below right → Along tree way
unfolding Along reached toward
along-reached [] tree at name own left below right e = tt
along-reached (dir ∷ way) leaf at name own left below right e = leaf-ends way at name own left below right e
along-reached (dir ∷ way) (node place path other l c r) at name own left below right e =
    along-reached way (toward dir (node place path other l c r)) at name own left below right e

pub along-append : (v w : List Dir) (tree : Tree) → Along tree v → Along (reached tree v) w → Along tree (v ++ w)
unfolding Along reached
along-append [] w tree h k = k
along-append (dir ∷ v) w leaf h k = h
along-append (dir ∷ v) w (node at name own left below right) h k = along-append v w (toward dir (node at name own left below right)) h k

toward-hang : (dir : Dir) (at : ℕ) (name : List ℕ) (own : Entry) (left below right other : Tree) → toward dir (hang dir (node at name own left below right) other) ≡ other
unfolding toward hang
toward-hang to_left at name own left below right other = refl
toward-hang to_below at name own left below right other = refl
toward-hang to_right at name own left below right other = refl

-- it leads to what was put there, by the same link and under the same prefix
pub reached-plug : (way : List Dir) (tree other : Tree) → Along tree way → reached (plug tree way other) way ≡ other
unfolding Along reached plug
reached-plug [] tree other h = refl
reached-plug (dir ∷ way) leaf other h = absurd h
reached-plug (dir ∷ way) (node at name own left below right) other h =
    ap (λ t. reached t way) (toward-hang dir at name own left below right (plug (toward dir (node at name own left below right)) way other))
    ∙ reached-plug way (toward dir (node at name own left below right)) other h
