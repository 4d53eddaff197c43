-- Where the walk of an add stands: at the root or at a node, with the way to the siblings below it.
use Prim.Native.Nat.{ℕ}
use mathlib.Core.Path.{◌≡◌, refl, sym, ap, ◌∙◌}
use mathlib.Core.Bool.{true}
use mathlib.Core.List.{List, [], ◌∷◌, ◌++◌}
use Rattle.layout.specs.Layout.{children_field, root_at, place_of, node_ok}
use Rattle.sound.specs.Tree.{Entry, Tree, leaf, node}
use Rattle.sound.specs.Sound.{TreeRule, Sound}
use Rattle.sound.specs.Ways.{Dir, to_left, to_below, to_right, toward, reached}
use Rattle.growth.specs.Plug.{hang, plug, link_place}
use Rattle.growth.proofs.Rules.{prefix_at, rule-plug-below}
use Rattle.growth.proofs.Joining.{plug-append, link-append, prefix-append, Along, along-reached, along-append}
use Rattle.growth.proofs.SoundPut.{top_place}
use Rattle.finding.proofs.NodeReads.{Standing, stands-whole, node-touched}
use Rattle.finding.proofs.FindLook.{stands-reached, root-parent}
use Rattle.finding.proofs.Spelling.{names_to}

-- the siblings below the root are the whole tree
pub data Stood (tree : Tree) : List Dir → ℕ → Type 0 where
  at_root : Stood tree [] root_at
  at_node : (way : List Dir) (at : ℕ) (name : List ℕ) (own : Entry) (left below right : Tree) → reached tree way ≡ node at name own left below right
      → Stood tree (way ++ to_below ∷ []) at

-- the way goes past no leaf
pub stood-along : (tree : Tree) (v : List Dir) (parent : ℕ) → Stood tree v parent → Along tree v
unfolding Along
stood-along tree v parent at_root = tt
stood-along tree v parent (at_node way at name own left below right there) =
    along-append way (to_below ∷ []) tree (along-reached way tree at name own left below right there) (rw there tt)

-- the children field is the link to the siblings
pub stood-place : (tree : Tree) (v : List Dir) (parent : ℕ) → Stood tree v parent → place_of parent children_field ≡ link_place top_place tree v
unfolding link_place
stood-place tree v parent at_root = refl
stood-place tree v parent (at_node way at name own left below right there) = sym (link-append way (to_below ∷ []) top_place tree ∙ rw there refl)

-- other siblings there, of the same prefix, keep all order and names
pub stood-rule : (tree : Tree) (v : List Dir) (parent : ℕ) → Stood tree v parent → TreeRule [] tree
    → (other : Tree) → TreeRule (prefix_at [] tree v) other → TreeRule [] (plug tree v other)
unfolding plug hang prefix_at toward
stood-rule tree v parent at_root rule other g = g
stood-rule tree v parent (at_node way at name own left below right there) rule other g =
    rw (plug-append way (to_below ∷ []) tree other, there)
    (rule-plug-below way [] tree at name own left below right there rule other (rw (prefix-append way (to_below ∷ []) [] tree, there) at g))

-- ---- in a sound area
module _ (area : List ℕ) (used : ℕ) (tree : Tree) (sound : Sound area used tree) where
  pub stands_at : (way : List Dir) → (p : List ℕ) × Standing area used p (reached tree way)
  stands_at way = stands-reached way area used [] tree (stands-whole area used tree sound)

  pub stood-touched : (v : List Dir) (parent : ℕ) → Stood tree v parent → node_ok area parent ≡ true
  stood-touched v parent at_root = (root-parent area used tree sound).touched
  stood-touched v parent (at_node way at name own left below right there) =
      node-touched area used (stands_at way).0 at name own left below right (rw there at (stands_at way).1)

-- ---- the names of the nodes below which a way goes
unfoldable pub above : Tree → List Dir → List (List ℕ)
above tree [] = []
above leaf (dir ∷ way) = []
above (node at name own left below right) (to_left ∷ way) = above left way
above (node at name own left below right) (to_below ∷ way) = name ∷ above below way
above (node at name own left below right) (to_right ∷ way) = above right way

pub above-append : (v w : List Dir) (tree : Tree) → Along tree v → above tree (v ++ w) ≡ above tree v ++ above (reached tree v) w
unfolding above reached toward Along
above-append [] w tree h = refl
above-append (dir ∷ v) w leaf h = absurd h
above-append (to_left ∷ v) w (node at name own left below right) h = above-append v w left h
above-append (to_below ∷ v) w (node at name own left below right) h = ap (λ (t : List (List ℕ)). name ∷ t) (above-append v w below h)
above-append (to_right ∷ v) w (node at name own left below right) h = above-append v w right h

pub above-plug : (way : List Dir) (tree other : Tree) → Along tree way → above (plug tree way other) way ≡ above tree way
unfolding above plug hang toward Along
above-plug [] tree other h = refl
above-plug (dir ∷ way) leaf other h = absurd h
above-plug (to_left ∷ way) (node at name own left below right) other h = above-plug way left other h
above-plug (to_below ∷ way) (node at name own left below right) other h = ap (λ (t : List (List ℕ)). name ∷ t) (above-plug way below other h)
above-plug (to_right ∷ way) (node at name own left below right) other h = above-plug way right other h

-- with the name of the node that it reaches, they are those along the way
pub above-names : (way : List Dir) (tree : Tree) → above tree (way ++ to_below ∷ []) ≡ names_to tree way
unfolding above names_to
above-names [] leaf = refl
above-names (dir ∷ way) leaf = refl
above-names [] (node at name own left below right) = refl
above-names (to_left ∷ way) (node at name own left below right) = above-names way left
above-names (to_below ∷ way) (node at name own left below right) = ap (λ (t : List (List ℕ)). name ∷ t) (above-names way below)
above-names (to_right ∷ way) (node at name own left below right) = above-names way right
