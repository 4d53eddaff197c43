-- No name sees a change that none sees where it is made; so none sees a bare node that is hung where nothing stood.
use Prim.Native.Nat.{ℕ}
use mathlib.Core.Path.{◌≡◌, refl, sym, ◌∙◌}
use mathlib.Core.List.{List, [], ◌∷◌}
use Rattle.names.specs.Names.{segment_order}
use Rattle.std.specs.declared.cmp.Ordering.{Ordering}
use Rattle.std.specs.declared.cmp.Ordering.TheVariants.{Less, Equal, Greater}
use Rattle.names.proofs.Promises.{order-self, order-equal}
use Rattle.sound.specs.Tree.{Entry, bare, Tree, leaf, node}
use Rattle.sound.specs.Ways.{Dir, to_left, to_below, to_right, toward, reached}
use Rattle.growth.specs.Plug.{hang, plug}
use Rattle.growth.proofs.Rules.{prefix_at, Placed}
use Rattle.growth.proofs.Joining.{Along, along-placed}
use Rattle.finding.specs.Look.{turn, spot}
use Rattle.history.specs.Lack.{seek}
use Rattle.history.proofs.Seeking.{seek-node}

-- ---- where the search of a segment ends
pub spot-placed : (segment : List ℕ) (tree : Tree) → Placed segment tree (spot segment tree)
unfolding spot Placed
spot-placed segment leaf = tt
spot-placed segment (node at name own left below right) = by (segment_order segment name) refl (spot-placed segment left) (spot-placed segment right)
  where
    by : (order : Ordering) → segment_order segment name ≡ order → Placed segment left (spot segment left) → Placed segment right (spot segment right)
        → Placed segment (node at name own left below right) (turn order [] (to_left ∷ spot segment left) (to_right ∷ spot segment right))
    by Equal is l r = sym (order-equal segment name is)
    by Less is l r = (is, l)
    by Greater is l r = (is, r)

pub spot-along : (segment : List ℕ) (tree : Tree) → Along tree (spot segment tree)
spot-along segment tree = along-placed (spot segment tree) segment tree (spot-placed segment tree)

-- the way there stays among siblings
placed-prefix : (way : List Dir) (segment prefix : List ℕ) (tree : Tree) → Placed segment tree way → prefix_at prefix tree way ≡ prefix
unfolding prefix_at toward Placed
placed-prefix [] segment prefix tree placed = refl
placed-prefix (dir ∷ way) segment prefix leaf placed = absurd placed
placed-prefix (to_left ∷ way) segment prefix (node at name own left below right) placed = placed-prefix way segment prefix left placed.1
placed-prefix (to_below ∷ way) segment prefix (node at name own left below right) placed = absurd placed
placed-prefix (to_right ∷ way) segment prefix (node at name own left below right) placed = placed-prefix way segment prefix right placed.1

-- a node of that name, put there, is found there
module _ (segment : List ℕ) (at : ℕ) (own : Entry) (left below right : Tree) where
  pub spot-plug : (tree : Tree) → spot segment (plug tree (spot segment tree) (node at segment own left below right)) ≡ spot segment tree
  unfolding spot plug hang toward
  spot-plug leaf = rw (order-self segment)
  spot-plug (node place name other l b r) = by (segment_order segment name) refl (spot-plug l) (spot-plug r)
    where
      by : (order : Ordering) → segment_order segment name ≡ order
          → spot segment (plug l (spot segment l) (node at segment own left below right)) ≡ spot segment l
          → spot segment (plug r (spot segment r) (node at segment own left below right)) ≡ spot segment r
          → spot segment (plug (node place name other l b r) (turn order [] (to_left ∷ spot segment l) (to_right ∷ spot segment r)) (node at segment own left below right))
          ≡ turn order [] (to_left ∷ spot segment l) (to_right ∷ spot segment r)
      by Equal is e f = rw (order-self segment)
      by Less is e f = rw (is, e)
      by Greater is e f = rw (is, f)

-- ---- two nodes of one name, and what names find left, below and right of them
pub seek-alike : (segment : List ℕ) (rest : List (List ℕ)) (above : Entry) (at : ℕ) (name : List ℕ) (own own' : Entry) (left left' below below' right right' : Tree)
    → seek (segment ∷ rest) above left' ≡ seek (segment ∷ rest) above left → (segment ≡ name → seek rest own' below' ≡ seek rest own below)
    → seek (segment ∷ rest) above right' ≡ seek (segment ∷ rest) above right
    → seek (segment ∷ rest) above (node at name own' left' below' right') ≡ seek (segment ∷ rest) above (node at name own left below right)
seek-alike segment rest above at name own own' left left' below below' right right' l b r =
    seek-node segment rest above at name own' left' below' right' ∙ by (segment_order segment name) refl ∙ sym (seek-node segment rest above at name own left below right)
  where
    by : (order : Ordering) → segment_order segment name ≡ order
        → turn order (seek rest own' below') (seek (segment ∷ rest) above left') (seek (segment ∷ rest) above right')
        ≡ turn order (seek rest own below) (seek (segment ∷ rest) above left) (seek (segment ∷ rest) above right)
    by Less is = l
    by Equal is = b (order-equal segment name is)
    by Greater is = r

-- ---- a change where a way leads
pub seek-plug : (way : List Dir) (tree other : Tree) → ((segs : List (List ℕ)) (own : Entry) → seek segs own other ≡ seek segs own (reached tree way))
    → (segs : List (List ℕ)) (own : Entry) → seek segs own (plug tree way other) ≡ seek segs own tree
unfolding plug hang reached toward
seek-plug [] tree other same segs above = same segs above
seek-plug (dir ∷ way) leaf other same segs above = seek-plug way leaf other same segs above
seek-plug (dir ∷ way) (node at name own left below right) other same [] above = unfold seek in refl
seek-plug (to_left ∷ way) (node at name own left below right) other same (segment ∷ rest) above =
    seek-alike segment rest above at name own own left (plug left way other) below below right right (seek-plug way left other same (segment ∷ rest) above) (λ is. refl) refl
seek-plug (to_below ∷ way) (node at name own left below right) other same (segment ∷ rest) above =
    seek-alike segment rest above at name own own left left below (plug below way other) right right refl (λ is. seek-plug way below other same rest own) refl
seek-plug (to_right ∷ way) (node at name own left below right) other same (segment ∷ rest) above =
    seek-alike segment rest above at name own own left left below below right (plug right way other) refl (λ is. refl) (seek-plug way right other same (segment ∷ rest) above)

-- a bare node alone
seek-leaf : (segs : List (List ℕ)) → seek segs bare leaf ≡ bare
unfolding seek spot reached
seek-leaf [] = refl
seek-leaf (segment ∷ rest) = refl

seek-bare : (at : ℕ) (name : List ℕ) (segs : List (List ℕ)) (above : Entry) → seek segs above (node at name bare leaf leaf leaf) ≡ seek segs above leaf
seek-bare at name [] above = unfold seek in refl
seek-bare at name (segment ∷ rest) above = seek-node segment rest above at name bare leaf leaf leaf ∙ by (segment_order segment name)
  where
    by : (order : Ordering) → turn order (seek rest bare leaf) (seek (segment ∷ rest) above leaf) (seek (segment ∷ rest) above leaf) ≡ seek (segment ∷ rest) above leaf
    by Less = refl
    by Equal = seek-leaf rest ∙ unfold seek spot reached in refl
    by Greater = refl

pub seek-hang : (way : List Dir) (tree : Tree) (at : ℕ) (name : List ℕ) → reached tree way ≡ leaf
    → (segs : List (List ℕ)) (own : Entry) → seek segs own (plug tree way (node at name bare leaf leaf leaf)) ≡ seek segs own tree
seek-hang way tree at name free = seek-plug way tree (node at name bare leaf leaf leaf) (λ segs own. rw free (seek-bare at name segs own))
