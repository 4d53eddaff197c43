-- Trees that come from one another by hanging bare nodes where the search of their names ended: every name finds in them what it found, and every node is still there.
use Prim.Native.Nat.{ℕ, ◌+◌}
use native.Mathlib.Omega.{arith}
use mathlib.Core.Path.{◌≡◌, refl, ◌∙◌}
use mathlib.Core.List.{List, [], ◌∷◌}
use Rattle.words.proofs.Laws.{clash}
use Rattle.sound.specs.Tree.{Entry, bare, Tree, leaf, node}
use Rattle.sound.specs.Sound.{NodeRule}
use Rattle.sound.specs.Ways.{Dir, to_left, to_below, to_right, toward, reached, nodes}
use Rattle.growth.specs.Plug.{hang, plug}
use Rattle.history.specs.Lack.{seek}
use Rattle.history.specs.Stays.{StillThere}
use Rattle.history.proofs.Hanging.{seek-hang}
use Rattle.history.proofs.Stood.{Stood}
use Rattle.history.proofs.NodeHung.{spot_at}

pub data Hung : Tree → Tree → Type 0 where
  same : (tree : Tree) → Hung tree tree
  more : (tree now : Tree) (v : List Dir) (parent at : ℕ) (segment : List ℕ) → Stood tree v parent → reached tree (spot_at tree v segment) ≡ leaf → NodeRule at segment
      → Hung (plug tree (spot_at tree v segment) (node at segment bare leaf leaf leaf)) now → Hung tree now

pub hung-then : (a b c : Tree) → Hung a b → Hung b c → Hung a c
hung-then a b c (same tree) g = g
hung-then a b c (more tree now v parent at segment stood free named f) g =
    more a c v parent at segment stood free named (hung-then (plug a (spot_at a v segment) (node at segment bare leaf leaf leaf)) b c f g)

pub hung-seek : (tree now : Tree) → Hung tree now → (segs : List (List ℕ)) (own : Entry) → seek segs own now ≡ seek segs own tree
hung-seek tree now (same t) segs own = refl
hung-seek tree now (more t n v parent at segment stood free named f) segs own =
    hung-seek (plug tree (spot_at tree v segment) (node at segment bare leaf leaf leaf)) now f segs own ∙ seek-hang (spot_at tree v segment) tree at segment free segs own

-- ---- a tree hung where nothing stood: what stood elsewhere is there
module _ (at : ℕ) (name : List ℕ) (own : Entry) (left below right : Tree) where
  leaf-none : (way : List Dir) → reached leaf way ≡ node at name own left below right → ⊥
  unfolding reached toward
  leaf-none [] e = clash cc
  leaf-none (dir ∷ way) e = leaf-none way e

  plug-keeps : (free way : List Dir) (tree other : Tree) → reached tree free ≡ leaf → reached tree way ≡ node at name own left below right
      → (l : Tree) × (b : Tree) × (r : Tree) × (reached (plug tree free other) way ≡ node at name own l b r)
  unfolding reached toward plug hang
  plug-keeps free way leaf other f e = absurd (leaf-none way e)
  plug-keeps [] way (node place full next l b r) other f e = clash cc
  plug-keeps (to_left ∷ free) [] (node place full next l b r) other f e = (plug l free other, b, r, cc)
  plug-keeps (to_below ∷ free) [] (node place full next l b r) other f e = (l, plug b free other, r, cc)
  plug-keeps (to_right ∷ free) [] (node place full next l b r) other f e = (l, b, plug r free other, cc)
  plug-keeps (to_left ∷ free) (to_left ∷ way) (node place full next l b r) other f e = plug-keeps free way l other f e
  plug-keeps (to_left ∷ free) (to_below ∷ way) (node place full next l b r) other f e = (left, below, right, e)
  plug-keeps (to_left ∷ free) (to_right ∷ way) (node place full next l b r) other f e = (left, below, right, e)
  plug-keeps (to_below ∷ free) (to_left ∷ way) (node place full next l b r) other f e = (left, below, right, e)
  plug-keeps (to_below ∷ free) (to_below ∷ way) (node place full next l b r) other f e = plug-keeps free way b other f e
  plug-keeps (to_below ∷ free) (to_right ∷ way) (node place full next l b r) other f e = (left, below, right, e)
  plug-keeps (to_right ∷ free) (to_left ∷ way) (node place full next l b r) other f e = (left, below, right, e)
  plug-keeps (to_right ∷ free) (to_below ∷ way) (node place full next l b r) other f e = (left, below, right, e)
  plug-keeps (to_right ∷ free) (to_right ∷ way) (node place full next l b r) other f e = plug-keeps free way r other f e

pub hung-keeps : (tree now : Tree) → Hung tree now → StillThere tree now
hung-keeps tree now (same t) way at name own left below right e = (left, below, right, e)
hung-keeps tree now (more t n v parent place segment stood free named f) way at name own left below right e =
    let k = plug-keeps at name own left below right (spot_at tree v segment) way tree (node place segment bare leaf leaf leaf) free e in
    hung-keeps (plug tree (spot_at tree v segment) (node place segment bare leaf leaf leaf)) now f way at name own k.0 k.1 k.2 k.3

-- it is one node more
pub nodes-hang : (free : List Dir) (tree : Tree) (at : ℕ) (name : List ℕ) → reached tree free ≡ leaf → nodes (plug tree free (node at name bare leaf leaf leaf)) ≡ nodes tree + 1
unfolding reached toward plug hang nodes
nodes-hang [] leaf at name f = refl
nodes-hang [] (node place full own l b r) at name f = clash cc
nodes-hang (dir ∷ free) leaf at name f = nodes-hang free leaf at name f
nodes-hang (to_left ∷ free) (node place full own l b r) at name f = omega (arith, nodes-hang free l at name f)
nodes-hang (to_below ∷ free) (node place full own l b r) at name f = omega (arith, nodes-hang free b at name f)
nodes-hang (to_right ∷ free) (node place full own l b r) at name f = omega (arith, nodes-hang free r at name f)
