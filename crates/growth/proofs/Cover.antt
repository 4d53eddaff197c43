-- Counts of a tree with another put where a way leads; the link word to what a way reaches belongs to no byte of it.
use Prim.Native.Nat.{ℕ, ◌+◌, ◌≤◌}
use native.Mathlib.Omega.{arith}
use mathlib.Core.Path.{◌≡◌}
use mathlib.Core.List.{List, [], ◌∷◌}
use lib.ListN.{length}
use Rattle.layout.specs.Layout.{word_size, node_size, byte_of, place_of, node_takes}
use Rattle.sound.specs.Tree.{Entry, Tree, leaf, node, inside, entry_cover, cover}
use Rattle.sound.specs.Ways.{Dir, to_left, to_below, to_right, toward, reached}
use Rattle.sound.specs.Links.{link_field}
use Rattle.sound.proofs.Inside.{inside-part}
use Rattle.growth.specs.Plug.{hang, plug, link_place}

-- ---- any count that goes by what hangs where
plug-count : (count : Tree → ℕ) → ((dir : Dir) (tree other : Tree) → count (hang dir tree other) + count (toward dir tree) ≡ count tree + count other)
    → (way : List Dir) (tree other : Tree) → count (plug tree way other) + count (reached tree way) ≡ count tree + count other
unfolding plug reached
plug-count count one [] tree other = omega arith
plug-count count one (dir ∷ way) tree other =
    omega (arith, plug-count count one way (toward dir tree) other, one dir tree (plug (toward dir tree) way other))

hang-cover : (i : ℕ) (dir : Dir) (tree other : Tree) → cover (hang dir tree other) i + cover (toward dir tree) i ≡ cover tree i + cover other i
unfolding cover hang toward
hang-cover i dir leaf other = omega arith
hang-cover i to_left (node at name own left below right) other = omega arith
hang-cover i to_below (node at name own left below right) other = omega arith
hang-cover i to_right (node at name own left below right) other = omega arith

pub plug-cover : (tree : Tree) (way : List Dir) (other : Tree) (i : ℕ) → cover (plug tree way other) i + cover (reached tree way) i ≡ cover tree i + cover other i
plug-cover tree way other i = plug-count (λ t. cover t i) (hang-cover i) way tree other

-- ---- a node: its own bytes, what hangs in a direction, and the rest
unfoldable pub aside : Dir → Tree → ℕ → ℕ
aside dir leaf i = 0
aside to_left (node at name own left below right) i = entry_cover own i + cover below i + cover right i
aside to_below (node at name own left below right) i = entry_cover own i + cover left i + cover right i
aside to_right (node at name own left below right) i = entry_cover own i + cover left i + cover below i

-- a field of a node is among its own bytes
pub field-cover : (at : ℕ) (name : List ℕ) (field : ℕ) → field + word_size ≤ node_size
    → (i : ℕ) → inside (place_of at field) word_size i ≤ inside (byte_of at) (node_takes (length name)) i
field-cover at name field whole i = inside-part (byte_of at) (node_takes (length name)) (place_of at field) word_size i (omega arith) (omega arith)

pub link-inside : (dir : Dir) → link_field dir + word_size ≤ node_size
link-inside to_left = omega arith
link-inside to_below = omega arith
link-inside to_right = omega arith

pub node-split : (dir : Dir) (at : ℕ) (name : List ℕ) (own : Entry) (left below right : Tree) (i : ℕ) → cover (node at name own left below right) i
    ≡ inside (byte_of at) (node_takes (length name)) i + cover (toward dir (node at name own left below right)) i + aside dir (node at name own left below right) i
unfolding cover toward aside
node-split to_left at name own left below right i = omega arith
node-split to_below at name own left below right i = omega arith
node-split to_right at name own left below right i = omega arith

-- ---- the link word to what a way reaches, and what it reaches
pub link-cover : (way : List Dir) (place : ℕ) (tree : Tree) (i : ℕ)
    → inside (link_place place tree way) word_size i + cover (reached tree way) i ≤ inside place word_size i + cover tree i
unfolding link_place reached toward
link-cover [] place tree i = omega arith
link-cover (dir ∷ way) place leaf i = link-cover way place leaf i
link-cover (dir ∷ way) place (node at name own left below right) i =
    omega (
      arith,
      link-cover way (place_of at (link_field dir)) (toward dir (node at name own left below right)) i,
      node-split dir at name own left below right i,
      field-cover at name (link_field dir) (link-inside dir) i,
    )
