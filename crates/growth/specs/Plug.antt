-- A tree with another put where a way leads, and the place of the link to what a way reaches.
use Rattle.std.specs.Prelude.{ℕ, List, [], ◌∷◌}
use Rattle.layout.specs.Layout.{place_of}
use Rattle.sound.specs.Tree.{Tree, leaf, node}
use Rattle.sound.specs.Ways.{Dir, to_left, to_below, to_right, toward}
use Rattle.sound.specs.Links.{link_field}

-- the tree with another hung in a direction; of a leaf nothing stays
unfoldable pub hang : Dir → Tree → Tree → Tree
hang dir leaf other = other
hang to_left (node at name own left below right) other = node at name own other below right
hang to_below (node at name own left below right) other = node at name own left other right
hang to_right (node at name own left below right) other = node at name own left below other

unfoldable pub plug : Tree → List Dir → Tree → Tree
plug tree [] other = other
plug tree (dir ∷ way) other = hang dir tree (plug (toward dir tree) way other)

-- the byte place of the link to what hangs in a direction, where the link to the tree itself stands at a place; a leaf has that one alone
abbrev pub field_place : ℕ → Dir → Tree → ℕ
field_place place dir leaf = place
field_place place dir (node at name own left below right) = place_of at (link_field dir)

-- and of the link to what a way reaches
unfoldable pub link_place : ℕ → Tree → List Dir → ℕ
link_place place tree [] = place
link_place place tree (dir ∷ way) = link_place (field_place place dir tree) (toward dir tree) way
