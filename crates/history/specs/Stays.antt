-- What stays of an add that is refused for want of room (RULES 9): the nodes that it linked, which the used mark
-- counts, with the entry's room where only the long value found none.
use Rattle.std.specs.Prelude.{ℕ, ◌+◌, ◌≤◌, ◌<◌, ◌≡◌, List, length}
use Rattle.names.specs.Names.{segments}
use Rattle.layout.specs.Layout.{slot_size, data_size, entry_takes}
use Rattle.allocation.specs.Steps.{total}
use Rattle.sound.specs.Tree.{Entry, bare, Tree, node}
use Rattle.sound.specs.Ways.{Dir, reached, nodes}
use Rattle.history.specs.Lack.{entry_of, missing}

-- each node of a tree is still there: on the same way, with its offset, name and entry
abbrev pub StillThere : Tree → Tree → Type 0
StillThere tree now = (way : List Dir) (at : ℕ) (name : List ℕ) (own : Entry) (left below right : Tree) → reached tree way ≡ node at name own left below right
    → (l : Tree) × (b : Tree) × (r : Tree) × (reached now way ≡ node at name own l b r)

-- the tree before, the rooms given, and the tree now
pub record Stays (area : List ℕ) (used : ℕ) (tree : Tree) (name value rooms : List ℕ) (now : Tree) : Type 0 where
  pub kept : StillThere tree now
  -- every name has the entry that it had, and that of the add none
  pub entries : (other : List ℕ) → entry_of now other ≡ entry_of tree other
  pub unlinked : entry_of now name ≡ bare
  -- the rooms are those of the nodes that are linked now and were not
  pub linked : data_size area < used + missing (segments name) tree + entry_takes (length name)
      → (total rooms + missing (segments name) now ≡ missing (segments name) tree) × (nodes now ≡ nodes tree + length rooms)
  -- and the entry's, if only the long value failed: then no node is missing
  pub unwritten : used + missing (segments name) tree + entry_takes (length name) ≤ data_size area
      → (slot_size ≤ length value) × (missing (segments name) now ≡ 0) × (total rooms ≡ missing (segments name) tree + entry_takes (length name)) × (nodes now + 1 ≡ nodes tree + length rooms)
