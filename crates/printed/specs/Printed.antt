-- For the promises: the dump told by the tree, and a run of the lookup over an input that comes in pieces.
use Rattle.std.specs.Prelude.{ℕ, ◌*◌, ◌/◌, ◌≤◌, ◌<◌, true, false, cond, List, [], ◌∷◌, ◌++◌, length, take, drop, eqb}
use Rattle.layout.specs.declared.refusal.Refusal.{Refusal}
use Rattle.layout.specs.Refusals.{guard, number_of}
use Rattle.sound.specs.Tree.{Entry, bare, entry, Tree, leaf, node, listed}
use Rattle.finding.specs.Look.{value_text}
use Rattle.audit.specs.Check.{used_of, Judged, sound, unsound}
use Rattle.texts.specs.Text.{escaped, saying, Fed, fed, feed}
use Rattle.answers.specs.Answers.{name_max, refused_text, file_ok, answer_text}
use Rattle.dumping.specs.Dump.{opening, between, closing, head_text}

-- ---- the lines of a tree's entries, in listing order
unfoldable pub own_line : Entry → List ℕ
own_line bare = []
own_line (entry at serial name value) = opening ++ escaped name ++ between ++ escaped (value_text value) ++ closing

unfoldable pub tree_lines : Tree → List ℕ
tree_lines leaf = []
tree_lines (node at name own left below right) = tree_lines left ++ own_line own ++ tree_lines below ++ tree_lines right

-- the dump of a sound area, by its tree: count and used mark, then the lines
abbrev pub tree_dump : List ℕ → Tree → List ℕ
tree_dump area tree = head_text (length (listed tree)) (used_of area) ++ tree_lines tree

-- what is always enough for it: places of the list, since an entry and its node take 124 bytes at least (`listed-few`), and bytes of the room (`text-room`)
abbrev pub places_for : List ℕ → ℕ
places_for area = length area / 124

abbrev pub room_for : List ℕ → ℕ
room_for area = 4 * length area

-- the dump of a file: 8, then 5, then a sound area's tree
abbrev pub judged_dump : (area : List ℕ) → Judged area → List ℕ
judged_dump area (sound tree is) = tree_dump area tree
judged_dump area (unsound none) = refused_text (number_of Refusal.Damaged)

abbrev pub file_dump : (area : List ℕ) → Judged area → List ℕ
file_dump area judged = guard (file_ok area) (refused_text (number_of Refusal.BadHeader)) (judged_dump area judged)

-- ---- what a turn says, what is then held of the next line, and where the input goes on
abbrev pub fed_text : List ℕ → Fed → List ℕ
fed_text area (fed (saying have line) next true) = answer_text area (take have line)
fed_text area (fed (saying have line) next false) = []

abbrev pub fed_held : Fed → List ℕ
fed_held (fed (saying have line) next true) = []
fed_held (fed (saying have line) next false) = take have line

abbrev pub fed_next : Fed → ℕ
fed_next (fed line next ended) = next

abbrev pub end_text : List ℕ → List ℕ → List ℕ
end_text area held = cond (eqb (length held) 0) [] (answer_text area held)

-- a run of the lookup: what is held of a line, the pieces that are left of the input, and all that is said, one text after another
pub data Served (area : List ℕ) : List ℕ → List (List ℕ) → List ℕ → Type 0 where
  ends : (held : List ℕ) → Served area held [] (end_text area held)
  reads : (held : List ℕ) (pieces : List (List ℕ)) (text : List ℕ) → Served area held pieces text → Served area held ([] ∷ pieces) text
  turns : (input line : List ℕ) (from have : ℕ) (pieces : List (List ℕ)) (text : List ℕ) → name_max < length line → from ≤ length input → have ≤ length line
      → Served area (fed_held (feed input from line have)) (drop (fed_next (feed input from line have)) input ∷ pieces) text
      → Served area (take have line) (drop from input ∷ pieces) (fed_text area (feed input from line have) ++ text)

-- the pieces, one behind the other
unfoldable pub joined : List (List ℕ) → List ℕ
joined [] = []
joined (piece ∷ pieces) = piece ++ joined pieces
