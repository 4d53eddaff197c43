-- The dump of a sound area is at most four times as long as the area: an entry's line is at most four times what the entry and its long value take, and all
-- objects take at most what the area has behind its first 112 bytes of data. So no dump of a file is longer than text_max.
use Prim.Native.Nat.{ℕ, ◌+◌, ◌*◌, ◌≤◌}
use mathlib.Core.List.{List, ◌++◌}
use native.Mathlib.Omega.{arith}
use lib.ListN.{length, length-append, length-take}
use Rattle.words.specs.Words.{first_in}
use Rattle.words.proofs.Laws.{bool_cases}
use Rattle.layout.specs.Layout.{slot_size}
use Rattle.sound.specs.Tree.{Value, short, long, Entry, bare, entry, Tree, leaf, node, listed}
use Rattle.sound.specs.Sound.{ValueAt, EntryAt, TreeAt, Sound}
use Rattle.sound.proofs.Counting.{value_taken, entry_taken, taken, taken-few}
use Rattle.finding.specs.Look.{value_text}
use Rattle.audit.specs.Check.{used_of, Judged, sound, unsound}
use Rattle.texts.proofs.Promises.{escaped-few}
use Rattle.answers.specs.Answers.{file_max, text_max, file_ok}
use Rattle.dumping.specs.Dump.{head_text}
use Rattle.dumping.proofs.Counting.{head_few}
use Rattle.printed.specs.Printed.{own_line, tree_lines, tree_dump, room_for, judged_dump, file_dump}
use Rattle.printed.proofs.Sizes.{refused-small, file-fits}

-- ---- a line: what a value shows is at most its slot, or its text
shows-few : (area : List ℕ) (at : ℕ) (value : Value) → ValueAt area at value → length (value_text value) ≤ slot_size + value_taken value
unfolding ValueAt value_text
shows-few area at (short slot) holds = omega (arith, holds.1, length-take (first_in 0 slot 0 (length slot)) slot)
shows-few area at (long far text) holds = omega arith

line-few : (area : List ℕ) (own : Entry) → EntryAt area own → length (own_line own) ≤ 4 * entry_taken own
unfolding EntryAt own_line
line-few area bare holds = omega arith
line-few area (entry at serial name value) holds =
    simp length-append (omega (arith, escaped-few name, escaped-few (value_text value), shows-few area at value holds.2))

lines-few : (area : List ℕ) (tree : Tree) → TreeAt area tree → length (tree_lines tree) ≤ 4 * taken tree
unfolding TreeAt tree_lines taken
lines-few area leaf holds = omega arith
lines-few area (node at name own left below right) holds =
    omega (
      arith,
      length-append (tree_lines left ++ own_line own ++ tree_lines below) (tree_lines right),
      length-append (tree_lines left ++ own_line own) (tree_lines below),
      length-append (tree_lines left) (own_line own),
      line-few area own holds.1,
      lines-few area left holds.2,
      lines-few area below holds.3,
      lines-few area right holds.4,
    )

-- ---- beside them there is room for the first line in the bytes before the objects
pub text-room : (area : List ℕ) (tree : Tree) → Sound area (used_of area) tree → length (tree_dump area tree) ≤ room_for area
text-room area tree is =
    omega (
      arith,
      length-append (head_text (length (listed tree)) (used_of area)) (tree_lines tree),
      head_few (length (listed tree)) (used_of area),
      lines-few area tree is.bytes,
      taken-few area (used_of area) tree is,
      is.front.low,
      is.front.high,
    )

pub dump-small : (area : List ℕ) (judged : Judged area) → length (file_dump area judged) ≤ text_max
dump-small area judged = bool_cases (file_ok area) (λ ok. rw ok (by (file-fits area ok) judged)) (λ no. rw no (refused-small _))
  where
    by : length area ≤ file_max → (judged : Judged area) → length (judged_dump area judged) ≤ text_max
    by few (sound tree is) = omega (arith, text-room area tree is)
    by few (unsound none) = refused-small _
