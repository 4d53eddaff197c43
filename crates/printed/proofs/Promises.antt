-- What is printed: the dump tells the tree; texts have room in the output, so they stand there whole; and over all turns what the lookup says is the text of its whole
-- input. The proofs stand in TreeLines, Sizes, DumpSize, Dumping, Filling, Serving and Whole.
use Prim.Native.Nat.{ℕ, ◌+◌, ◌*◌, ◌≤◌, ◌<◌}
use mathlib.Core.Path.{◌≡◌, sym, ◌∙◌}
use mathlib.Core.List.{List, ◌++◌}
use native.Mathlib.Omega.{arith}
use lib.ListN.{length, take, drop}
use Rattle.words.specs.Words.{put}
use Rattle.layout.specs.Layout.{area_max}
use Rattle.layout.specs.declared.refusal.Refusal.{Refusal}
use Rattle.layout.specs.Refusals.{Answer, accepted, refuse}
use Rattle.sound.specs.Tree.{Tree, listed}
use Rattle.sound.specs.Sound.{Without, Sound}
use Rattle.audit.specs.Check.{used_of, Judged, blank, scratch_min, lists}
use Rattle.texts.specs.Text.{Said, feed, saying, said, line_feed}
use Rattle.answers.specs.Answers.{file_max, name_max, text_max, answer_text}
use Rattle.answers.specs.Lines.{lookup_text, turned, turn_steps, end_steps}
use Rattle.dumping.specs.Dump.{entry_lines, dump_text, file_listing, DumpSays, fills, fill_steps}
use Rattle.printed.specs.Printed.{tree_lines, tree_dump, places_for, room_for, file_dump, fed_text, fed_held, fed_next, end_text, Served, joined}
use Rattle.printed.proofs.TreeLines as tree_laws
use Rattle.printed.proofs.Sizes as sizes
use Rattle.printed.proofs.DumpSize as dump_size
use Rattle.printed.proofs.Dumping as dumping
use Rattle.printed.proofs.Entries.{entries_max}
use Rattle.printed.proofs.Filling as filling
use filling.{FillTells}
use Rattle.printed.proofs.Serving as serving
use Rattle.printed.proofs.Whole as whole

-- ---- the lines of the entries that a sound area lists are the lines of its tree
pub tree-lines : (area : List ℕ) (used : ℕ) (tree : Tree) → Sound area used tree → entry_lines area (listed tree) ≡ tree_lines tree
tree-lines = tree_laws.tree-lines

-- ---- no answer and no dump is longer than text_max
pub answer-small : (area name : List ℕ) → length (answer_text area name) ≤ text_max
answer-small = sizes.answer-small

pub dump-small : (area : List ℕ) (judged : Judged area) → length (file_dump area judged) ≤ text_max
dump-small = dump_size.dump-small

-- ---- with scratch and list large enough for the longest file, what is printed of a listing is the file's dump
pub dump-prints : (area scratch list : List ℕ) → file_max ≤ 4 * length scratch → entries_max ≤ length list → (judged : Judged area) (answer : Answer ℕ) (left noted : List ℕ)
    → lists answer left noted ≡ file_listing area scratch list judged → dump_text area answer noted ≡ file_dump area judged
dump-prints = dumping.dump-prints

-- ---- where the output is large enough too, the dump stands there whole
pub dump-whole : (area scratch list out : List ℕ) (told : ℕ) (after left noted : List ℕ)
    → DumpSays area scratch list out told after left noted
    → file_max ≤ 4 * length scratch → entries_max ≤ length list → text_max ≤ length out → (judged : Judged area) → take told after ≡ file_dump area judged
dump-whole = whole.dump-whole

-- ---- the dump of a sound area is at most four times as long as the area
pub text-room : (area : List ℕ) (tree : Tree) → Sound area (used_of area) tree → length (tree_dump area tree) ≤ room_for area
text-room = dump_size.text-room

-- ---- what an accepted dump in the caller's room says: the area is sound, and its tree's text stands there whole; so the length fits 32 bits
pub fill-tells : (area scratch list room : List ℕ) (judged : Judged area) (n : ℕ) (after left noted : List ℕ)
    → fill_steps area scratch list room judged ≡ fills (accepted n) after left noted → FillTells area n after
fill-tells = filling.fill-tells

pub fill-few : (area scratch list room : List ℕ) (judged : Judged area) (n : ℕ) (after left noted : List ℕ)
    → fill_steps area scratch list room judged ≡ fills (accepted n) after left noted → n ≤ 4 * area_max
fill-few = filling.fill-few

-- ---- a sound area's dump is accepted where scratch, list and room have what it takes: answer and every byte
module _ (area scratch list room : List ℕ) (tree : Tree) (is : Sound area (used_of area) tree) (enough : scratch_min area ≤ length scratch) where
  pub fill-accepts : length (listed tree) ≤ length list → length (tree_dump area tree) ≤ length room → (judged : Judged area)
      → fill_steps area scratch list room judged ≡ fills (accepted (length (tree_dump area tree))) (put room 0 (tree_dump area tree)) (blank scratch) (put list 0 (listed tree))
  fill-accepts = filling.fill-accepts area scratch list room tree is enough

  -- refused where only the room is short: the room is kept, scratch and list are as listing leaves them
  pub fill-short : length (listed tree) ≤ length list → length room < length (tree_dump area tree) → (judged : Judged area)
      → fill_steps area scratch list room judged ≡ fills (refuse Refusal.ShortBuffer) room (blank scratch) (put list 0 (listed tree))
  fill-short = filling.fill-short area scratch list room tree is enough

  -- and what is always enough for an area of its length
  pub fill-whole : places_for area ≤ length list → room_for area ≤ length room → (judged : Judged area) (answer : Answer ℕ) (after left noted : List ℕ)
      → fills answer after left noted ≡ fill_steps area scratch list room judged
      → (answer ≡ accepted (length (tree_dump area tree))) × (take (length (tree_dump area tree)) after ≡ tree_dump area tree)
  fill-whole = filling.fill-whole area scratch list room tree is enough

-- ---- a name that is cut above the limit is answered like the whole name
pub answer-cut : (area name : List ℕ) (k : ℕ) → name_max < k → answer_text area (take k name) ≡ answer_text area name
answer-cut = serving.answer-cut

-- ---- what is held and left to read has the turn's text, then that of what is held and left afterwards; no line feed is held
pub turn-serves : (area input line : List ℕ) (from have : ℕ) → name_max < length line → from ≤ length input → have ≤ length line
    → Without line_feed (take have line) → (later : List ℕ)
    → lookup_text area (take have line ++ (drop from input ++ later))
    ≡ fed_text area (feed input from line have) ++ lookup_text area (fed_held (feed input from line have) ++ (drop (fed_next (feed input from line have)) input ++ later))
turn-serves = serving.turn-serves

pub turn_holds : (input line : List ℕ) (from have : ℕ) → from ≤ length input → have ≤ length line
    → Without line_feed (take have line) → Without line_feed (fed_held (feed input from line have))
turn_holds = serving.turn_holds

-- ---- what `turn` says, and what the line and the input are then
pub turn-says : (area input line out : List ℕ) (from have at has next : ℕ) (grown : List ℕ) (s : Said) → at ≤ length out
    → turned has next grown s ≡ turn_steps area input from line have out at
    → (s ≡ said out at (fed_text area (feed input from line have))) × (take has grown ≡ fed_held (feed input from line have)) × (next ≡ fed_next (feed input from line have))
turn-says = serving.turn-says

-- ---- where the output is large enough a turn's text stands there whole
pub turn-whole : (area input : List ℕ) (from : ℕ) (line : List ℕ) (have : ℕ) (out : List ℕ) (at has next : ℕ) (grown : List ℕ) (told : ℕ) (after : List ℕ)
    → turned has next grown (saying told after) ≡ turn_steps area input from line have out at → at + text_max ≤ length out
    → take told after ≡ take at out ++ fed_text area (feed input from line have)
turn-whole = whole.turn-whole

-- ---- so what was said and is still owed stays the same over a turn, whatever input comes later; and no line feed is held
module _ (area input : List ℕ) (from : ℕ) (line : List ℕ) (have : ℕ) (out : List ℕ) (at has next : ℕ) (grown : List ℕ) (told : ℕ) (after : List ℕ)
    (e : turned has next grown (saying told after) ≡ turn_steps area input from line have out at) (room : at + text_max ≤ length out)
    (f : from ≤ length input) (h : have ≤ length line) (w : Without line_feed (take have line)) where
  pub turn-goes : name_max < length line → (later : List ℕ)
      → take at out ++ lookup_text area (take have line ++ (drop from input ++ later)) ≡ take told after ++ lookup_text area (take has grown ++ (drop next input ++ later))
  turn-goes = whole.turn-goes area input from line have out at has next grown told after e room f h w

  pub turn-clean : Without line_feed (take has grown)
  turn-clean = rw (turn-says area input line out from have at has next grown (saying told after) (omega arith) e).1 (turn_holds input line from have f h w)

-- ---- at the input's end what is held is answered, and where the output is large enough that stands there whole
pub end-serves : (area held : List ℕ) → Without line_feed held → lookup_text area held ≡ end_text area held
end-serves = serving.end-serves

pub end_whole : (area held out : List ℕ) (told : ℕ) (after : List ℕ) → saying told after ≡ end_steps area held out 0 → text_max ≤ length out → Without line_feed held
    → take told after ≡ lookup_text area held
end_whole area held out told after e room w = whole.end-said area held out told after e room ∙ sym (end-serves area held w)

-- ---- over a run of turns, from what is held to the input's end, all that is said is the text of the whole input
pub served : (area held : List ℕ) (pieces : List (List ℕ)) (text : List ℕ) → Without line_feed held → Served area held pieces text
    → text ≡ lookup_text area (held ++ joined pieces)
served = serving.served
