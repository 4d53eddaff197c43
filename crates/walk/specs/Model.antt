-- The walk over an area's bytes, as the code makes it: node n stands at data offset 4n, its record in the first six of its marks.
use Rattle.std.specs.Prelude.{ℕ, zero, suc, ◌+◌, ◌-◌, ◌*◌, ◌/◌, ◌%◌, Bool, true, false, cond, not, ◌&&◌, List, [], ◌∷◌, get_or, eqb, leb, ltb}
use Rattle.words.specs.Words.{first_in}
use Rattle.names.specs.Names.{dot, segment_order}
use Rattle.std.specs.declared.cmp.Ordering.{Ordering}
use Rattle.layout.specs.Refusals.{guard}
use Rattle.layout.specs.Layout.{word_size, node_size, namelen_field, prop_field, left_field, right_field, children_field, entry_size, slot_field, long_offset_field, root_at, first_free, data_size, byte_of, place_of, word_at}
use Rattle.property_info.specs.Entry.{is_long}
use Rattle.sound.specs.Ways.{Dir, to_left, to_below, to_right}
use Rattle.walk.specs.Marks.{all, is_zero, can_take, fill, write, read}
use Rattle.walk.specs.Machine.{Taken, refused, taken, Done, halt, done, State, bad, here, go, step, run}

-- ---- the used mark and the root
unfoldable pub front_ok : List ℕ → ℕ → Bool
front_ok area used =
    eqb (used % word_size) 0
    && leb first_free used
    && leb used (data_size area)
    && eqb (word_at area root_at namelen_field) 0
    && eqb (word_at area root_at prop_field) 0
    && eqb (word_at area root_at left_field) 0
    && eqb (word_at area root_at right_field) 0

-- ---- nodes
abbrev pub field_at : List ℕ → ℕ → ℕ → ℕ
field_at area n field = word_at area (n * word_size) field

abbrev pub link_at : List ℕ → Dir → ℕ → ℕ
link_at area to_left n = field_at area n left_field
link_at area to_below n = field_at area n children_field
link_at area to_right n = field_at area n right_field

abbrev pub place_at : ℕ → ℕ
place_at link = link / word_size

-- k bytes from a place on
unfoldable pub span : List ℕ → ℕ → ℕ → List ℕ
span s from zero = []
span s from (suc k) = get_or s from 0 ∷ span s (from + 1) k

abbrev pub name_from : ℕ → ℕ
name_from n = place_of (n * word_size) node_size

unfoldable pub name_at : List ℕ → ℕ → List ℕ
name_at area n = span area (name_from n) (field_at area n namelen_field)

-- the words of so many bytes
abbrev pub words_of : ℕ → ℕ
words_of size = (size + 3) / 4

abbrev pub is_plain : List ℕ → ℕ → Bool
is_plain s i = not (eqb (get_or s i 0) 0) && not (eqb (get_or s i 0) dot)

-- the words of the node at an offset, or 0 if no node can stand there
abbrev pub named_room : List ℕ → ℕ → ℕ → ℕ → ℕ
named_room area used at size =
    cond (ltb 0 size && leb (at + node_size + size + 1) used && all (is_plain area) (place_of at node_size) size && is_zero area (place_of at node_size + size))
    (words_of (node_size + size + 1))
    0

unfoldable pub node_room : List ℕ → ℕ → ℕ → ℕ
node_room area used at =
    cond (eqb (at % word_size) 0 && leb first_free at && leb (at + node_size) used) (named_room area used at (word_at area at namelen_field)) 0

-- ---- a node's record: its parent and the direction from there, then its owner, whose children link holds its tree of siblings
abbrev pub dir_number : Dir → ℕ
dir_number to_left = 0
dir_number to_below = 1
dir_number to_right = 2

abbrev pub number_dir : ℕ → Dir
number_dir zero = to_left
number_dir (suc zero) = to_below
number_dir (suc (suc n)) = to_right

abbrev pub parent_at : List ℕ → ℕ → ℕ
parent_at marks n = read marks n / 3

abbrev pub came_at : List ℕ → ℕ → Dir
came_at marks n = number_dir (read marks n % 3)

abbrev pub owner_at : List ℕ → ℕ → ℕ
owner_at marks n = read marks (n + 3)

abbrev pub owner_for : List ℕ → ℕ → Dir → ℕ
owner_for marks p to_left = owner_at marks p
owner_for marks p to_below = p
owner_for marks p to_right = owner_at marks p

-- the node at a link, come to from node p: its words taken, its record written
abbrev pub recorded : List ℕ → ℕ → ℕ → ℕ → Dir → List ℕ
recorded marks n k p dir = write (write (fill marks n k) n (p * 3 + dir_number dir)) (n + 3) (owner_for marks p dir)

unfoldable pub enter_at : List ℕ → ℕ → List ℕ → ℕ → ℕ → Dir → Taken (List ℕ)
enter_at area used marks link p dir =
    cond (ltb 0 (node_room area used link) && can_take marks (place_at link) (node_room area used link))
    (taken (recorded marks (place_at link) (node_room area used link) p dir))
    refused

-- ---- a node's own work: its place in the order, its entry
abbrev pub is_less : Ordering → Bool
is_less Ordering.Less = true
is_less Ordering.Equal = false
is_less Ordering.Greater = false

unfoldable pub follows : List ℕ → ℕ → ℕ → Bool
follows area zero n = true
follows area (suc before) n = is_less (segment_order (name_at area (suc before)) (name_at area n))

-- where a text ends: its zero, or the limit where there is none before it
abbrev pub end_of : List ℕ → ℕ → ℕ → ℕ
end_of area from to = first_in 0 area from (to - from)

-- where the text ends of the object at an offset, or 0 if none can stand there
unfoldable pub text_end : List ℕ → ℕ → ℕ → ℕ → ℕ
text_end area used at from =
    cond (eqb (at % word_size) 0 && leb first_free at && ltb (end_of area from (byte_of used)) (byte_of used)) (end_of area from (byte_of used)) 0

-- the words of an object whose text ends there
abbrev pub room_to : ℕ → ℕ → ℕ
room_to at end = words_of (end + 1 - byte_of at)

abbrev pub same_at : List ℕ → ℕ → ℕ → ℕ → Bool
same_at area x y i = eqb (get_or area (x + i) 0) (get_or area (y + i) 0)

-- from the end backwards: whether what stands from a place up to another is the dotted path of node n; `rest` says it of the part before the last dot
abbrev pub path_up : List ℕ → (ℕ → ℕ → Bool) → ℕ → ℕ → ℕ → Bool
path_up area rest owner from to =
    cond (eqb owner 0) (eqb to from) (ltb from to && eqb (get_or area (to - 1) 0) dot && rest owner (to - 1))

unfoldable pub path_step : List ℕ → List ℕ → (ℕ → ℕ → Bool) → ℕ → ℕ → ℕ → Bool
path_step area marks rest n from to =
    leb (field_at area n namelen_field) (to - from)
    && all (same_at area (to - field_at area n namelen_field) (name_from n)) 0 (field_at area n namelen_field)
    && path_up area rest (owner_at marks n) from (to - field_at area n namelen_field)

-- so many segments at most
unfoldable pub path_back : List ℕ → List ℕ → ℕ → ℕ → ℕ → ℕ → Bool
path_back area marks zero n from to = false
path_back area marks (suc k) n from to = path_step area marks (λ owner end. path_back area marks k owner from end) n from to

abbrev pub is_path : List ℕ → List ℕ → ℕ → ℕ → ℕ → Bool
is_path area marks n from to = path_back area marks (to - from + 1) n from to

-- the value of the entry at an offset, whose words are k
abbrev pub short_work : List ℕ → List ℕ → ℕ → Done (List ℕ)
short_work area marks at =
    cond (ltb (end_of area (place_of at slot_field) (place_of at entry_size)) (place_of at entry_size)) (done marks (at ∷ [])) halt

abbrev pub long_work : List ℕ → ℕ → List ℕ → ℕ → ℕ → ℕ → Done (List ℕ)
long_work area used marks at far end =
    cond (ltb 0 end && can_take marks (far / word_size) (room_to far end)) (done (fill marks (far / word_size) (room_to far end)) (at ∷ [])) halt

unfoldable pub value_work : List ℕ → ℕ → List ℕ → ℕ → ℕ → Done (List ℕ)
value_work area used marks at k =
    cond (is_long area at)
    (guard (leb (k * word_size) (word_at area at long_offset_field)) halt
    (long_work area used marks at (at + word_at area at long_offset_field) (text_end area used (at + word_at area at long_offset_field) (byte_of (at + word_at area at long_offset_field)))))
    (short_work area marks at)

abbrev pub named_work : List ℕ → ℕ → List ℕ → ℕ → ℕ → ℕ → Done (List ℕ)
named_work area used marks n at end =
    cond (ltb 0 end && is_path area marks n (place_of at entry_size) end && can_take marks (at / word_size) (room_to at end))
    (value_work area used (fill marks (at / word_size) (room_to at end)) at (room_to at end))
    halt

unfoldable pub entry_work : List ℕ → ℕ → List ℕ → ℕ → ℕ → Done (List ℕ)
entry_work area used marks n at =
    cond (eqb at 0) (done marks []) (named_work area used marks n at (text_end area used at (place_of at entry_size)))

unfoldable pub own_work : List ℕ → ℕ → List ℕ → ℕ → ℕ → Done (List ℕ)
own_work area used marks n before = cond (follows area before n) (entry_work area used marks n (field_at area n prop_field)) halt

-- ---- the walk
abbrev pub go_at : List ℕ → ℕ → List ℕ → ℕ → Dir → ℕ → List ℕ → ℕ → State (List ℕ)
go_at area used = go (List ℕ) (link_at area) place_at (enter_at area used) (own_work area used) parent_at came_at

abbrev pub step_at : List ℕ → ℕ → State (List ℕ) → State (List ℕ)
step_at area used = step (List ℕ) (link_at area) place_at (enter_at area used) (own_work area used) parent_at came_at

abbrev pub run_at : List ℕ → ℕ → ℕ → State (List ℕ) → State (List ℕ)
run_at area used = run (List ℕ) (link_at area) place_at (enter_at area used) (own_work area used) parent_at came_at

-- from the root's children, so many steps
abbrev pub walk_at : List ℕ → ℕ → List ℕ → ℕ → State (List ℕ)
walk_at area used marks k = run_at area used k (go_at area used marks 0 to_below 0 [] (link_at area to_below 0))

-- a node takes 24 bytes or more, and four steps
abbrev pub steps_max : List ℕ → ℕ
steps_max area = data_size area / 6

abbrev pub ended : State (List ℕ) → Bool
ended bad = false
ended (here marks zero phase before es) = true
ended (here marks (suc n) phase before es) = false

abbrev pub entries_of : State (List ℕ) → List ℕ
entries_of bad = []
entries_of (here marks n phase before es) = es
