-- What the dump prints (RULES 7.6, 8.2 to 8.4): the text of a listing, or of its refusal; and that text in the caller's room.
use Rattle.std.specs.Prelude.{ℕ, ◌≡◌, List, [], ◌∷◌, ◌++◌, length, take, leb, Result}
use Rattle.words.specs.Words.{put}
use Rattle.layout.specs.declared.refusal.Refusal.{Refusal}
use Rattle.layout.specs.Refusals.{Answer, accepted, refused, refuse, answered, guard}
use Rattle.property_area.specs.Value.{value_steps, name_steps, part_or_none}
use Rattle.audit.specs.Check.{used_of, Judged, Listing, lists, list_steps}
use Rattle.texts.specs.Text.{escaped, decimal, Said, saying, said}
use Rattle.answers.specs.Answers.{file_max, ending, refused_text}

-- the texts: "entries ", " used ", "[", "]: [" and "]"
abbrev pub entries_word : List ℕ
entries_word = 101 ∷ 110 ∷ 116 ∷ 114 ∷ 105 ∷ 101 ∷ 115 ∷ 32 ∷ []

abbrev pub used_word : List ℕ
used_word = 32 ∷ 117 ∷ 115 ∷ 101 ∷ 100 ∷ 32 ∷ []

abbrev pub opening : List ℕ
opening = 91 ∷ []

abbrev pub between : List ℕ
between = 93 ∷ 58 ∷ 32 ∷ 91 ∷ []

abbrev pub closing : List ℕ
closing = 93 ∷ ending

-- ---- the dump: "entries N used U"
abbrev pub head_text : ℕ → ℕ → List ℕ
head_text count used = entries_word ++ decimal count ++ used_word ++ decimal used ++ ending

-- "[name]: [value]", both escaped, of the entry at an offset
unfoldable pub entry_line : List ℕ → ℕ → List ℕ
entry_line area at = opening ++ escaped (part_or_none area (name_steps area at)) ++ between ++ escaped (part_or_none area (value_steps area at)) ++ closing

unfoldable pub entry_lines : List ℕ → List ℕ → List ℕ
entry_lines area [] = []
entry_lines area (at ∷ rest) = entry_line area at ++ entry_lines area rest

-- in listing order; where listing refuses, the one line "refused" and the number
abbrev pub dump_text : List ℕ → Answer ℕ → List ℕ → List ℕ
dump_text area (accepted count) list = head_text count (used_of area) ++ entry_lines area (take count list)
dump_text area (refused number) list = refused_text number

-- the text said, and scratch and list as listing leaves them
pub data Dumped : Type 0 where
  dumps : (text : Said) (scratch list : List ℕ) → Dumped

abbrev pub dump_listing : List ℕ → List ℕ → Listing → Dumped
dump_listing area out (lists answer scratch list) = dumps (said out 0 (dump_text area answer list)) scratch list

-- longer than 65,536 bytes is 8
abbrev pub file_listing : (area scratch list : List ℕ) → Judged area → Listing
file_listing area scratch list judged = guard (leb (length area) file_max) (lists (refuse Refusal.BadHeader) scratch list) (list_steps area scratch list judged)

abbrev pub dump_steps : (area scratch list out : List ℕ) → Judged area → Dumped
dump_steps area scratch list out judged = dump_listing area out (file_listing area scratch list judged)

-- of each judgement: the next place, and output, scratch and list afterwards
abbrev pub DumpSays : (area scratch list out : List ℕ) → ℕ → List ℕ → List ℕ → List ℕ → Type 0
DumpSays area scratch list out next after left noted = (judged : Judged area) → dumps (saying next after) left noted ≡ dump_steps area scratch list out judged

-- ---- the dump of any area that listing takes, put at the start of the caller's room: how long it is; and room, scratch and list
pub data Filled : Type 0 where
  fills : (answer : Answer ℕ) (room scratch list : List ℕ) → Filled

-- 10 where the room is shorter than the text: it is kept, as by every refusal
abbrev pub fill_text : (text room scratch list : List ℕ) → Filled
fill_text text room scratch list =
    guard (leb (length text) (length room)) (fills (refuse Refusal.ShortBuffer) room scratch list) (fills (accepted (length text)) (put room 0 text) scratch list)

-- as listing refuses, and scratch and list as it leaves them
abbrev pub fill_listing : List ℕ → List ℕ → Listing → Filled
fill_listing area room (lists (accepted count) scratch list) = fill_text (dump_text area (accepted count) list) room scratch list
fill_listing area room (lists (refused number) scratch list) = fills (refused number) room scratch list

abbrev pub fill_steps : (area scratch list room : List ℕ) → Judged area → Filled
fill_steps area scratch list room judged = fill_listing area room (list_steps area scratch list judged)

-- what each case of the answer means
abbrev pub text_answer : Result ℕ Refusal → Answer ℕ
text_answer = answered (λ (size : ℕ). size)

abbrev pub FillSays : (area scratch list room : List ℕ) → Result ℕ Refusal → List ℕ → List ℕ → List ℕ → Type 0
FillSays area scratch list room text after left noted = (judged : Judged area) → fills (text_answer text) after left noted ≡ fill_steps area scratch list room judged
