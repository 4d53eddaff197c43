-- Soundness (RULES 6): the one definition that check, listing and history cite.
use Rattle.std.specs.Prelude.{ℕ, ◌+◌, ◌-◌, ◌*◌, ◌%◌, ◌≤◌, ◌<◌, ◌≡◌, ◌≢◌, true, List, [], ◌∷◌, ◌++◌, length, get_or}
use Rattle.names.specs.Names.{dot, segment_order}
use Rattle.std.specs.declared.cmp.Ordering.{Ordering}
use Rattle.std.specs.declared.cmp.Ordering.TheVariants.{Less, Greater}
use Rattle.layout.specs.Layout.{word_size, used_field, node_size, entry_size, serial_field, slot_field, slot_size, long_offset_field, root_at, children_field, first_free, data_size, byte_of, place_of, header_word, word_at, entry_takes}
use Rattle.serials.specs.Serial.{long_in}
use Rattle.trie.specs.Header.{header_ok}
use Rattle.sound.specs.Tree.{Value, short, long, Entry, bare, entry, Tree, leaf, node, link, entry_link, inside, cover}

-- ---- the bytes represent the tree
-- these bytes stand from a place on
abbrev pub Holds : List ℕ → ℕ → List ℕ → Type 0
Holds area from bytes = (k : ℕ) → k < length bytes → get_or area (from + k) 0 ≡ get_or bytes k 0

-- a text and its zero
abbrev pub HoldsText : List ℕ → ℕ → List ℕ → Type 0
HoldsText area from text = Holds area from (text ++ 0 ∷ [])

-- a node's five words, at 0 namelen, 4 prop, 8 left, 12 right, 16 children, and its name
abbrev pub node_words : List ℕ → Entry → Tree → Tree → Tree → List ℕ
node_words name own left below right = length name ∷ entry_link own ∷ link left ∷ link right ∷ link below ∷ []

pub record NodeAt (area : List ℕ) (at : ℕ) (name words : List ℕ) : Type 0 where
  pub fields : (k : ℕ) → k < 5 → word_at area at (word_size * k) ≡ get_or words k 0
  pub text : HoldsText area (place_of at node_size) name

-- a value, of the entry at an offset
unfoldable pub ValueAt : List ℕ → ℕ → Value → Type 0
ValueAt area at (short slot) = Holds area (place_of at slot_field) slot × (length slot ≡ slot_size)
ValueAt area at (long far text) = (at + word_at area at long_offset_field ≡ far) × HoldsText area (byte_of far) text

unfoldable pub EntryAt : List ℕ → Entry → Type 0
EntryAt area bare = Unit {0}
EntryAt area (entry at serial name value) =
    (word_at area at serial_field ≡ serial) × HoldsText area (place_of at entry_size) name × ValueAt area at value

unfoldable pub TreeAt : List ℕ → Tree → Type 0
TreeAt area leaf = Unit {0}
TreeAt area (node at name own left below right) =
    NodeAt area at name (node_words name own left below right) × EntryAt area own × TreeAt area left × TreeAt area below × TreeAt area right

-- ---- the tree is as it ought to be
abbrev pub Without : ℕ → List ℕ → Type 0
Without b bytes = (k : ℕ) → k < length bytes → get_or bytes k 0 ≢ b

abbrev pub Has : ℕ → List ℕ → Type 0
Has b bytes = (k : ℕ) × (k < length bytes) × (get_or bytes k 0 ≡ b)

-- a node starts at a multiple of 4; its name is nonempty, without dots, and has no zero inside, so that it is exactly namelen long
pub record NodeRule (at : ℕ) (name : List ℕ) : Type 0 where
  pub aligned : at % word_size ≡ 0
  pub some : 1 ≤ length name
  pub whole : Without 0 name
  pub plain : Without dot name

-- short, serial bit 16 clear: the slot has a zero; long: at a multiple of 4, at least align4(96 + L + 1) from the entry's start, up to its zero
unfoldable pub ValueRule : ℕ → ℕ → List ℕ → Value → Type 0
ValueRule at serial name (short slot) = (long_in serial ≡ 0) × Has 0 slot
ValueRule at serial name (long far text) =
    (long_in serial ≡ 1) × (far % word_size ≡ 0) × (at + entry_takes (length name) ≤ far) × Without 0 text

-- an entry's name is its dotted path; it starts at a multiple of 4
unfoldable pub EntryRule : List ℕ → Entry → Type 0
EntryRule path bare = Unit {0}
EntryRule path (entry at serial name value) = (name ≡ path) × (at % word_size ≡ 0) × ValueRule at serial name value

-- every name of a side, reached by left and right alone, is so ordered against a name
unfoldable pub Side : Ordering → List ℕ → Tree → Type 0
Side order name leaf = Unit {0}
Side order name (node at other own left below right) = (segment_order other name ≡ order) × Side order name left × Side order name right

-- below a dotted prefix: each node, its entry, all smaller on its left side and all greater on its right, and the same for what hangs from it
unfoldable pub TreeRule : List ℕ → Tree → Type 0
TreeRule prefix leaf = Unit {0}
TreeRule prefix (node at name own left below right) =
    NodeRule at name × EntryRule (prefix ++ name) own × Side Less name left × Side Greater name right
    × TreeRule prefix left × TreeRule (prefix ++ name ++ dot ∷ []) below × TreeRule prefix right

-- ---- the area
-- RULES 6.1, 6.2: the header's test (else 8), the bounds of the used mark, the root's words
pub record Front (area : List ℕ) (used : ℕ) : Type 0 where
  pub header : header_ok area ≡ true
  pub mark : header_word area used_field ≡ used
  pub low : first_free ≤ used
  pub high : used ≤ data_size area
  pub aligned : used % word_size ≡ 0
  pub root : (k : ℕ) → k < 4 → word_at area root_at (word_size * k) ≡ 0

-- every object lies between 112 and used, and no two share a byte: a byte there belongs to one at most, any other to none. Gaps are allowed; each node has
-- one path, since one that is linked twice would be counted twice
abbrev pub Room : ℕ → Tree → Type 0
Room used tree = (i : ℕ) → cover tree i ≤ inside (byte_of first_free) (used - first_free) i

-- the area is sound, and this is its tree
pub record Sound (area : List ℕ) (used : ℕ) (tree : Tree) : Type 0 where
  pub front : Front area used
  pub top : word_at area root_at children_field ≡ link tree
  pub room : Room used tree
  pub bytes : TreeAt area tree
  pub rule : TreeRule [] tree
