-- What the walk's steps ask of their callers, and where objects can begin. Contracts of steps cite these; no promise does.
use Rattle.std.specs.Prelude.{ℕ, ◌%◌, ◌≤◌, Bool, ◌&&◌, eqb, leb, List, length}
use Rattle.layout.specs.Layout.{area_max, word_size, first_free, byte_of}

-- an offset is a word of the area, a node's number its offset in words
abbrev pub word_limit : ℕ
word_limit = 0x100000000

abbrev pub node_limit : ℕ
node_limit = 0x40000000

-- a place, of bytes or in a list, is far from where a sum would wrap
abbrev pub place_limit : ℕ
place_limit = 0x1000000000000

-- the used mark lies in an area that is not too long
abbrev pub UsedIn : List ℕ → ℕ → Type 0
UsedIn area used = (byte_of used ≤ length area) × (length area ≤ area_max)

-- whether an object can begin at an offset: at a word, behind the backup
abbrev pub can_begin : ℕ → Bool
can_begin at = eqb (at % word_size) 0 && leb first_free at
