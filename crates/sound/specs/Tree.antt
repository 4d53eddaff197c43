-- What an area holds: a tree of nodes with their entries and values, and the bytes that each of these objects takes.
use Rattle.std.specs.Prelude.{ℕ, ◌+◌, cond, ◌&&◌, List, [], ◌∷◌, ◌++◌, length, leb, ltb}
use Rattle.layout.specs.Layout.{byte_of, node_takes, entry_takes, value_takes}

-- a short value: all bytes of its slot; a long one: its offset, its text
pub data Value : Type 0 where
  short : List ℕ → Value
  long : ℕ → List ℕ → Value

-- no entry, or one: its offset, serial, name, value
pub data Entry : Type 0 where
  bare : Entry
  entry : ℕ → ℕ → List ℕ → Value → Entry

-- a node: its offset, name, entry, and what hangs left, below and right of it
pub data Tree : Type 0 where
  leaf : Tree
  node : ℕ → List ℕ → Entry → Tree → Tree → Tree → Tree

-- the link to it: its offset, or zero
unfoldable pub link : Tree → ℕ
link leaf = 0
link (node at name own left below right) = at

unfoldable pub entry_link : Entry → ℕ
entry_link bare = 0
entry_link (entry at serial name value) = at

-- listing writes entry offsets: left side, own entry, children, right side
unfoldable pub listed_own : Entry → List ℕ
listed_own bare = []
listed_own (entry at serial name value) = at ∷ []

unfoldable pub listed : Tree → List ℕ
listed leaf = []
listed (node at name own left below right) = listed left ++ listed_own own ++ listed below ++ listed right

-- 1 at each of `size` bytes from a place on, 0 elsewhere
unfoldable pub inside : ℕ → ℕ → ℕ → ℕ
inside from size i = cond (leb from i && ltb i (from + size)) 1 0

-- how many objects a byte of the area belongs to, each with any name and its zero, padded; an object that is linked twice counts twice
unfoldable pub value_cover : Value → ℕ → ℕ
value_cover (short slot) i = 0
value_cover (long far text) i = inside (byte_of far) (value_takes (length text)) i

unfoldable pub entry_cover : Entry → ℕ → ℕ
entry_cover bare i = 0
entry_cover (entry at serial name value) i = inside (byte_of at) (entry_takes (length name)) i + value_cover value i

unfoldable pub cover : Tree → ℕ → ℕ
cover leaf i = 0
cover (node at name own left below right) i =
    inside (byte_of at) (node_takes (length name)) i + entry_cover own i + cover left i + cover below i + cover right i
