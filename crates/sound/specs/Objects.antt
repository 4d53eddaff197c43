-- For the promises in the words of RULES 6.3 to 6.5: the linked nodes, entries and long values as a list.
use Rattle.std.specs.Prelude.{ℕ, ◌+◌, ◌%◌, ◌≤◌, ◌<◌, ◌≡◌, cond, List, [], ◌∷◌, ◌++◌, eqb, length}
use Rattle.words.specs.Words.{round_up4}
use Rattle.layout.specs.Layout.{word_size, node_size, entry_size, first_free, byte_of}
use Rattle.sound.specs.Tree.{Value, short, long, Entry, bare, entry, Tree, leaf, node}

-- an object: its offset, and how many bytes stand before its zero
pub record Object : Type 0 where
  pub at : ℕ
  pub bytes : ℕ

-- with its zero, padded
abbrev pub takes : Object → ℕ
takes x = round_up4 (x.bytes + 1)

abbrev pub object : ℕ → ℕ → Object
object at bytes = record { at = at; bytes = bytes }

abbrev pub value_objects : Value → List Object
value_objects (short slot) = []
value_objects (long at text) = object at (length text) ∷ []

abbrev pub entry_objects : Entry → List Object
entry_objects bare = []
entry_objects (entry at serial name value) = object at (entry_size + length name) ∷ value_objects value

abbrev pub objects : Tree → List Object
objects leaf = []
objects (node at name own left below right) =
    object at (node_size + length name) ∷ (entry_objects own ++ (objects left ++ (objects below ++ objects right)))

abbrev pub Each : (Object → Type 0) → List Object → Type 0
Each P [] = Unit {0}
Each P (x ∷ xs) = P x × Each P xs

-- a byte of the area is the object's
abbrev pub Takes : Object → ℕ → Type 0
Takes x i = (byte_of x.at ≤ i) × (i < byte_of x.at + takes x)

abbrev pub ShareNone : Object → Object → Type 0
ShareNone x y = (i : ℕ) → Takes x i → Takes y i → ⊥

-- no two share a byte
abbrev pub Apart : List Object → Type 0
Apart [] = Unit {0}
Apart (x ∷ xs) = Each (ShareNone x) xs × Apart xs

abbrev pub Between : ℕ → Object → Type 0
Between used x = (first_free ≤ x.at) × (x.at + takes x ≤ used)

abbrev pub Aligned : Object → Type 0
Aligned x = x.at % word_size ≡ 0

-- how often a number stands in a list
unfoldable pub times : ℕ → List ℕ → ℕ
times n [] = 0
times n (x ∷ xs) = cond (eqb x n) 1 0 + times n xs
