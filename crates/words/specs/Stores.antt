-- Stores, each made at once, and a run of them in their order.
use Rattle.std.specs.Prelude.{ℕ, ◌+◌, List, [], ◌∷◌, ◌++◌}
use Rattle.words.specs.Words.{little_bytes, put}

-- the bytes of one store, from a place on: a byte, a word, a block
pub data Store : Type 0 where
  store : (at : ℕ) (bytes : List ℕ) → Store

unfoldable pub run : List ℕ → List Store → List ℕ
run s [] = s
run s (store at bs ∷ rest) = run (put s at bs) rest

abbrev pub word_store : ℕ → ℕ → Store
word_store at v = store at (little_bytes 4 v)

-- bytes from a place on, a store for each
unfoldable pub byte_stores : ℕ → List ℕ → List Store
byte_stores at [] = []
byte_stores at (b ∷ bs) = store at (b ∷ []) ∷ byte_stores (at + 1) bs

-- a text and its zero
abbrev pub text_stores : ℕ → List ℕ → List Store
text_stores at text = byte_stores at (text ++ 0 ∷ [])
