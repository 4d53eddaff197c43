-- Marks: one byte for each word of the data, zero while the word is free. The walk's steps cite these; no promise does.
use Rattle.std.specs.Prelude.{ℕ, zero, suc, ◌+◌, ◌-◌, ◌*◌, ◌/◌, ◌%◌, Bool, true, ◌&&◌, List, [], ◌∷◌, length, get_or, replicate, eqb, leb}
use Rattle.words.specs.Words.{put}

-- whether a test holds of so many places, from one on
unfoldable pub all : (ℕ → Bool) → ℕ → ℕ → Bool
all test i zero = true
all test i (suc k) = test i && all test (i + 1) k

abbrev pub is_zero : List ℕ → ℕ → Bool
is_zero s i = eqb (get_or s i 0) 0

-- whether k words from the n-th on are free
unfoldable pub can_take : List ℕ → ℕ → ℕ → Bool
can_take marks n k = leb (n + k) (length marks) && all (is_zero marks) n k

-- they are taken
unfoldable pub fill : List ℕ → ℕ → ℕ → List ℕ
fill marks n k = put marks n (replicate k 1)

-- a number in three marks, to base 255, each digit plus 1, so that no mark is zero
abbrev pub base : ℕ
base = 255

abbrev pub digits : ℕ → List ℕ
digits x = (x % base + 1) ∷ (x / base % base + 1) ∷ (x / base / base % base + 1) ∷ []

unfoldable pub write : List ℕ → ℕ → ℕ → List ℕ
write marks n x = put marks n (digits x)

abbrev pub digit : List ℕ → ℕ → ℕ
digit marks n = get_or marks n 0 - 1

unfoldable pub read : List ℕ → ℕ → ℕ
read marks n = digit marks n + base * (digit marks (n + 1) + base * digit marks (n + 2))
