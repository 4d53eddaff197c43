-- Bytes in a list: little-endian numbers over size and place, alignment, the scan for a byte, sameness, bytes replaced from a place on.
use Rattle.std.specs.Prelude.{ℕ, zero, suc, ◌+◌, ◌-◌, ◌*◌, ◌/◌, ◌%◌, Bool, true, false, cond, ◌&&◌, List, [], ◌∷◌, length, get_or, set, take, drop, eqb, ltb}

-- the number whose k bytes stand from a place on, lowest first
unfoldable pub little_at : ℕ → List ℕ → ℕ → ℕ
little_at zero s at = 0
little_at (suc k) s at = get_or s at 0 + 256 * little_at k s (at + 1)

-- the k bytes of a number, lowest first
unfoldable pub little_bytes : ℕ → ℕ → List ℕ
little_bytes zero v = []
little_bytes (suc k) v = v % 256 ∷ little_bytes k (v / 256)

-- align4 rounds up to a multiple of 4
abbrev pub round_up4 : ℕ → ℕ
round_up4 n = (n + 3) / 4 * 4

-- the bytes from a place up to another
abbrev pub part : List ℕ → ℕ → ℕ → List ℕ
part s from to = take (to - from) (drop from s)

-- the place of the first b among the k bytes from a place on, or the place behind them
unfoldable pub first_in : ℕ → List ℕ → ℕ → ℕ → ℕ
first_in b s at zero = at
first_in b s at (suc k) = let later = first_in b s (at + 1) k in cond (eqb (get_or s at 0) b) at later

abbrev pub has_zero : List ℕ → Bool
has_zero s = ltb (first_in 0 s 0 (length s)) (length s)

-- the bytes up to the first zero, all if there is none
abbrev pub up_to_zero : List ℕ → List ℕ
up_to_zero s = take (first_in 0 s 0 (length s)) s

-- whether two runs of bytes are the same
unfoldable pub same_bytes : List ℕ → List ℕ → Bool
same_bytes [] [] = true
same_bytes [] (y ∷ ys) = false
same_bytes (x ∷ xs) [] = false
same_bytes (x ∷ xs) (y ∷ ys) = eqb x y && same_bytes xs ys

-- the bytes from a place on replaced by others, one after the other; a store past the end changes nothing
unfoldable pub put : List ℕ → ℕ → List ℕ → List ℕ
put s at [] = s
put s at (b ∷ bs) = put (set s at b) (at + 1) bs
