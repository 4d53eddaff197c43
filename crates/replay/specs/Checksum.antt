-- Adler-32 (RFC 1950).
use Rattle.std.specs.Prelude.{ℕ, ◌+◌, ◌*◌, ◌%◌, List, [], ◌∷◌}

-- the largest prime below 65,536
abbrev pub modulus : ℕ
modulus = 65521

-- the low sum is that of the bytes, the high sum that of the low sums, both modulo 65,521; the high sum stands in the upper half
unfoldable pub adler_from : ℕ → ℕ → List ℕ → ℕ
adler_from low high [] = high * 65536 + low
adler_from low high (b ∷ bs) = adler_from ((low + b) % modulus) ((high + (low + b) % modulus) % modulus) bs

-- the low sum begins with 1, the high sum with 0
abbrev pub adler : List ℕ → ℕ
adler bytes = adler_from 1 0 bytes
