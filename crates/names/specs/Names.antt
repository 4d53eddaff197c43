-- Segments of a dotted name, the cursor's step over them, and their order.
use Rattle.std.specs.Prelude.{ℕ, ◌+◌, ◌-◌, cond, List, [], ◌∷◌, length, eqb, ltb, Option, Some, None}
use Rattle.words.specs.Words.{first_in}
use Rattle.names.specs.declared.Segment.{Segment}
use Rattle.std.specs.declared.cmp.Ordering.{Ordering}
use Rattle.std.specs.declared.cmp.Ordering.TheVariants.{Less, Equal, Greater}

abbrev pub dot : ℕ
dot = 46

-- a byte before the first of some segments
abbrev pub on_first : ℕ → List (List ℕ) → List (List ℕ)
on_first x [] = (x ∷ []) ∷ []
on_first x (segment ∷ rest) = (x ∷ segment) ∷ rest

-- the segments of a name: what stands between its dots, one more than there are dots
unfoldable pub segments : List ℕ → List (List ℕ)
segments [] = [] ∷ []
segments (x ∷ xs) = cond (eqb x dot) ([] ∷ segments xs) (on_first x (segments xs))

-- a cursor is handed back after each segment: it stands behind the dot, or past the name's end
abbrev pub segment_to : ℕ → ℕ → Option Segment
segment_to from to = Some (record { from = from; to = to; next = record { at = to + 1 } })

unfoldable pub step_from : List ℕ → ℕ → Option Segment
step_from name at = cond (ltb (length name) at) None (segment_to at (first_in dot name at (length name - at)))

-- byte by byte, for segments of equal length
unfoldable pub byte_order : List ℕ → List ℕ → Ordering
byte_order [] b = Equal
byte_order (x ∷ xs) [] = Equal
byte_order (x ∷ xs) (y ∷ ys) = cond (ltb x y) Less (cond (ltb y x) Greater (byte_order xs ys))

-- shorter is less; equal lengths compare byte by byte
unfoldable pub segment_order : List ℕ → List ℕ → Ordering
segment_order a b = cond (ltb (length a) (length b)) Less (cond (ltb (length b) (length a)) Greater (byte_order a b))
