-- Laws of the dump's length, for each way on and out of counting it: a text, an entry's line, the first line, the lines. What bounds each keeps the sums within 64 bits.
use Prim.Native.Nat.{ℕ, ◌+◌, ◌*◌, ◌≤◌}
use mathlib.Core.Path.{◌≡◌, refl}
use mathlib.Core.List.{List, [], ◌∷◌}
use native.Mathlib.Omega.{arith}
use lib.ListN.{length, length-append, length-take, length-drop}
use Rattle.layout.specs.Layout.{area_max}
use Rattle.layout.specs.Refusals.{Answer, accepted, refused}
use Rattle.property_area.specs.Value.{Part, bytes, value_steps, name_steps, part_or_none}
use Rattle.audit.specs.Check.{used_of}
use Rattle.texts.specs.Text.{escaped, digits_max, saying, said}
use Rattle.texts.proofs.Promises.{escaped-few, decimal-few, said-stands}
use Rattle.dumping.specs.Dump.{head_text, entry_line, entry_lines}
use Rattle.dumping.specs.View.{listing_text}

-- what HEAD_MAX says, and no entry's line is longer than the other
abbrev pub head_max : ℕ
head_max = 55

abbrev pub line_max : ℕ
line_max = 8 * area_max + 7

-- ---- an entry's line: name and value are parts of the area
module _ (area : List ℕ) (few : length area ≤ area_max) where
  pub part-few : (answer : Answer Part) → length (part_or_none area answer) ≤ area_max
  part-few (accepted (bytes from to)) = simp (length-take, length-drop) (omega arith)
  part-few (refused number) = omega arith

  pub part-size : (answer : Answer Part) (size : ℕ) → size ≡ length (escaped (part_or_none area answer)) → size ≤ 4 * area_max
  part-size answer size e = omega (arith, escaped-few (part_or_none area answer), part-few answer)

-- what keeps the sum within 64 bits
pub ruleset parts = (part-few, escaped-few)

module _ (area : List ℕ) (at : ℕ) where
  pub line-size : (named valued : ℕ) → named ≡ length (escaped (part_or_none area (name_steps area at))) → valued ≡ length (escaped (part_or_none area (value_steps area at)))
      → 7 + named + valued ≡ length (entry_line area at)
  unfolding entry_line
  line-size named valued n v = simp length-append (omega arith)

  pub line-few : length area ≤ area_max → length (entry_line area at) ≤ line_max
  line-few few =
      let n = part-size area few (name_steps area at) _ refl in
      let v = part-size area few (value_steps area at) _ refl in
      omega (arith, line-size _ _ refl refl)

-- ---- the first line: its numbers have 20 digits at most
pub head_few : (count used : ℕ) → length (head_text count used) ≤ head_max
head_few count used = simp length-append (omega (arith, decimal-few digits_max count, decimal-few digits_max used))

-- said into a buffer that has room for it
pub head-size : (count used : ℕ) (out : List ℕ) (next : ℕ) (after : List ℕ) → length out ≡ head_max → saying next after ≡ said out 0 (head_text count used)
    → (next ≡ length (head_text count used)) × (next ≤ head_max)
head-size count used out next after l e =
    let few = head_few count used in
    let n = (said-stands out 0 (head_text count used) next after e (omega arith)).0 in
    (omega arith, omega arith)

pub listing-length : (area offsets : List ℕ) → length (listing_text area offsets) ≡ length (head_text (length offsets) (used_of area)) + length (entry_lines area offsets)
listing-length area offsets = length-append (head_text (length offsets) (used_of area)) (entry_lines area offsets)

-- ---- the lines: none is longer than line_max
pub lines-few : (area : List ℕ) → length area ≤ area_max → (offsets : List ℕ) → length (entry_lines area offsets) ≤ line_max * length offsets
unfolding entry_lines
lines-few area few [] = omega arith
lines-few area few (at ∷ rest) = omega (arith, length-append (entry_line area at) (entry_lines area rest), line-few area at few, lines-few area few rest)
