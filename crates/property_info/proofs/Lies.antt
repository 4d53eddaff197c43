-- Where an entry's value and name lie: in the area; and that a short value has no zero in it.
use mathlib.Core.Path.{◌≡◌, ◌∙◌}
use mathlib.Core.List.{List}
use Prim.Native.Nat.{ℕ, ◌+◌, ◌-◌, ◌≤◌, ◌<◌}
use native.Mathlib.Omega.{arith}
use lib.ListN.{length, get_or}
use lib.Dec.{leb}
use Rattle.words.specs.Words.{first_in, round_up4}
use Rattle.words.proofs.Laws.{bool_cases, first-low, first-high, first-none}
use Rattle.layout.specs.declared.text.Span.{Span}
use Rattle.std.specs.Prelude.{Option, Some, None}
use Rattle.layout.specs.Layout.{EntryIn, entry_size, slot_field, slot_size, long_offset_field, place_of, word_at, span_at}
use Rattle.layout.proofs.Laws.{span-one, span-some, text-within}
use Rattle.property_info.specs.Entry.{is_long, short_value, name_of, text_from, behind_name, long_value, value_of}
use Rattle.property_info.proofs.Laws.{value-long, value-short}

-- ---- a part of the area
pub record Lies (area : List ℕ) (from to : ℕ) : Type 0 where
  pub low : from ≤ to
  pub high : to ≤ length area

lies-short : (area : List ℕ) (at from to : ℕ) → EntryIn area at → short_value area at ≡ span_at from to → Lies area from to
unfolding short_value
lies-short area at from to h e =
    let z = first_in 0 area (place_of at slot_field) slot_size in
    let k = span-one (place_of at slot_field) z from to e in
    record {
      low = omega (arith, first-low 0 area (place_of at slot_field) slot_size);
      high = omega (arith, first-high 0 area (place_of at slot_field) slot_size);
    }

lies-text : (area : List ℕ) (start from to : ℕ) → text_from area start ≡ span_at from to → Lies area from to
lies-text area start from to e =
    let s = text-within area start (length area - start) from to e in
    record { low = s.0; high = omega (arith, s.1) }

lies-behind : (area : List ℕ) (at relative from to : ℕ) (name : Option Span) → behind_name area at relative name ≡ span_at from to → Lies area from to
lies-behind area at relative from to (Some name) e =
    bool_cases (leb (round_up4 (entry_size + (name.to - name.from) + 1)) relative)
    (λ t. lies-text area (place_of at relative) from to (rw t at e))
    (λ t. span-some from to (rw t at e))
lies-behind area at relative from to None e = span-some from to e

pub value-lies : (area : List ℕ) (at from to : ℕ) → EntryIn area at → value_of area at ≡ span_at from to → Lies area from to
unfolding long_value
value-lies area at from to h e =
    bool_cases (is_long area at)
    (λ t. lies-behind area at (word_at area at long_offset_field) from to (name_of area at) (value-long area at t ∙ e))
    (λ t. lies-short area at from to h (value-short area at t ∙ e))

pub name-lies : (area : List ℕ) (at from to : ℕ) → name_of area at ≡ span_at from to → Lies area from to
unfolding name_of
name-lies area at from to e = lies-text area (place_of at entry_size) from to e

-- ---- no zero before the first
pub short-whole : (area : List ℕ) (at from to j : ℕ) → short_value area at ≡ span_at from to → from ≤ j → j < to → get_or area j 0 ≡ 0 → ⊥
unfolding short_value
short-whole area at from to j e h l z =
    let k = span-one (place_of at slot_field) (first_in 0 area (place_of at slot_field) slot_size) from to e in
    first-none 0 area (place_of at slot_field) slot_size j (omega arith) (omega arith) z
