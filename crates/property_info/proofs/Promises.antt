-- What the entry promises: its value and its name are parts of the area, and a short value has no zero in it.
use mathlib.Core.Path.{◌≡◌}
use mathlib.Core.List.{List}
use Prim.Native.Nat.{ℕ, ◌≤◌, ◌<◌}
use lib.ListN.{get_or}
use Rattle.layout.specs.Layout.{EntryIn, span_at}
use Rattle.property_info.specs.Entry.{short_value, name_of, value_of}
use Rattle.property_info.proofs.Lies.{Lies}
use Rattle.property_info.proofs.Lies as lies

-- ---- a value is a part of the area, and so is a name
pub value-lies : (area : List ℕ) (at from to : ℕ) → EntryIn area at → value_of area at ≡ span_at from to → Lies area from to
value-lies = lies.value-lies

pub name-lies : (area : List ℕ) (at from to : ℕ) → name_of area at ≡ span_at from to → Lies area from to
name-lies = lies.name-lies

-- ---- a short value has no zero in it
pub short-whole : (area : List ℕ) (at from to j : ℕ) → short_value area at ≡ span_at from to → from ≤ j → j < to → get_or area j 0 ≡ 0 → ⊥
short-whole = lies.short-whole
