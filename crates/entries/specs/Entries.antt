-- Add (RULES 5.4, 5.5), the entry: allocated, then a long value allocated and written, then touched and written, then its name, then prop.
use Rattle.std.specs.Prelude.{ℕ, ◌+◌, ◌-◌, cond, List, [], ◌++◌, length, eqb, ltb}
use Rattle.words.specs.Stores.{Store, run, text_stores}
use Rattle.layout.specs.declared.refusal.Refusal.{Refusal}
use Rattle.layout.specs.Refusals.{guard}
use Rattle.layout.specs.Layout.{entry_size, entry_takes, value_takes, slot_size, prop_field, byte_of, place_of, word_at, node_ok, entry_ok}
use Rattle.property_info.specs.Written.{short_stores, long_stores}
use Rattle.allocation.specs.Steps.{Step, goes, stop_by, and_then, link_to}
use Rattle.allocation.specs.Allocate.{allocate}

-- RULES 5.5: the entry, touched (5); then its stores, and those of its name
unfoldable pub lay_entry : List ℕ → List ℕ → ℕ → List Store → Step
lay_entry area name at stores =
    guard (entry_ok area at) (stop_by area Refusal.Damaged) (goes at (run area (stores ++ text_stores (place_of at entry_size) name)) [])

-- a value of 92 bytes or more is allocated and written with its zero
unfoldable pub long_entry : List ℕ → List ℕ → List ℕ → ℕ → Step
long_entry area name value at =
    and_then (allocate area (value_takes (length value))) (λ far given. lay_entry (run given (text_stores (byte_of far) value)) name at (long_stores at (far - at)))

unfoldable pub new_entry : List ℕ → List ℕ → List ℕ → Step
new_entry area name value =
    and_then (allocate area (entry_takes (length name))) (λ at given.
    cond (ltb (length value) slot_size) (lay_entry given name at (short_stores at value)) (long_entry given name value at))

-- a nonzero prop: accepted, nothing more changed; else the entry, then prop
abbrev pub by_prop : List ℕ → List ℕ → List ℕ → ℕ → ℕ → Step
by_prop area name value node prop =
    cond (eqb prop 0) (and_then (new_entry area name value) (λ at laid. link_to laid (node + prop_field) at)) (goes prop area [])

unfoldable pub add_entry : List ℕ → List ℕ → List ℕ → ℕ → Step
add_entry area name value node = guard (node_ok area node) (stop_by area Refusal.Damaged) (by_prop area name value node (word_at area node prop_field))
