-- What a lookup shows: find, then value.
use Rattle.std.specs.Prelude.{ℕ, List}
use Rattle.layout.specs.Refusals.{Answer, refused, on_accepted}
use Rattle.property_area.specs.Find.{by_hit, find_steps}
use Rattle.property_area.specs.Value.{Part, part_bytes, value_steps}

-- where the value stands
abbrev pub lookup_steps : List ℕ → List ℕ → Answer Part
lookup_steps area name = by_hit refused (value_steps area) (find_steps area name)

-- the value itself
unfoldable pub shown : List ℕ → List ℕ → Answer (List ℕ)
shown area name = on_accepted (part_bytes area) (lookup_steps area name)
