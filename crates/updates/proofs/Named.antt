-- Laws that the papers name and that no proof here needs any more.
use mathlib.Core.Path.{◌≡◌}
use mathlib.Core.List.{List}
use Prim.Native.Nat.{ℕ}
use Rattle.layout.specs.declared.refusal.Refusal.{Refusal}
use Rattle.std.specs.Prelude.{Result, Ok}
use Rattle.property_area.specs.declared.descent.Found.{Found}
use Rattle.property_area.specs.Find.{found_answer, find_steps}
use Rattle.updates.specs.Update.{update_entry, update_steps}

-- ---- update by name: r is what find answered
pub update_found : (area name value : List ℕ) (r : Result Found Refusal) → found_answer r ≡ find_steps area name → (found : Found) → r ≡ Ok found
    → update_entry area value found.offset ≡ update_steps area name value
unfolding update_steps
update_found area name value r e found f = rw (← e, f)
