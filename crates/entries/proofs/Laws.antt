-- Where a new entry stands: where its room was given, so its offset fits a word.
use mathlib.Core.Path.{◌≡◌}
use mathlib.Core.Bool.{cond}
use mathlib.Core.List.{List, []}
use Prim.Native.Nat.{ℕ, ◌≤◌}
use native.Mathlib.Omega.{arith}
use lib.ListN.{length}
use lib.Dec.{ltb}
use Rattle.words.specs.Stores.{Store, run}
use Rattle.words.proofs.Laws.{bool_cases, clash}
use Rattle.words.proofs.StoreLaws.{run-append}
use Rattle.layout.specs.declared.refusal.Refusal.{Refusal}
use Rattle.layout.specs.Layout.{word_max, entry_takes, value_takes, slot_size, entry_ok}
use Rattle.property_info.specs.Written.{short_stores}
use Rattle.allocation.specs.Steps.{Step, goes, stop_by}
use Rattle.allocation.specs.View.{seen}
use Rattle.allocation.specs.Allocate.{allocate}
use Rattle.entries.specs.Entries.{lay_entry, long_entry, new_entry}
use Rattle.allocation.proofs.StepLaws.{then-through}
use Rattle.allocation.proofs.AllocateLaws.{allocate-room}

-- ---- an entry, laid where room was given
lay_at : (area name : List ℕ) (at : ℕ) (stores : List Store) (place : ℕ) (after : List ℕ) → goes place after [] ≡ seen (lay_entry area name at stores) → place ≡ at
unfolding lay_entry seen
lay_at area name at stores place after e =
    bool_cases (entry_ok area at)
    (λ t. let k : goes place after [] ≡ seen (goes at (run area _) []) = rw t at e in cc)
    (λ t. let k : goes place after [] ≡ stop_by area Refusal.Damaged = rw t at e in clash cc)

-- ---- a long entry: its value has room of its own
long-at : (area name value : List ℕ) (at place : ℕ) (after : List ℕ) → goes place after [] ≡ seen (long_entry area name value at) → place ≡ at
unfolding long_entry
long-at area name value at place after e =
    let t = then-through (allocate area (value_takes (length value))) _ place after e in
    lay_at _ name at _ place after t.second

-- ---- a new entry
abbrev laid : List ℕ → List ℕ → ℕ → List ℕ → Step
laid name value at given = cond (ltb (length value) slot_size) (lay_entry given name at (short_stores at value)) (long_entry given name value at)

laid-at : (name value : List ℕ) (at place : ℕ) (given after : List ℕ) → goes place after [] ≡ seen (laid name value at given) → place ≡ at
laid-at name value at place given after e =
    bool_cases (ltb (length value) slot_size)
    (λ t. lay_at given name at (short_stores at value) place after (rw t at e))
    (λ t. long-at given name value at place after (rw t at e))

pub entry-small : (area name value : List ℕ) (at : ℕ) (after : List ℕ) → goes at after [] ≡ seen (new_entry area name value) → at ≤ word_max
unfolding new_entry
entry-small area name value at after e =
    let size = entry_takes (length name) in
    let t = then-through (allocate area size) (laid name value) at after e in
    omega (arith, laid-at name value t.mid at t.between after t.second, (allocate-room area size t.mid t.between t.first).small)

-- ---- stores, and then those of a name behind them
pub ruleset store_laws = (run-append)
