-- The history (demand 3): adds and updates by name, what a run of them leaves, and what a lookup ought to show.
use Rattle.std.specs.Prelude.{ℕ, ◌≡◌, ◌⊎◌, Bool, true, false, cond, ◌&&◌, ◌||◌, List, [], ◌∷◌, ◌++◌, length, eqb}
use Rattle.std.proofs.Math.Option.{Option, none, some}
use Rattle.words.specs.Words.{up_to_zero, same_bytes}
use Rattle.layout.specs.declared.refusal.Refusal.{Refusal}
use Rattle.layout.specs.Refusals.{Answer, accepted, refused, refuse, no_refusal, Outcome, number_in, bytes_in}
use Rattle.allocation.specs.Steps.{Step, goes, stops, outcome}
use Rattle.builder.specs.Add.{add_steps}
use Rattle.updates.specs.Update.{update_steps}

-- a call: its name, its value
pub data Op : Type 0 where
  add : List ℕ → List ℕ → Op
  update : List ℕ → List ℕ → Op

-- by the call's own definition
abbrev pub call : List ℕ → Op → Outcome
call area (add name value) = outcome (add_steps area name value)
call area (update name value) = update_steps area name value

-- the area after a run of calls, refused ones included
unfoldable pub after : List ℕ → List Op → List ℕ
after area [] = area
after area (op ∷ ops) = after (bytes_in (call area op)) ops

-- ---- what a lookup (`shown`) ought to show: the value of a name's last accepted update, or else of its first accepted add, up to its first zero byte
abbrev pub op_name : Op → List ℕ
op_name (add name value) = name
op_name (update name value) = name

-- an accepted call of that name, after what was told before
abbrev pub hear : Op → Option (List ℕ) → Option (List ℕ)
hear (add name value) none = some (up_to_zero value)
hear (add name value) (some before) = some before
hear (update name value) before = some (up_to_zero value)

-- it was accepted, and is of that name
abbrev pub heeded : List ℕ → List ℕ → Op → Bool
heeded area name op = eqb (number_in (call area op)) no_refusal && same_bytes (op_name op) name

unfoldable pub told : List ℕ → List ℕ → List Op → Option (List ℕ) → Option (List ℕ)
told area name [] before = before
told area name (op ∷ ops) before = told (bytes_in (call area op)) name ops (cond (heeded area name op) (hear op before) before)

-- what an answer tells: the value that it shows, or none
abbrev pub told_by : Answer (List ℕ) → Option (List ℕ)
told_by (accepted value) = some value
told_by (refused number) = none

-- told a value, a lookup shows it; told none, it is refused as missing (3) or malformed (2)
abbrev pub AsTold : Answer (List ℕ) → Option (List ℕ) → Type 0
AsTold answer (some value) = answer ≡ accepted value
AsTold answer none = (answer ≡ refuse Refusal.Missing) ⊎ (answer ≡ refuse Refusal.EmptySegment)

-- ---- whether a name has an accepted add
abbrev pub is_add : Op → Bool
is_add (add name value) = true
is_add (update name value) = false

unfoldable pub added : List ℕ → List ℕ → List Op → Bool
added area name [] = false
added area name (op ∷ ops) = (heeded area name op && is_add op) || added (bytes_in (call area op)) name ops

-- ---- the lengths of the values of a name's accepted updates
abbrev pub size_in : Op → List ℕ
size_in (add name value) = []
size_in (update name value) = length value ∷ []

unfoldable pub update_sizes : List ℕ → List ℕ → List Op → List ℕ
update_sizes area name [] = []
update_sizes area name (op ∷ ops) = cond (heeded area name op) (size_in op) [] ++ update_sizes (bytes_in (call area op)) name ops

-- ---- the rooms that were given to objects, those of refused adds included
abbrev pub rooms_in : Step → List ℕ
rooms_in (goes at area rooms) = rooms
rooms_in (stops number area rooms) = rooms

abbrev pub op_rooms : List ℕ → Op → List ℕ
op_rooms area (add name value) = rooms_in (add_steps area name value)
op_rooms area (update name value) = []

unfoldable pub given : List ℕ → List Op → List ℕ
given area [] = []
given area (op ∷ ops) = op_rooms area op ++ given (bytes_in (call area op)) ops
