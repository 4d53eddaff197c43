-- What a step that writes comes to: its result, or a refusal's number; the bytes afterwards; and the rooms that it gave to objects.
use Rattle.std.specs.Prelude.{ℕ, ◌+◌, List, [], ◌∷◌, ◌++◌}
use Rattle.words.specs.Stores.{run, word_store}
use Rattle.layout.specs.declared.refusal.Refusal.{Refusal}
use Rattle.layout.specs.Layout.{byte_of}
use Rattle.layout.specs.Refusals.{number_of, Outcome, accept_leaving, leaves}

-- it goes on with a result, or stops with a refusal's number; the bytes afterwards; the rooms given
pub data Step : Type 0 where
  goes : (result : ℕ) (bytes rooms : List ℕ) → Step
  stops : (number : ℕ) (bytes rooms : List ℕ) → Step

abbrev pub stop_by : List ℕ → Refusal → Step
stop_by area why = stops (number_of why) area []

-- with the rooms given before
abbrev pub with_rooms : List ℕ → Step → Step
with_rooms given (goes at area rooms) = goes at area (given ++ rooms)
with_rooms given (stops number area rooms) = stops number area (given ++ rooms)

-- one step, then another that goes on from its result and bytes; the rooms of both
abbrev pub and_then : Step → (ℕ → List ℕ → Step) → Step
and_then (goes at area rooms) on = with_rooms rooms (on at area)
and_then (stops number area rooms) on = stops number area rooms

-- a link, set
abbrev pub link_to : List ℕ → ℕ → ℕ → Step
link_to area link at = goes at (run area (word_store (byte_of link) at ∷ [])) []

-- the sum of rooms
abbrev pub total : List ℕ → ℕ
total [] = 0
total (room ∷ rooms) = room + total rooms

-- the answer of a call: accepted where the step goes on
abbrev pub outcome : Step → Outcome
outcome (goes at area rooms) = accept_leaving area
outcome (stops number area rooms) = leaves number area
