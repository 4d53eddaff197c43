-- The code's answers as steps. Contracts of functions that are no public calls cite these; no promise does.
use Rattle.std.specs.Prelude.{ℕ, List, [], Result, Ok, Err}
use Rattle.layout.specs.declared.refusal.Refusal.{Refusal}
use Rattle.allocation.specs.Steps.{Step, goes, stops, stop_by}

-- what a caller sees of it: all but the rooms
unfoldable pub seen : Step → Step
seen (goes at area rooms) = goes at area []
seen (stops number area rooms) = stops number area []

abbrev pub placed_step : Result ℕ Refusal → List ℕ → Step
placed_step (Ok at) area = goes at area []
placed_step (Err why) area = stop_by area why
