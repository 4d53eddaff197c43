-- All records, one after the other.
use Rattle.std.specs.Prelude.{ℕ, zero, suc, ◌+◌, ◌≤◌, Bool, true, false, cond, not, List, eqb, ltb, length, replicate, Ok, Err}
use Rattle.words.specs.Words.{little_at}
use Rattle.replay.specs.declared.records.End.{End}
use Rattle.replay.specs.declared.replaying.Tally.{Tally}
use Rattle.replay.specs.declared.replaying.Report.{Report}
use Rattle.replay.specs.Turns.{Turned, turns, turn_at}

abbrev pub one_if : Bool → ℕ
one_if true = 1
one_if false = 0

abbrev pub nothing : Tally
nothing = record { records = 0; calls = 0; differences = 0 }

unfoldable pub count_record : Tally → Bool → Bool → Tally
count_record t call same =
    record { records = t.records + 1; calls = t.calls + one_if call; differences = t.differences + one_if (not same) }

-- no more calls or differences than records
pub record Fair (t : Tally) : Type 0 where
  pub calls : t.calls ≤ t.records
  pub differences : t.differences ≤ t.records

abbrev pub report : Tally → End → Report
report tally end = record { tally = tally; end = end }

-- the last record ends at a place
abbrev pub end_at : List ℕ → ℕ → End
end_at vectors at = cond (eqb at (length vectors)) End.Whole End.Surplus

abbrev pub by_turn : Turned → (End → Report) → (ℕ → ℕ → Bool → Bool → List ℕ → Report) → Report
by_turn (turns (Ok t) space) stop on = on t.next t.size t.call t.agrees space
by_turn (turns (Err end) space) stop on = stop end

-- so many records from a place on, with a buffer of so many bytes; so many bytes of the space are the area
unfoldable pub replay_from : List ℕ → ℕ → ℕ → ℕ → ℕ → List ℕ → Tally → Report
replay_from vectors room zero at size space tally = report tally (end_at vectors at)
replay_from vectors room (suc left) at size space tally =
    by_turn (turn_at vectors at size space room) (λ end. report tally end)
    (λ next n call same after. replay_from vectors room left next n after (count_record tally call same))

-- the first word is how many records there are. The space is zero at first, and none of it is the area
unfoldable pub replay_steps : List ℕ → ℕ → ℕ → Report
replay_steps vectors length-of-space room =
    cond (ltb (length vectors) 4) (report nothing End.Cut) (replay_from vectors room (little_at 4 vectors 0) 4 0 (replicate length-of-space 0) nothing)
