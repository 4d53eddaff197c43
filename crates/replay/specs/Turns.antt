-- One record: what its step is made on, what is compared, and what is left for the next.
use Rattle.std.specs.Prelude.{ℕ, ◌+◌, Bool, cond, ◌&&◌, List, ◌++◌, eqb, ltb, length, take, drop, Result, Ok, Err}
use Rattle.words.specs.Words.{little_at, part}
use Rattle.replay.specs.declared.records.End.{End}
use Rattle.replay.specs.declared.records.Parts.{Parts}
use Rattle.replay.specs.declared.steps.Answers.{Answers}
use Rattle.replay.specs.declared.turns.Turn.{Turn}
use Rattle.replay.specs.Checksum.{adler}
use Rattle.replay.specs.Records.{answers_of, is_call, area_size, wanted_of, word_of, read_record}
use Rattle.replay.specs.Steps.{Played, plays, play_step}

-- the step of a record on an area, with a buffer of so many bytes
abbrev pub play_record : List ℕ → Parts → List ℕ → ℕ → Played
play_record vectors p area wanted =
    play_step p.step p.first p.second (part vectors p.strings p.middle) (part vectors p.middle p.answers) area wanted

-- whether a record has these answers and this checksum
unfoldable pub agrees : List ℕ → Parts → Answers → ℕ → Bool
agrees vectors p given sum =
    eqb (word_of vectors p.answers (answers_of p.step) 0) given.first
    && (eqb (word_of vectors p.answers (answers_of p.step) 1) given.second
    && (eqb (word_of vectors p.answers (answers_of p.step) 2) given.third && eqb (little_at 4 vectors p.checksum) sum))

-- whether all agrees, and the area's bytes afterwards
pub data Compared : Type 0 where
  compares : Bool → List ℕ → Compared

abbrev pub compare : List ℕ → Parts → Played → Compared
compare vectors p (plays given area) = compares (agrees vectors p given (adler area)) area

-- what became of a record, and the space's bytes afterwards
pub data Turned : Type 0 where
  turns : Result Turn End → List ℕ → Turned

-- the area is the first bytes of the space; the others stay
abbrev pub turn_done : Parts → ℕ → List ℕ → Compared → Turned
turn_done p size space (compares same area) =
    turns (Ok (record { next = p.checksum + 4; size = size; call = is_call p.step; agrees = same })) (area ++ drop size space)

-- the space and the buffer have so many bytes
unfoldable pub turn_on : List ℕ → Parts → ℕ → List ℕ → ℕ → Turned
turn_on vectors p size space room =
    cond (ltb (length space) size) (turns (Err End.NoRoom) space)
    (cond (ltb room (wanted_of p.step p.first)) (turns (Err End.NoRoom) space)
    (turn_done p size space (compare vectors p (play_record vectors p (take size space) (wanted_of p.step p.first)))))

abbrev pub by_reading : Result Parts End → List ℕ → (Parts → Turned) → Turned
by_reading (Ok p) space on = on p
by_reading (Err end) space on = turns (Err end) space

-- the record at a place, where so many bytes of the space were the area
unfoldable pub turn_at : List ℕ → ℕ → ℕ → List ℕ → ℕ → Turned
turn_at vectors at size space room =
    by_reading (read_record vectors at) space (λ p. turn_on vectors p (area_size p.step p.first size) space room)
