-- The vectors: how many records, then the records one after the other. A record is its opcode, its arguments, its byte strings, its answers and a
-- checksum. All but the byte strings are words.
use Rattle.std.specs.Prelude.{ℕ, ◌+◌, ◌-◌, ◌*◌, ◌≤◌, ◌≡◌, Bool, true, false, cond, List, eqb, leb, length, Option, Some, None, Result, Ok, Err}
use Rattle.words.specs.Words.{little_at}
use Rattle.replay.specs.declared.records.Step.{Step}
use Rattle.replay.specs.declared.records.Step.TheVariants.{Format, Add, Update, RawUpdate, Find, Value, BackupRead, Distance, Poke}
use Rattle.replay.specs.declared.records.End.{End}
use Rattle.replay.specs.declared.records.Parts.{Parts}

-- opcodes are 1 to 9
unfoldable pub step_of : ℕ → Option Step
step_of opcode =
    cond (eqb opcode 1) (Some Format)
    (cond (eqb opcode 2) (Some Add)
    (cond (eqb opcode 3) (Some Update)
    (cond (eqb opcode 4) (Some RawUpdate)
    (cond (eqb opcode 5) (Some Find)
    (cond (eqb opcode 6) (Some Value)
    (cond (eqb opcode 7) (Some BackupRead)
    (cond (eqb opcode 8) (Some Distance)
    (cond (eqb opcode 9) (Some Poke) None))))))))

abbrev pub arguments_of : Step → ℕ
arguments_of Format = 1
arguments_of Add = 2
arguments_of Update = 2
arguments_of RawUpdate = 3
arguments_of Find = 1
arguments_of Value = 1
arguments_of BackupRead = 1
arguments_of Distance = 2
arguments_of Poke = 2

-- the lengths of the byte strings are the last of the arguments
abbrev pub strings_of : Step → ℕ
strings_of Format = 0
strings_of Add = 2
strings_of Update = 2
strings_of RawUpdate = 2
strings_of Find = 1
strings_of Value = 0
strings_of BackupRead = 0
strings_of Distance = 0
strings_of Poke = 0

abbrev pub answers_of : Step → ℕ
answers_of Format = 1
answers_of Add = 1
answers_of Update = 1
answers_of RawUpdate = 1
answers_of Find = 3
answers_of Value = 3
answers_of BackupRead = 2
answers_of Distance = 1
answers_of Poke = 0

-- how many bytes of the space are the area: a format says it, every other step keeps it
abbrev pub area_size : Step → ℕ → ℕ → ℕ
area_size Format first size = first
area_size Add first size = size
area_size Update first size = size
area_size RawUpdate first size = size
area_size Find first size = size
area_size Value first size = size
area_size BackupRead first size = size
area_size Distance first size = size
area_size Poke first size = size

-- how many bytes of the buffer a step fills
abbrev pub wanted_of : Step → ℕ → ℕ
wanted_of Format first = 0
wanted_of Add first = 0
wanted_of Update first = 0
wanted_of RawUpdate first = 0
wanted_of Find first = 0
wanted_of Value first = 0
wanted_of BackupRead first = first
wanted_of Distance first = 0
wanted_of Poke first = 0

-- every step but a poke is a call
abbrev pub is_call : Step → Bool
is_call Format = true
is_call Add = true
is_call Update = true
is_call RawUpdate = true
is_call Find = true
is_call Value = true
is_call BackupRead = true
is_call Distance = true
is_call Poke = false

-- one of some words that stand from a place on, 0 where there are fewer
unfoldable pub word_of : List ℕ → ℕ → ℕ → ℕ → ℕ
word_of vectors from count index = cond (leb count index) 0 (little_at 4 vectors (from + 4 * index))

-- the parts of a record, in their order, from its arguments on
abbrev pub parts_from : List ℕ → Step → ℕ → ℕ → ℕ → Parts
parts_from vectors step from one other =
    let strings = from + 4 * arguments_of step in
    record {
      step = step;
      first = word_of vectors from (arguments_of step) 0;
      second = word_of vectors from (arguments_of step) 1;
      strings = strings;
      middle = strings + one;
      answers = strings + one + other;
      checksum = strings + one + other + 4 * answers_of step;
    }

-- with the lengths of its byte strings
unfoldable pub parts_at : List ℕ → Step → ℕ → Parts
parts_at vectors step from =
    let lengths = from + 4 * arguments_of step - 4 * strings_of step in
    parts_from vectors step from (word_of vectors lengths (strings_of step) 0) (word_of vectors lengths (strings_of step) 1)

-- it is cut unless its checksum stands before the end
abbrev pub read_parts : List ℕ → Parts → Result Parts End
read_parts vectors parts = cond (leb (parts.checksum + 4) (length vectors)) (Ok parts) (Err End.Cut)

abbrev pub by_opcode : Option Step → (Step → Result Parts End) → Result Parts End
by_opcode (Some step) on = on step
by_opcode None on = Err End.Unknown

-- the record that begins at a place
unfoldable pub read_record : List ℕ → ℕ → Result Parts End
read_record vectors at =
    cond (leb (at + 4) (length vectors)) (by_opcode (step_of (little_at 4 vectors at)) (λ step. read_parts vectors (parts_at vectors step (at + 4)))) (Err End.Cut)

-- what a record that was read promises: its parts stand in their order, the checksum before the end
pub record Lies (vectors : List ℕ) (p : Parts) : Type 0 where
  pub strings : p.strings ≤ p.middle
  pub middle : p.middle ≤ p.answers
  pub answers : p.answers + 4 * answers_of p.step ≡ p.checksum
  pub end : p.checksum + 4 ≤ length vectors
