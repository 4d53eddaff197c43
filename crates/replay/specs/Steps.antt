-- What each step of the vectors answers, and the bytes that it leaves in the area, by the definitions of the calls.
use Rattle.std.specs.Prelude.{ℕ, ◌+◌, ◌-◌, ◌%◌, ◌^◌, cond, List, leb, length, replicate}
use Rattle.words.specs.Words.{little_bytes, put}
use Rattle.layout.specs.Refusals.{Answer, accepted, refused, no_refusal, Outcome, leaves}
use Rattle.property_area.specs.Find.{Hit, hit, find_steps}
use Rattle.property_area.specs.Value.{Part, bytes, value_steps}
use Rattle.property_area.specs.Backup.{backup_steps}
use Rattle.allocation.specs.Steps.{outcome}
use Rattle.builder.specs.Fresh.{format_steps}
use Rattle.builder.specs.Add.{add_steps}
use Rattle.updates.specs.Update.{update_steps, raw_steps}
use Rattle.counters.specs.Distance.{distance}
use Rattle.replay.specs.Checksum.{adler}
use Rattle.replay.specs.declared.records.Step.{Step}
use Rattle.replay.specs.declared.records.Step.TheVariants.{Format, Add, Update, RawUpdate, Find, Value, BackupRead, Distance, Poke}
use Rattle.replay.specs.declared.steps.Answers.{Answers}

abbrev pub answers : ℕ → ℕ → ℕ → Answers
answers first second third = record { first = first; second = second; third = third }

-- the answers, and the area's bytes afterwards
pub data Played : Type 0 where
  plays : Answers → List ℕ → Played

-- a call that answers with its refusal's number alone
abbrev pub by_outcome : Outcome → Played
by_outcome (leaves number area) = plays (answers number 0 0) area

-- the count of nodes compared is kept in a word
abbrev pub found_reply : Answer Hit → Answers
found_reply (accepted (hit offset compared)) = answers no_refusal offset (compared % 2 ^ 32)
found_reply (refused number) = answers number 0 0

abbrev pub part_reply : Answer Part → Answers
part_reply (accepted (bytes from to)) = answers no_refusal from (to - from)
part_reply (refused number) = answers number 0 0

-- what the buffer holds before a backup read
abbrev pub filler : ℕ
filler = 0xee

-- the buffer is told by its checksum
abbrev pub backup_answers : Outcome → Answers
backup_answers (leaves number buffer) = answers number (adler buffer) 0

-- a word that lies within the area is stored
unfoldable pub poked : List ℕ → ℕ → ℕ → List ℕ
poked area at word = cond (leb (at + 4) (length area)) (put area at (little_bytes 4 word)) area

-- a step with its first two arguments and its byte strings, on an area, and with a buffer of so many bytes
abbrev pub play_step : Step → ℕ → ℕ → List ℕ → List ℕ → List ℕ → ℕ → Played
play_step Format first second one other area wanted = by_outcome (format_steps area)
play_step Add first second one other area wanted = by_outcome (outcome (add_steps area one other))
play_step Update first second one other area wanted = by_outcome (update_steps area one other)
play_step RawUpdate first second one other area wanted = by_outcome (raw_steps area first one other)
play_step Find first second one other area wanted = plays (found_reply (find_steps area one)) area
play_step Value first second one other area wanted = plays (part_reply (value_steps area first)) area
play_step BackupRead first second one other area wanted = plays (backup_answers (backup_steps area (replicate wanted filler))) area
play_step Distance first second one other area wanted = plays (answers (distance first second) 0 0) area
play_step Poke first second one other area wanted = plays (answers 0 0 0) (poked area first second)
