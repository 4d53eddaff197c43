-- The walk's state by value as the definitions have it, and what a turn of it does. Contracts of steps cite these; no promise does.
use Rattle.std.specs.Prelude.{ℕ, ◌≡◌, List, ◌++◌, length, Option, Result, Ok, Err, option_to_list}
use Rattle.words.specs.Words.{put}
use Rattle.sound.specs.Ways.{to_left, to_below, to_right}
use Rattle.sound.specs.Ways as ways
use Rattle.walk.specs.Machine.{on, up, State, bad, here}
use Rattle.walk.specs.Machine as machine
use Rattle.walk.specs.Model.{link_at, go_at, step_at, walk_at, steps_max, entries_of}
use Rattle.probes.specs.declared.marks.Damaged.{Damaged}
use Rattle.probes.specs.declared.number.NodeNumber.{NodeNumber}
use Rattle.works.specs.View.{before_of}
use Rattle.works.specs.declared.sibling.Sibling.{Sibling}
use Rattle.tour.specs.declared.phases.Dir.{Dir}
use Rattle.tour.specs.declared.phases.Phase.{Phase}
use Rattle.tour.specs.declared.place.Walk.{Walk}

abbrev pub dir_of : Dir → ways.Dir
dir_of Dir.Left = to_left
dir_of Dir.Children = to_below
dir_of Dir.Right = to_right

abbrev pub phase_of : Phase → machine.Phase
phase_of (Phase.On dir) = on (dir_of dir)
phase_of Phase.Up = up

abbrev pub view : Walk → List ℕ → List ℕ → State (List ℕ)
view w marks es = here marks w.cur.word (phase_of w.phase) (before_of w.before) es

-- where the walk is, unless it found damage
abbrev pub walked : Result Walk Damaged → List ℕ → List ℕ → State (List ℕ)
walked (Ok w) marks es = view w marks es
walked (Err damaged) marks es = bad

-- from node p and marks it comes to r and after along the link in a direction, whatever entries were listed
abbrev pub Went : List ℕ → ℕ → List ℕ → NodeNumber → Dir → Option Sibling → Result Walk Damaged → List ℕ → Type 0
Went area used marks p dir before r after =
    (es : List ℕ) → walked r after es ≡ go_at area used marks p.word (dir_of dir) (before_of before) es (link_at area (dir_of dir) p.word)

-- the same after a step, which lists the entry that it saw
abbrev pub listing : Result (Walk × Option ℕ) Damaged → List ℕ → List ℕ → State (List ℕ)
listing (Ok step) marks es = view step.0 marks (es ++ option_to_list step.1)
listing (Err damaged) marks es = bad

-- from w and marks it comes to r and after in one step
abbrev pub Stepped : List ℕ → ℕ → Walk → List ℕ → Result (Walk × Option ℕ) Damaged → List ℕ → Type 0
Stepped area used w marks r after = (es : List ℕ) → listing r after es ≡ step_at area used (view w marks es)

-- where the walk over the whole tree is at its end
abbrev pub toured : List ℕ → ℕ → List ℕ → State (List ℕ)
toured area used marks = walk_at area used marks (steps_max area)

-- its entries counted, and put into a list
abbrev pub Noted : State (List ℕ) → ℕ → List ℕ → List ℕ → Type 0
Noted state count list after = (count ≡ length (entries_of state)) × (after ≡ put list 0 (entries_of state))
