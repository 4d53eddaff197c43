-- What the code answers of a node's own work, as the walk has it. Contracts of steps cite this; no promise does.
use Rattle.std.specs.Prelude.{ℕ, List, Option, Some, None, Result, Ok, Err, option_to_list}
use Rattle.walk.specs.Machine.{Done, halt, done}
use Rattle.probes.specs.declared.marks.Damaged.{Damaged}
use Rattle.works.specs.declared.sibling.Sibling.{Sibling}

-- the number of the node before, or 0 if there is none
abbrev pub before_of : Option Sibling → ℕ
before_of None = 0
before_of (Some sibling) = sibling.node.word

-- the marks that it leaves, the entry that it lists
abbrev pub own_done : Result (Option ℕ) Damaged → List ℕ → Done (List ℕ)
own_done (Ok seen) marks = done marks (option_to_list seen)
own_done (Err damaged) marks = halt
