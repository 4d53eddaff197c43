-- Demand 3 in one statement, clause by clause in its own order: of a start, which is a fresh area, and any run of adds and updates by name, refused ones included. The calls
-- of a run are calls on what its beginnings leave, so what is said of every call after every run is said of them, too.
use Rattle.std.specs.Prelude.{ℕ, ◌+◌, ◌-◌, ◌/◌, ◌≤◌, ◌≡◌, List, length}
use Rattle.std.proofs.Math.Option.{none}
use Rattle.layout.specs.Layout.{first_free}
use Rattle.layout.specs.Refusals.{accepted}
use Rattle.property_area.specs.Find.{hit, find_steps}
use Rattle.property_area.specs.Walked.{walked}
use Rattle.property_area.specs.Lookup.{shown}
use Rattle.allocation.specs.Steps.{total}
use Rattle.sound.specs.Tree.{Tree}
use Rattle.sound.specs.Sound.{Sound}
use Rattle.sound.specs.Objects.{objects, Apart}
use Rattle.audit.specs.Check.{used_of}
use Rattle.finding.specs.Look.{node_bytes, summed}
use Rattle.history.specs.History.{Op, after, told, AsTold, given}
use Rattle.history.specs.Calls.{Answers, Undamaged}

pub record Demand (start : List ℕ) (ops : List Op) : Type 0 where
  -- a lookup shows the last accepted update, else the first accepted add, up to its first zero byte; any other name is refused
  -- as missing or malformed
  pub shows : (name : List ℕ) → AsTold (shown (after start ops) name) (told start name ops none)
  -- nothing ever reports damage, or a bad header: no call, whatever its name, value and buffers, at an offset that find answered
  pub undamaged : (number : ℕ) → Answers (after start ops) number → Undamaged number
  -- no objects overlap: the area is sound, and of the linked nodes, entries and long values no two share a byte
  pub tree : Tree
  pub sound : Sound (after start ops) (used_of (after start ops)) tree
  pub apart : Apart (objects tree)
  -- the used mark is exact: 112 and the padded sizes of all objects that were given room, those of refused adds included
  -- (which: `add-rooms`, `add-stays`)
  pub used : used_of (after start ops) ≡ first_free + total (given start ops)
  -- the lookup's cost is exact: found, it tells how many nodes it compared; found or refused, these are at most (used - 112) / 24,
  -- and have at most used - 112 bytes
  pub count : (name : List ℕ) (at compared : ℕ) → find_steps (after start ops) name ≡ accepted (hit at compared)
      → compared ≡ length (walked (after start ops) name)
  pub cost : (name : List ℕ) → length (walked (after start ops) name) ≤ (used_of (after start ops) - first_free) / 24
  pub reads : (name : List ℕ) → summed (node_bytes (after start ops)) (walked (after start ops) name) ≤ used_of (after start ops) - first_free
