-- What the entry part of an add comes to, at a node of a sound area: the outcomes, and the rooms that a missing entry takes.
use Prim.Native.Nat.{ℕ, ◌+◌, ◌≤◌, ◌<◌}
use native.Mathlib.Omega.{arith}
use mathlib.Core.Path.{◌≡◌}
use mathlib.Core.Bool.{cond}
use mathlib.Core.List.{List, [], ◌∷◌}
use lib.ListN.{length}
use lib.Dec.{ltb}
use borrow.Author.Tests.{lt-ltb, le-ltb}
use Rattle.words.specs.Words.{up_to_zero}
use Rattle.finding.specs.Look.{value_text}
use Rattle.layout.specs.Layout.{slot_size, data_size, entry_takes, value_takes}
use Rattle.serials.specs.Serial.{long_serial, short_serial}
use Rattle.allocation.specs.Steps.{Step, goes, stops}
use Rattle.sound.specs.Tree.{Value, short, long, Entry, bare, entry, Tree, node}
use Rattle.sound.specs.Sound.{Sound}
use Rattle.sound.specs.Ways.{Dir}
use Rattle.growth.specs.Plug.{plug}
use Rattle.history.specs.Lack.{entry_needs, entry_rooms}
use Rattle.history.proofs.Rooms.{full_number}

-- the serial and value of an entry just laid: it shows the value up to its first zero
unfoldable pub Laid : ℕ → List ℕ → List ℕ → ℕ → Value → Type 0
Laid at name value serial (short slot) = (length value < slot_size) × (serial ≡ short_serial (length value)) × (up_to_zero slot ≡ up_to_zero value)
Laid at name value serial (long far text) = (slot_size ≤ length value) × (serial ≡ long_serial) × (far ≡ at + entry_takes (length name)) × (text ≡ up_to_zero value)

module _ (area : List ℕ) (used : ℕ) (tree : Tree) (way : List Dir) (at : ℕ) (name : List ℕ) (own : Entry) (left below right : Tree) (full value : List ℕ) where
  pub data EntryAdded (step : Step) : Type 0 where
    -- there is an entry: accepted, nothing changed
    kept : (far serial : ℕ) (v : Value) → own ≡ entry far serial full v → step ≡ goes far area [] → EntryAdded step
    -- none, and room for it: it stands where the free bytes began
    added : (b : List ℕ) (serial : ℕ) (v : Value) → own ≡ bare → used + entry_needs full value ≤ data_size area → step ≡ goes used b (entry_rooms full value)
        → Sound b (used + entry_needs full value) (plug tree way (node at name (entry used serial full v) left below right)) → Laid used full value serial v → EntryAdded step
    -- no room for it: nothing changed
    no_entry : own ≡ bare → data_size area < used + entry_takes (length full) → step ≡ stops (full_number (used + entry_takes (length full))) area [] → EntryAdded step
    -- room for the entry, and none for its long value: the used mark has moved, and the tree is the same
    no_value : (b : List ℕ) → own ≡ bare → used + entry_takes (length full) ≤ data_size area → data_size area < used + entry_needs full value
        → step ≡ stops (full_number (used + entry_needs full value)) b (entry_takes (length full) ∷ [])
        → Sound b (used + entry_takes (length full)) tree → EntryAdded step

-- ---- by the length of the value
module _ (name value : List ℕ) where
  pub rooms-short : length value < slot_size → entry_rooms name value ≡ entry_takes (length name) ∷ []
  unfolding entry_rooms
  rooms-short few = rw (lt-ltb (length value) slot_size few)

  pub rooms-long : slot_size ≤ length value → entry_rooms name value ≡ entry_takes (length name) ∷ value_takes (length value) ∷ []
  unfolding entry_rooms
  rooms-long many = rw (le-ltb (length value) slot_size many)

  pub needs-short : length value < slot_size → entry_needs name value ≡ entry_takes (length name)
  unfolding entry_needs
  needs-short few = rw (rooms-short few) (omega arith)

  pub needs-long : slot_size ≤ length value → entry_needs name value ≡ entry_takes (length name) + value_takes (length value)
  unfolding entry_needs
  needs-long many = rw (rooms-long many) (omega arith)

  pub needs-least : entry_takes (length name) ≤ entry_needs name value
  unfolding entry_needs entry_rooms
  needs-least = omega arith

-- ---- an entry just laid shows its value
pub laid_shows : (at : ℕ) (name value : List ℕ) (serial : ℕ) (v : Value) → Laid at name value serial v → value_text v ≡ up_to_zero value
unfolding Laid value_text
laid_shows at name value serial (short slot) h = h.2
laid_shows at name value serial (long far text) h = h.3

-- ---- and its serial is by its value's length
pub laid-serial : (at : ℕ) (name value : List ℕ) (serial : ℕ) (v : Value) → Laid at name value serial v → serial ≡ cond (ltb (length value) slot_size) (short_serial (length value)) long_serial
unfolding Laid
laid-serial at name value serial (short slot) h = rw (lt-ltb (length value) slot_size h.0) h.1
laid-serial at name value serial (long far text) h = rw (le-ltb (length value) slot_size h.0) h.1
