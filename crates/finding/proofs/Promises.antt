-- What find, value, name and serial promise in a sound area, over its tree: find is the tree's search, so each entry is found by its own name,
-- nothing else is found, little is compared and read, and no answer tells of damage. The proofs stand in FindLook, Refusing, Reading and Found.
use Prim.Native.Nat.{ℕ, ◌-◌, ◌*◌, ◌≤◌}
use native.Mathlib.Omega.{arith}
use mathlib.Core.Path.{◌≡◌, sym, ◌∙◌}
use mathlib.Core.Logic.{◌⊎◌}
use mathlib.Core.List.{List}
use lib.ListN.{length}
use Rattle.names.specs.Names.{segments}
use Rattle.layout.specs.declared.refusal.Refusal.{Refusal}
use Rattle.layout.specs.Layout.{first_free, byte_of}
use Rattle.layout.specs.Refusals.{accepted, refused, number_of}
use Rattle.trie.proofs.HeaderLaws.{header-max}
use Rattle.property_area.specs.Find.{hit, find_steps}
use Rattle.property_area.specs.Walked.{walked}
use Rattle.property_area.proofs.Promises.{find-counted}
use Rattle.property_area.specs.Value.{bytes, value_steps, name_steps, part_or_none, serial_steps}
use Rattle.sound.specs.Tree.{Value, bare, entry, Tree, listed, inside}
use Rattle.sound.specs.Sound.{Has, Sound}
use Rattle.sound.specs.Ways.{Dir, reached}
use Rattle.finding.specs.Look.{look, value_text, node_bytes, node_cover, summed}
use Rattle.finding.proofs.Spelling.{own_of}
use Rattle.finding.proofs.Refusing.{look-refuses}
use Rattle.finding.proofs.FindLook as finds
use Rattle.finding.proofs.Reading as reading
use Rattle.finding.proofs.Found as found

-- ---- find over the bytes is the tree's lookup: same answer, same count
pub find-look : (area name : List ℕ) (used : ℕ) (tree : Tree) → Sound area used tree → find_steps area name ≡ look (segments name) bare tree 0
find-look = finds.find-look

-- ---- the entry of a node is listed
pub own-listed : (way : List Dir) (tree : Tree) (at serial : ℕ) (name : List ℕ) (value : Value) → own_of (reached tree way) ≡ entry at serial name value → Has at (listed tree)
own-listed = found.own-listed

module _ (area : List ℕ) (used : ℕ) (tree : Tree) (sound : Sound area used tree) where
  -- ---- find compares at most (used - 112) / 24 nodes, whatever it answers, since a node takes at least 24 bytes
  pub walk-bound : (name : List ℕ) → 24 * length (walked area name) ≤ used - first_free
  walk-bound = reading.walk-bound area used tree sound

  -- ---- so the count that a hit tells is exact
  pub find-count : (name : List ℕ) (at count : ℕ) → find_steps area name ≡ accepted (hit at count) → count ≡ length (walked area name)
  find-count name at count e =
      omega (arith, find-counted area name at count e, walk-bound name, sound.front.high, header-max area sound.front.header)

  -- ---- the nodes that it compares, each with its name and zero, are apart: a byte is one's at most, and lies between 112 and used
  pub walk-apart : (name : List ℕ) (i : ℕ) → summed (node_cover area i) (walked area name) ≤ inside (byte_of first_free) (used - first_free) i
  walk-apart = reading.walk-apart area used tree sound

  -- ---- so they have at most used - 112 bytes, found or refused
  pub walk-reads : (name : List ℕ) → summed (node_bytes area) (walked area name) ≤ used - first_free
  walk-reads = reading.walk-reads area used tree sound

  -- ---- the only refusals are 3 and 2
  pub find-refusals : (name : List ℕ) (number : ℕ) → find_steps area name ≡ refused number → (number ≡ number_of Refusal.Missing) ⊎ (number ≡ number_of Refusal.EmptySegment)
  find-refusals name number e = rw (sym (find-look area name used tree sound) ∙ e) at (look-refuses (segments name) bare tree 0)

  -- ---- every entry is found by its own name
  pub own-found : (way : List Dir) (at serial : ℕ) (name : List ℕ) (value : Value) → own_of (reached tree way) ≡ entry at serial name value
      → (count : ℕ) × (find_steps area name ≡ accepted (hit at count))
  own-found = found.own-found area used tree sound

  -- ---- what is found is an entry of the tree, with exactly that name, and is listed
  pub found-own : (name : List ℕ) (at count : ℕ) → find_steps area name ≡ accepted (hit at count)
      → (way : List Dir) × (serial : ℕ) × (value : Value) × (own_of (reached tree way) ≡ entry at serial name value)
  found-own = found.found-own area used tree sound

  pub found-listed : (name : List ℕ) (at count : ℕ) → find_steps area name ≡ accepted (hit at count) → Has at (listed tree)
  found-listed name at count e = let f = found-own name at count e in own-listed f.0 tree at f.1 name f.2 f.3

  -- ---- an entry's value is the tree's
  pub value-shown : (way : List Dir) (at serial : ℕ) (name : List ℕ) (value : Value) → own_of (reached tree way) ≡ entry at serial name value
      → (from : ℕ) × (to : ℕ) × (value_steps area at ≡ accepted (bytes from to)) × (part_or_none area (value_steps area at) ≡ value_text value)
  value-shown = found.value-shown area used tree sound

  -- ---- and its name is its own
  pub name-shown : (way : List Dir) (at serial : ℕ) (name : List ℕ) (value : Value) → own_of (reached tree way) ≡ entry at serial name value
      → (from : ℕ) × (to : ℕ) × (name_steps area at ≡ accepted (bytes from to)) × (part_or_none area (name_steps area at) ≡ name)
  name-shown = found.name-shown area used tree sound

  -- ---- and its serial is the tree's
  pub serial-shown : (way : List Dir) (at serial : ℕ) (name : List ℕ) (value : Value) → own_of (reached tree way) ≡ entry at serial name value → serial_steps area at ≡ accepted serial
  serial-shown = found.serial-shown area used tree sound
