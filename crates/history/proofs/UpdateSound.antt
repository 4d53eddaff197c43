-- An update by name in a sound area: it comes to one of these outcomes, and the area stays sound.
use Prim.Native.Nat.{ℕ, ◌+◌, ◌≤◌, ◌<◌}
use native.Mathlib.Omega.{arith}
use native.Mathlib.Decide.{dec_lt}
use mathlib.Core.Path.{◌≡◌, refl}
use mathlib.Core.List.{List, [], ◌++◌}
use lib.ListN.{length}
use Rattle.words.specs.Words.{up_to_zero}
use Rattle.words.specs.Stores.{run}
use Rattle.words.proofs.Laws.{clash}
use Rattle.layout.specs.declared.refusal.Refusal.{Refusal}
use Rattle.layout.specs.Layout.{entry_size, serial_field, slot_size, first_free, byte_of, place_of, entry_takes}
use Rattle.layout.specs.Refusals.{Answer, accepted, refused, Outcome, leaves, accept_leaving, refuse_leaving}
use Rattle.serials.specs.Serial.{updated_serial}
use Rattle.property_info.proofs.Laws.{long-is}
use Rattle.property_area.specs.Find.{Hit, hit, by_hit, find_steps}
use Rattle.updates.specs.Update.{update_stores, update_entry, update_steps}
use Rattle.updates.proofs.Laws.{value-long}
use Rattle.sound.specs.Tree.{Value, short, long, Entry, entry, Tree, leaf, node}
use Rattle.sound.specs.Sound.{EntryAt, TreeAt, ValueRule, EntryRule, TreeRule, Sound}
use Rattle.sound.specs.Ways.{Dir, reached}
use Rattle.growth.specs.Plug.{plug}
use Rattle.growth.proofs.Rules.{prefix_at, rule-there}
use Rattle.growth.proofs.SoundPut.{sound-slot}
use Rattle.finding.proofs.NodeReads.{Standing, entry-lies, own_room}
use Rattle.finding.proofs.Spelling.{own_of}
use Rattle.finding.proofs.Promises.{found-own}
use Rattle.history.proofs.Updated.{ShortUpdated, is-short, update-tests, updated}
use Rattle.history.proofs.EntryHung.{node-stands}

-- ---- the node that has an entry with this name
pub record Stands (tree : Tree) (far serial : ℕ) (name : List ℕ) (v : Value) : Type 0 where
  pub way : List Dir
  pub at : ℕ
  pub segment : List ℕ
  pub left : Tree
  pub below : Tree
  pub right : Tree
  pub is : reached tree way ≡ node at segment (entry far serial name v) left below right
  pub spelled : name ≡ prefix_at [] tree way ++ segment

own-stands : (tree : Tree) (way : List Dir) (far serial : ℕ) (name : List ℕ) (v : Value) → TreeRule [] tree
    → own_of (reached tree way) ≡ entry far serial name v → Stands tree far serial name v
unfolding TreeRule EntryRule
own-stands tree way far serial name v rule own = by (reached tree way) refl own
  where
    by : (end : Tree) → reached tree way ≡ end → own_of end ≡ entry far serial name v → Stands tree far serial name v
    by leaf there own = clash cc
    by (node at segment held left below right) there own =
        let is : reached tree way ≡ node at segment (entry far serial name v) left below right = rw own at there in
        record {
          way = way;
          at = at;
          segment = segment;
          left = left;
          below = below;
          right = right;
          is = is;
          spelled = (rule-there way [] tree at segment (entry far serial name v) left below right is rule).1.0;
        }

module _ (area : List ℕ) (used : ℕ) (tree : Tree) (name value : List ℕ) where
  pub data UpdateDone (outcome : Outcome) : Type 0 where
    -- find refuses: its number, and nothing changed
    unfound : (number : ℕ) → find_steps area name ≡ refused number → outcome ≡ leaves number area → UpdateDone outcome
    -- the entry is long
    long_entry : (far serial place : ℕ) (text : List ℕ) → Stands tree far serial name (long place text) → outcome ≡ refuse_leaving area Refusal.LongEntry → UpdateDone outcome
    -- it is short, and the value is not
    too_long : (far serial : ℕ) (slot : List ℕ) → Stands tree far serial name (short slot) → slot_size ≤ length value
        → outcome ≡ refuse_leaving area Refusal.TooLong → UpdateDone outcome
    -- it shows the value up to its first zero
    done : (far serial : ℕ) (slot b fresh : List ℕ) (here : Stands tree far serial name (short slot)) → length value < slot_size
        → outcome ≡ accept_leaving b
        → Sound b used (plug tree here.way
        (node here.at here.segment (entry far (updated_serial serial (length value)) name (short fresh)) here.left here.below here.right))
        → up_to_zero fresh ≡ up_to_zero value → UpdateDone outcome

module _ (area : List ℕ) (used : ℕ) (tree : Tree) (sound : Sound area used tree) (name value : List ℕ) where
  -- ---- a long entry: 7
  long-refused : (far serial place : ℕ) (text : List ℕ) → Stands tree far serial name (long place text)
      → update_entry area value far ≡ refuse_leaving area Refusal.LongEntry
  unfolding update_entry TreeAt EntryAt TreeRule EntryRule ValueRule
  long-refused far serial place text here =
      let stands = node-stands area used tree here.way here.at here.segment (entry far serial name (long place text)) here.left here.below here.right
      here.is sound in
      rw (long-is area far serial stands.1.bytes.1.0 stands.1.rule.1.2.0)

  -- ---- a short one
  module _ (far serial : ℕ) (slot : List ℕ) (here : Stands tree far serial name (short slot)) where
    abbrev own : Entry
    own = entry far serial name (short slot)

    stands : (prefix : List ℕ) × Standing area used prefix (node here.at here.segment own here.left here.below here.right)
    stands = node-stands area used tree here.way here.at here.segment own here.left here.below here.right here.is sound

    held : EntryAt area own
    unfolding TreeAt
    held = stands.1.bytes.1

    rule : ValueRule far serial name (short slot)
    unfolding TreeRule EntryRule
    rule = stands.1.rule.1.2

    lies : (first_free ≤ far) × (far + entry_takes (length name) ≤ used)
    lies =
        entry-lies used far serial name (short slot) sound.front.low
        (own_room area used stands.0 here.at here.segment own here.left here.below here.right stands.1)

    fits : byte_of far + entry_size ≤ length area
    fits = omega (arith, lies, sound.front.high, sound.front.low)

    short-refused : slot_size ≤ length value → update_entry area value far ≡ refuse_leaving area Refusal.TooLong
    unfolding update_entry
    short-refused many = rw (is-short area far serial name slot held rule lies.0 fits, ← value-long value many)

    whole : place_of far serial_field ≡ byte_of far
    whole = omega arith

    short-done : length value < slot_size → UpdateDone area used tree name value (update_entry area value far)
    unfolding EntryAt ValueRule
    short-done few =
        let new : ShortUpdated area far serial name value (run area (update_stores area far value)) = updated area far serial name slot held rule lies.0 fits value few in
        done far serial slot (run area (update_stores area far value)) new.entry.slot here few (update-tests area far serial name slot held rule lies.0 fits value few)
        (sound-slot area used tree here.way here.at here.segment far serial name slot here.left here.below here.right here.is sound
        (run area (update_stores area far value)) (updated_serial serial (length value)) new.entry.slot new.rest.size
        (λ i z y. new.rest.kept i (rw whole (omega arith))) new.entry.bytes.0 new.entry.rule.0 new.entry.bytes.2 new.entry.rule.1)
        new.entry.value_text

  -- ---- what is found
  entry_done : (far serial : ℕ) (v : Value) → Stands tree far serial name v → UpdateDone area used tree name value (update_entry area value far)
  entry_done far serial (long place text) here = long_entry far serial place text here (long-refused far serial place text here)
  entry_done far serial (short slot) here = by (dec_lt (length value) slot_size)
    where
      by : Dec (length value < slot_size) → UpdateDone area used tree name value (update_entry area value far)
      by (yes p) = short-done far serial slot here p
      by (no p) = too_long far serial slot here (omega arith) (short-refused far serial slot here (omega arith))

  pub update-sound : UpdateDone area used tree name value (update_steps area name value)
  unfolding update_steps
  update-sound = by (find_steps area name) refl
    where
      by : (answer : Answer Hit) → find_steps area name ≡ answer → UpdateDone area used tree name value (by_hit (λ number. leaves number area) (update_entry area value) answer)
      by (refused number) e = unfound number e refl
      by (accepted (hit far count)) e =
          let found = found-own area used tree sound name far count e in
          entry_done far found.1 found.2 (own-stands tree found.0 far found.1 name found.2 sound.rule found.3)
      -- ---- so no answer tells of damage
