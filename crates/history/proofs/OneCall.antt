-- One add or update over any sound area: when it is accepted, and with which number it is refused.
use Prim.Native.Nat.{ℕ, ◌+◌, ◌≤◌, ◌<◌}
use native.Mathlib.Omega.{arith}
use mathlib.Core.Path.{◌≡◌, refl, sym, ap, subst, ◌∙◌}
use mathlib.Core.Logic.{◌≢◌, ◌⊎◌}
use mathlib.Core.Bool.{false, cond}
use mathlib.Core.List.{List}
use lib.Dec.{eqb, ltb}
use lib.ListN.{length}
use Rattle.words.specs.Words.{same_bytes}
use Rattle.words.proofs.Laws.{bool_cases, clash}
use Rattle.words.proofs.Promises.{same-eq}
use Rattle.names.specs.Names.{segments}
use Rattle.layout.specs.declared.refusal.Refusal.{Refusal}
use Rattle.layout.specs.Layout.{word_max, slot_size, data_size}
use Rattle.layout.specs.Refusals.{pass, accepted, refused, number_of, no_refusal, number_in, bytes_in}
use Rattle.layout.proofs.Numbers.{number-some}
use Rattle.property_area.specs.Find.{hit, find_steps}
use Rattle.property_area.specs.Value.{serial_steps}
use Rattle.serials.specs.Serial.{long_serial, short_serial}
use Rattle.allocation.specs.Steps.{Step, stops, outcome, total}
use Rattle.builder.specs.Add.{name_verdict, add_steps}
use Rattle.updates.specs.Update.{update_steps}
use Rattle.sound.specs.Tree.{Value, short, long, bare, entry, Tree}
use Rattle.sound.specs.Sound.{Sound}
use Rattle.property_area.specs.Lookup.{shown}
use Rattle.history.specs.History.{Op, add, update, call, op_name, heeded, told_by, AsTold, rooms_in, op_rooms}
use Rattle.history.specs.Lack.{seek, entry_of, lacks}
use Rattle.history.specs.Stays.{Stays}
use Rattle.finding.proofs.Promises.{find-refusals}
use Rattle.history.proofs.Rooms.{full_number, full-number, which-number}
use Rattle.history.proofs.Undamaged.{Mild, room-mild, found-mild}
use Rattle.history.proofs.Leading.{finds-own}
use Rattle.history.proofs.Naming.{not-refused}
use Rattle.history.proofs.EntryAdded.{laid-serial}
use Rattle.history.proofs.AddSound.{AddDone, bad_name, no_room, stays, adds, add-sound}
use Rattle.history.proofs.UpdateSound.{Stands, UpdateDone, unfound, long_entry, too_long, done, update-sound}
use Rattle.history.proofs.Entries.{entry-serial, entry_found}
use Rattle.history.proofs.Next.{moved, next}
use Rattle.history.proofs.Run.{matched-shows, shown-matches}

module _ (area : List ℕ) (used : ℕ) (tree : Tree) (sound : Sound area used tree) (name value : List ℕ) where
  -- an add whose name is neither 1 nor 2 is accepted if used plus all missing padded sizes is at most data size
  pub add-accepted : name_verdict name ≡ pass → used + lacks tree name value ≤ data_size area → number_in (call area (add name value)) ≡ no_refusal
  add-accepted named fits = by (add-sound area used tree sound name value)
    where
      by : AddDone area used tree name value (add_steps area name value) → number_in (outcome (add_steps area name value)) ≡ no_refusal
      by (bad_name why e is) = not-refused name named why e
      by (no_room wanted b rooms grown now e over within is S same left) = absurd (omega (arith, over, within, fits))
      by (stays at b rooms grown now serial v e room is sum has S same) = ap (λ (s : Step). number_in (outcome s)) is
      by (adds at b rooms grown now serial v e room is sum has S new laid others) = ap (λ (s : Step). number_in (outcome s)) is

  -- and refused if not: with 4 or 9, and 9 only where that sum passes 32 bits
  pub add-refused : name_verdict name ≡ pass → data_size area < used + lacks tree name value
      → (number_in (call area (add name value)) ≡ number_of Refusal.NoRoom) ⊎ ((number_in (call area (add name value)) ≡ number_of Refusal.TooLarge) × (word_max < used + lacks tree name value))
  add-refused named over = by (add-sound area used tree sound name value)
    where
      by : AddDone area used tree name value (add_steps area name value)
          → (number_in (outcome (add_steps area name value)) ≡ number_of Refusal.NoRoom) ⊎ ((number_in (outcome (add_steps area name value)) ≡ number_of Refusal.TooLarge) × (word_max < used + lacks tree name value))
      by (bad_name why e is) = not-refused name named why e
      by (no_room wanted b rooms grown now e full within is S same left) = which-number wanted _ (used + lacks tree name value) within (ap (λ (s : Step). number_in (outcome s)) is)
      by (stays at b rooms grown now serial v e room is sum has S same) = absurd (omega (arith, over, room))
      by (adds at b rooms grown now serial v e room is sum has S new laid others) = absurd (omega (arith, over, room))

  -- an accepted add gives room to what is missing and to nothing else
  pub add-rooms : name_verdict name ≡ pass → used + lacks tree name value ≤ data_size area → total (op_rooms area (add name value)) ≡ lacks tree name value
  add-rooms named fits = by (add-sound area used tree sound name value)
    where
      by : AddDone area used tree name value (add_steps area name value) → total (rooms_in (add_steps area name value)) ≡ lacks tree name value
      by (bad_name why e is) = not-refused name named why e
      by (no_room wanted b rooms grown now e over within is S same left) = absurd (omega (arith, over, within, fits))
      by (stays at b rooms grown now serial v e room is sum has S same) = ap (λ (s : Step). total (rooms_in s)) is ∙ sum
      by (adds at b rooms grown now serial v e room is sum has S new laid others) = ap (λ (s : Step). total (rooms_in s)) is ∙ sum

  -- a refused one leaves the nodes that it linked, and used includes them
  pub add-stays : name_verdict name ≡ pass → number_in (call area (add name value)) ≢ no_refusal
      → (now : Tree) × Sound (bytes_in (call area (add name value))) (used + total (op_rooms area (add name value))) now × Stays area used tree name value (op_rooms area (add name value)) now
  add-stays named refuses = by (add-sound area used tree sound name value)
    where
      by : AddDone area used tree name value (add_steps area name value)
          → (now : Tree) × Sound (bytes_in (outcome (add_steps area name value))) (used + total (rooms_in (add_steps area name value))) now × Stays area used tree name value (rooms_in (add_steps area name value)) now
      by (bad_name why e is) = not-refused name named why e
      by (no_room wanted b rooms grown now e over within is S same left) =
          rw is (now, subst (λ (k : ℕ). Sound b k now) (moved area used tree sound name value (stops (full_number wanted) b rooms) is b grown now refl S) S, left)
      by (stays at b rooms grown now serial v e room is sum has S same) = absurd (refuses (ap (λ (s : Step). number_in (outcome s)) is))
      by (adds at b rooms grown now serial v e room is sum has S new laid others) = absurd (refuses (ap (λ (s : Step). number_in (outcome s)) is))

  -- an accepted one of a name that was not found lays down an entry: find finds it, and its serial is a new entry's
  pub add-serial : number_in (call area (add name value)) ≡ no_refusal → (number : ℕ) → find_steps area name ≡ refused number
      → (at : ℕ) × (count : ℕ) × (find_steps (bytes_in (call area (add name value))) name ≡ accepted (hit at count))
      × (serial_steps (bytes_in (call area (add name value))) at ≡ accepted (cond (ltb (length value) slot_size) (short_serial (length value)) long_serial))
  add-serial fine number missing = by (add-sound area used tree sound name value)
    where
      by : AddDone area used tree name value (add_steps area name value)
          → (at : ℕ) × (count : ℕ) × (find_steps (bytes_in (outcome (add_steps area name value))) name ≡ accepted (hit at count))
          × (serial_steps (bytes_in (outcome (add_steps area name value))) at ≡ accepted (cond (ltb (length value) slot_size) (short_serial (length value)) long_serial))
      by (bad_name why e is) = absurd (number-some why (sym (ap (λ (s : Step). number_in (outcome s)) is) ∙ fine))
      by (no_room wanted b rooms grown now e over within is S same left) =
          let mild = room-mild (full_number wanted) (full-number wanted) in
          absurd (number-some mild.0 (sym mild.1 ∙ sym (ap (λ (s : Step). number_in (outcome s)) is) ∙ fine))
      by (stays at b rooms grown now serial v e room is sum has S same) =
          let f = entry_found area used tree sound name at serial name v has in
          absurd (let q : accepted (hit at f.0) ≡ refused number = sym f.1 ∙ missing in clash cc)
      by (adds at b rooms grown now serial v e room is sum has S new laid others) =
          let f = entry_found b grown now S name at serial name v new in
          rw is (at, f.0, f.1, entry-serial b grown now S name at serial name v new ∙ ap accepted (laid-serial at name value serial v laid))

  -- an entry that stands at a node is its name's
  stands : (far serial : ℕ) (v : Value) → Stands tree far serial name v → entry_of tree name ≡ entry far serial name v
  stands far serial v here = ap (λ (n : List ℕ). seek (segments n) bare tree) here.spelled
      ∙ finds-own here.at here.segment (entry far serial name v) here.left here.below here.right here.way tree here.is sound.rule

  -- an update of a short entry with a value under 92 bytes is accepted
  pub update-accepted : (at serial : ℕ) (slot : List ℕ) → entry_of tree name ≡ entry at serial name (short slot) → length value < slot_size → number_in (call area (update name value)) ≡ no_refusal
  update-accepted at serial slot has few = by (update-sound area used tree sound name value)
    where
      by : UpdateDone area used tree name value (update_steps area name value) → number_in (update_steps area name value) ≡ no_refusal
      by (unfound number found is) =
          let f = entry_found area used tree sound name at serial name (short slot) has in
          absurd (let q : accepted (hit at f.0) ≡ refused number = sym f.1 ∙ found in clash cc)
      by (long_entry far s place text here is) =
          absurd (let q : entry at serial name (short slot) ≡ entry far s name (long place text) = sym has ∙ stands far s (long place text) here in clash cc)
      by (too_long far s other here over is) = absurd (omega (arith, over, few))
      by (done far s other b fresh here less is S e) = ap number_in is

  -- and no other
  pub update-only : number_in (call area (update name value)) ≡ no_refusal
      → (at : ℕ) × (serial : ℕ) × (slot : List ℕ) × (entry_of tree name ≡ entry at serial name (short slot)) × (length value < slot_size)
  update-only fine = by (update-sound area used tree sound name value)
    where
      -- a refusal's number is not 0
      refused-not : (number : ℕ) → Mild number → number_in (update_steps area name value) ≡ number → ⊥
      refused-not number mild e = number-some mild.0 (sym mild.1 ∙ sym e ∙ fine)

      by : UpdateDone area used tree name value (update_steps area name value)
          → (at : ℕ) × (serial : ℕ) × (slot : List ℕ) × (entry_of tree name ≡ entry at serial name (short slot)) × (length value < slot_size)
      by (unfound number found is) = absurd (refused-not number (found-mild number (find-refusals area used tree sound name number found)) (ap number_in is))
      by (long_entry far s place text here is) = absurd (number-some Refusal.LongEntry (sym (ap number_in is) ∙ fine))
      by (too_long far s other here over is) = absurd (number-some Refusal.TooLong (sym (ap number_in is) ∙ fine))
      by (done far s slot b fresh here few is S e) = (far, s, slot, stands far s (short slot) here, few)

-- a call changes what its own name shows, and no other's
pub others-kept : (area : List ℕ) (used : ℕ) (tree : Tree) → Sound area used tree → (op : Op) (other : List ℕ) → other ≢ op_name op
    → AsTold (shown (bytes_in (call area op)) other) (told_by (shown area other))
others-kept area used tree sound op other differs =
    let n = next area used tree sound op in
    let t = n.tells other (told_by (shown area other)) (shown-matches area used tree sound other (entry_of tree other) refl) in
    matched-shows (bytes_in (call area op)) n.grown n.now n.sound other (entry_of n.now other) (told_by (shown area other)) refl (rw unheeded at t)
  where
    apart : same_bytes (op_name op) other ≡ false
    apart = bool_cases (same_bytes (op_name op) other) (λ t. absurd (differs (sym (same-eq (op_name op) other t)))) (λ f. f)

    unheeded : heeded area other op ≡ false
    unheeded = bool_cases (eqb (number_in (call area op)) no_refusal) (λ t. rw (t, apart)) (λ f. rw f)
