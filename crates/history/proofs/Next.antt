-- One call over a sound area: sound again, never damage, the used mark moved by the rooms given, and every name's entry as the call says.
use Prim.Native.Nat.{ℕ, ◌+◌}
use native.Mathlib.Omega.{arith}
use mathlib.Core.Path.{◌≡◌, refl, sym, ap, subst, ◌∙◌}
use mathlib.Core.Logic.{◌≢◌}
use mathlib.Core.Bool.{Bool, false, cond, ◌&&◌, false≢true}
use mathlib.Core.List.{List, [], ◌∷◌}
use mathlib.Core.Option.{Option, none, some}
use lib.ListN.{length}
use lib.Dec.{eqb}
use Rattle.finding.specs.Look.{value_text}
use Rattle.words.specs.Words.{same_bytes, up_to_zero}
use Rattle.words.proofs.Laws.{bool_cases, clash}
use Rattle.words.proofs.Promises.{same-eq, same_self}
use Rattle.names.specs.Names.{segments}
use Rattle.layout.specs.declared.refusal.Refusal.{Refusal}
use Rattle.layout.specs.Layout.{used_field, header_word}
use Rattle.layout.specs.Refusals.{number_of, no_refusal, Outcome, leaves, number_in, bytes_in}
use Rattle.serials.specs.Serial.{updated_serial}
use Rattle.counters.specs.Distance.{serial_after}
use Rattle.allocation.specs.Steps.{Step, goes, stops, outcome, total}
use Rattle.builder.specs.Add.{add_steps}
use Rattle.builder.proofs.Used.{Moves, Moved, used-moves}
use Rattle.updates.specs.Update.{update_steps}
use Rattle.sound.specs.Tree.{Value, short, Entry, bare, entry, Tree, node}
use Rattle.sound.specs.Sound.{Sound}
use Rattle.growth.specs.Plug.{plug}
use Rattle.finding.proofs.Promises.{find-refusals}
use Rattle.history.specs.History.{Op, add, update, call, op_name, hear, heeded, size_in, rooms_in, op_rooms}
use Rattle.history.specs.Lack.{seek, entry_of}
use Rattle.history.specs.Calls.{Undamaged}
use Rattle.history.proofs.Rooms.{full_number, full-number}
use Rattle.history.proofs.Undamaged.{Mild, mild, undamaged, not-accepted, room-mild, found-mild}
use Rattle.history.proofs.Leading.{finds-own, finds-new, finds-others}
use Rattle.history.proofs.Naming.{verdict-refused}
use Rattle.history.proofs.EntryAdded.{laid_shows}
use Rattle.history.proofs.AddSound.{AddDone, bad_name, no_room, stays, adds, add-sound}
use Rattle.history.proofs.UpdateSound.{Stands, UpdateDone, unfound, long_entry, too_long, done, update-sound}

-- what is told of a name, and the entry it has
abbrev pub Matches : Entry → Option (List ℕ) → Type 0
Matches bare none = Unit {0}
Matches bare (some value) = ⊥
Matches (entry at serial full v) none = ⊥
Matches (entry at serial full v) (some value) = value_text v ≡ value

-- an entry stays where it is, and its serial is that after some updates
pub record Lasts (before now : Entry) (sizes : List ℕ) : Type 0 where
  pub lasts : (at serial : ℕ) (name : List ℕ) (v : Value) → before ≡ entry at serial name v → (w : Value) × (now ≡ entry at (serial_after serial sizes) name w)

lasts-same : (before now : Entry) → now ≡ before → Lasts before now []
unfolding serial_after
lasts-same before now e = record { lasts = λ at serial name v h. (v, e ∙ h) }

-- what a call leaves of a sound area
pub record Next (area : List ℕ) (used : ℕ) (tree : Tree) (op : Op) : Type 0 where
  pub grown : ℕ
  pub now : Tree
  pub sound : Sound (bytes_in (call area op)) grown now
  pub mark : grown ≡ used + total (op_rooms area op)
  pub whole : Undamaged (number_in (call area op))
  pub tells : (name : List ℕ) (before : Option (List ℕ)) → Matches (entry_of tree name) before → Matches (entry_of now name) (cond (heeded area name op) (hear op before) before)
  pub lasts : (name : List ℕ) → Lasts (entry_of tree name) (entry_of now name) (cond (heeded area name op) (size_in op) [])

-- ---- a call that is refused, or changes no name's entry
module _ (area : List ℕ) (used : ℕ) (tree : Tree) (op : Op) (number : ℕ) (b : List ℕ) (is : call area op ≡ leaves number b) (grown : ℕ) (now : Tree)
    (sound : Sound b grown now) (mark : grown ≡ used + total (op_rooms area op)) (mild : Mild number) (same : (name : List ℕ) → entry_of now name ≡ entry_of tree name) where
  next-refused : Next area used tree op
  next-refused =
      let unheeded : (name : List ℕ) → heeded area name op ≡ false = λ name. ap (λ (o : Outcome). eqb (number_in o) no_refusal && same_bytes (op_name op) name) is ∙ ap (λ (t : Bool). t && same_bytes (op_name op) name) (not-accepted number mild) in
      record {
        grown = grown;
        now = now;
        sound = rw is sound;
        mark = mark;
        whole = rw is (undamaged number mild);
        tells = λ name before m. rw (unheeded name, same name) m;
        lasts = λ name. rw (unheeded name) (lasts-same (entry_of tree name) (entry_of now name) (same name));
      }

-- ---- an accepted call of one name
module _ (area : List ℕ) (used : ℕ) (tree : Tree) (op : Op) (b : List ℕ) (is : call area op ≡ leaves no_refusal b) (grown : ℕ) (now : Tree)
    (sound : Sound b grown now) (mark : grown ≡ used + total (op_rooms area op))
    (others : (other : List ℕ) → other ≢ op_name op → entry_of now other ≡ entry_of tree other)
    (own : (before : Option (List ℕ)) → Matches (entry_of tree (op_name op)) before → Matches (entry_of now (op_name op)) (hear op before))
    (lasting : Lasts (entry_of tree (op_name op)) (entry_of now (op_name op)) (size_in op)) where
  heeds : (name : List ℕ) → heeded area name op ≡ same_bytes (op_name op) name
  heeds name = ap (λ (o : Outcome). eqb (number_in o) no_refusal && same_bytes (op_name op) name) is

  differ : (name : List ℕ) → same_bytes (op_name op) name ≡ false → name ≢ op_name op
  differ name f e = false≢true (sym f ∙ ap (same_bytes (op_name op)) e ∙ same_self (op_name op))

  next-accepted : Next area used tree op
  next-accepted = record {
    grown = grown;
    now = now;
    sound = rw is sound;
    mark = mark;
    whole = rw is ((λ z. omega (arith, z)), (λ z. omega (arith, z)));
    tells = λ name before m. bool_cases (same_bytes (op_name op) name)
        (λ t. rw (heeds name, t) (subst (λ (n : List ℕ). Matches (entry_of now n) (hear op before)) (same-eq (op_name op) name t)
        (own before (subst (λ (n : List ℕ). Matches (entry_of tree n) before) (sym (same-eq (op_name op) name t)) m))))
        (λ f. rw (heeds name, f, others name (differ name f)) m);
    lasts = λ name. bool_cases (same_bytes (op_name op) name)
        (λ t. rw (heeds name, t) (subst (λ (n : List ℕ). Lasts (entry_of tree n) (entry_of now n) (size_in op)) (same-eq (op_name op) name t) lasting))
        (λ f. rw (heeds name, f) (lasts-same (entry_of tree name) (entry_of now name) (others name (differ name f))));
  }

-- ---- an add
module _ (area : List ℕ) (used : ℕ) (tree : Tree) (sound : Sound area used tree) (name value : List ℕ) where
  -- the used mark, by the rooms given
  pub moved : (step : Step) → add_steps area name value ≡ step → (b : List ℕ) (grown : ℕ) (now : Tree) → bytes_in (outcome step) ≡ b → Sound b grown now → grown ≡ used + total (rooms_in step)
  moved (goes at after rooms) e b grown now h S =
      let m : Moves area after rooms = subst (λ (s : Step). Moved area s) e (used-moves area name value) in
      sym S.front.mark ∙ ap (λ (x : List ℕ). header_word x used_field) (sym h) ∙ m.used ∙ ap (λ (k : ℕ). k + total rooms) sound.front.mark
  moved (stops number after rooms) e b grown now h S =
      let m : Moves area after rooms = subst (λ (s : Step). Moved area s) e (used-moves area name value) in
      sym S.front.mark ∙ ap (λ (x : List ℕ). header_word x used_field) (sym h) ∙ m.used ∙ ap (λ (k : ℕ). k + total rooms) sound.front.mark

  marked : (step : Step) → add_steps area name value ≡ step → (b : List ℕ) (grown : ℕ) (now : Tree) → bytes_in (outcome step) ≡ b → Sound b grown now
      → grown ≡ used + total (op_rooms area (add name value))
  marked step e b grown now h S = moved step e b grown now h S ∙ ap (λ (s : Step). used + total (rooms_in s)) (sym e)

  is-of : (step : Step) → add_steps area name value ≡ step → call area (add name value) ≡ outcome step
  is-of step e = ap outcome e

  hears-kept : (e : Entry) (at serial : ℕ) (v : Value) (before : Option (List ℕ)) → e ≡ entry at serial name v → Matches e before → Matches e (hear (add name value) before)
  hears-kept bare at serial v before h m = clash cc
  hears-kept (entry far s full w) at serial v none h m = absurd m
  hears-kept (entry far s full w) at serial v (some x) h m = m

  hears-new : (e f : Entry) (at serial : ℕ) (v : Value) (before : Option (List ℕ)) → e ≡ bare → f ≡ entry at serial name v → value_text v ≡ up_to_zero value → Matches e before
      → Matches f (hear (add name value) before)
  hears-new bare f at serial v none h k s m = rw k s
  hears-new bare f at serial v (some x) h k s m = absurd m
  hears-new (entry far q full w) f at serial v before h k s m = clash cc

  by-add : AddDone area used tree name value (add_steps area name value) → Next area used tree (add name value)
  by-add (bad_name why e is) =
      let v = verdict-refused name why e in
      next-refused area used tree (add name value) (number_of why) area (is-of _ is) used tree sound (marked _ is area used tree refl sound) (why, refl, v.0, v.1) (λ n. refl)
  by-add (no_room wanted b rooms grown now e over within is S same left) =
      next-refused area used tree (add name value) (full_number wanted) b (is-of _ is) grown now S (marked _ is b grown now refl S)
      (room-mild (full_number wanted) (full-number wanted)) (λ n. same (segments n) bare)
  by-add (stays at b rooms grown now serial v e fits is sum has S same) =
      next-accepted area used tree (add name value) b (is-of _ is) grown now S (marked _ is b grown now refl S) (λ other d. same (segments other) bare)
      (λ before m. subst (λ (x : Entry). Matches x (hear (add name value) before)) (sym (same (segments name) bare)) (hears-kept (entry_of tree name) at serial v before has m))
      (lasts-same (entry_of tree name) (entry_of now name) (same (segments name) bare))
  by-add (adds at b rooms grown now serial v e fits is sum has S new laid others) =
      next-accepted area used tree (add name value) b (is-of _ is) grown now S (marked _ is b grown now refl S) others
      (λ before m. hears-new (entry_of tree name) (entry_of now name) at serial v before has new (laid_shows at name value serial v laid) m)
      (record { lasts = λ far s full w h. absurd (let q : bare ≡ entry far s full w = sym has ∙ h in clash cc) })

  pub next-add : Next area used tree (add name value)
  next-add = by-add (add-sound area used tree sound name value)

-- ---- an update by name
module _ (area : List ℕ) (used : ℕ) (tree : Tree) (sound : Sound area used tree) (name value : List ℕ) where
  idle : used ≡ used + total (op_rooms area (update name value))
  idle = omega arith

  quiet : (number : ℕ) → update_steps area name value ≡ leaves number area → Mild number → Next area used tree (update name value)
  quiet number is mild = next-refused area used tree (update name value) number area is used tree sound idle mild (λ n. refl)

  hears-update : (e : Entry) (at serial : ℕ) (fresh : List ℕ) (before : Option (List ℕ)) → e ≡ entry at serial name (short fresh) → up_to_zero fresh ≡ up_to_zero value
      → Matches e (hear (update name value) before)
  unfolding value_text
  hears-update e at serial fresh before h s = rw h s

  module _ (far serial : ℕ) (slot b fresh : List ℕ) (here : Stands tree far serial name (short slot)) (is : update_steps area name value ≡ leaves no_refusal b) where
    abbrev new : Entry
    new = entry far (updated_serial serial (length value)) name (short fresh)

    abbrev now : Tree
    now = plug tree here.way (node here.at here.segment new here.left here.below here.right)

    old-is : entry_of tree name ≡ entry far serial name (short slot)
    old-is = ap (λ (n : List ℕ). seek (segments n) bare tree) here.spelled
        ∙ finds-own here.at here.segment (entry far serial name (short slot)) here.left here.below here.right here.way tree here.is sound.rule

    new_is : entry_of now name ≡ new
    new_is = ap (λ (n : List ℕ). seek (segments n) bare now) here.spelled
        ∙ finds-new here.at here.segment (entry far serial name (short slot)) here.left here.below here.right here.way tree here.is sound.rule new

    others-are : (other : List ℕ) → other ≢ name → entry_of now other ≡ entry_of tree other
    others-are other d =
        finds-others here.at here.segment (entry far serial name (short slot)) here.left here.below here.right here.way tree here.is sound.rule new other
        (λ e. d (e ∙ sym here.spelled))

    lasting-one : Lasts (entry_of tree name) (entry_of now name) (length value ∷ [])
    unfolding serial_after
    lasting-one = record {
      lasts = λ at s full v h.
          (let q : entry far serial name (short slot) ≡ entry at s full v = sym old-is ∙ h in
          let a : far ≡ at = cc in
          let c : serial ≡ s = cc in
          let d : name ≡ full = cc in
          (short fresh, rw (← a, ← c, ← d) new_is));
    }

    updated-next : Sound b used now → up_to_zero fresh ≡ up_to_zero value → Next area used tree (update name value)
    updated-next S s =
        next-accepted area used tree (update name value) b is used now S idle others-are
        (λ before m. hears-update (entry_of now name) far (updated_serial serial (length value)) fresh before new_is s) lasting-one

  by-update : UpdateDone area used tree name value (update_steps area name value) → Next area used tree (update name value)
  by-update (unfound number found is) = quiet number is (found-mild number (find-refusals area used tree sound name number found))
  by-update (long_entry far serial place text here is) = quiet (number_of Refusal.LongEntry) is (mild Refusal.LongEntry refl refl)
  by-update (too_long far serial slot here long is) = quiet (number_of Refusal.TooLong) is (mild Refusal.TooLong refl refl)
  by-update (done far serial slot b fresh here few is S s) = updated-next far serial slot b fresh here is S s

  pub next-update : Next area used tree (update name value)
  next-update = by-update (update-sound area used tree sound name value)

pub next : (area : List ℕ) (used : ℕ) (tree : Tree) → Sound area used tree → (op : Op) → Next area used tree op
next area used tree sound (add name value) = next-add area used tree sound name value
next area used tree sound (update name value) = next-update area used tree sound name value
