-- What was told of a name in a run, against the tree that the run leaves: missing where nothing was told, listed exactly if something was, its serial updated and its updates counted.
use Prim.Native.Nat.{ℕ, ◌≤◌, ◌<◌}
use mathlib.Core.Path.{◌≡◌, refl, sym, ap, subst, ◌∙◌}
use mathlib.Core.Bool.{false}
use mathlib.Core.Logic.{◌⊎◌, inl, inr}
use mathlib.Core.List.{List, [], ◌∷◌}
use mathlib.Core.Option.{Option, none, some}
use lib.ListN.{length}
use Rattle.names.specs.Names.{segments}
use Rattle.layout.specs.declared.refusal.Refusal.{Refusal}
use Rattle.layout.specs.Layout.{area_max, serial_field, first_free, format_min, word_at, header_word, used_field}
use Rattle.layout.specs.Refusals.{accepted, refuse}
use Rattle.property_area.specs.Find.{hit, find_steps}
use Rattle.property_area.specs.Value.{serial_steps}
use Rattle.property_area.specs.Lookup.{shown}
use Rattle.serials.specs.Serial.{positions}
use Rattle.counters.specs.Distance.{distance, serial_after}
use Rattle.counters.proofs.Promises.{distance-counts}
use Rattle.builder.specs.Fresh.{fresh}
use Rattle.builder.specs.Add.{any_empty}
use Rattle.sound.specs.Tree.{Entry, bare, entry, Tree, leaf, listed}
use Rattle.sound.specs.Sound.{Has, Sound}
use Rattle.sound.specs.Ways.{reached}
use Rattle.sound.proofs.Promises.{one-tree, one-mark}
use Rattle.finding.specs.Look.{spot}
use Rattle.finding.proofs.Promises.{own-found}
use Rattle.history.specs.History.{Op, after, told, told_by, update_sizes}
use Rattle.history.specs.Lack.{seek, entry_of}
use Rattle.history.proofs.FreshSound.{fresh-sound}
use Rattle.history.proofs.Entries.{serial-word, entry-serial, entry_found, entry_listed, found-entry, listed-held}
use Rattle.history.proofs.Seeking.{look_none}
use Rattle.history.proofs.Showing.{shown-none, shown-which}
use Rattle.history.proofs.Next.{Matches}
use Rattle.history.proofs.Run.{ran, held-told, shown-matches}

-- a sound area, by the used mark that it has
pub by-mark : (area : List ℕ) (used : ℕ) (tree : Tree) → Sound area used tree → Sound area (header_word area used_field) tree
by-mark area used tree sound = subst (λ (u : ℕ). Sound area u tree) (sym sound.front.mark) sound

module _ (area : List ℕ) (used : ℕ) (tree : Tree) (sound : Sound area used tree) (ops : List Op) where
  -- whatever tree makes it sound, what is told of a name matches its entry
  pub told-matches : (grown : ℕ) (now : Tree) → Sound (after area ops) grown now → (name : List ℕ) → Matches (entry_of now name) (told area name ops (told_by (shown area name)))
  told-matches grown now S name =
      let r = ran ops area used tree sound in
      let u : r.grown ≡ grown = one-mark (after area ops) r.grown grown r.now now r.sound S in
      let t : r.now ≡ now = one-tree (after area ops) grown r.now now (subst (λ (k : ℕ). Sound (after area ops) k r.now) u r.sound) S in
      subst (λ (x : Tree). Matches (entry_of x name) (told area name ops (told_by (shown area name)))) t (r.tells name _ (shown-matches area used tree sound name (entry_of tree name) refl))

  -- ---- told no value: missing
  pub run-missing : (name : List ℕ) → any_empty (segments name) ≡ false → told area name ops (told_by (shown area name)) ≡ none → shown (after area ops) name ≡ refuse Refusal.Missing
  run-missing name named e =
      let r = ran ops area used tree sound in
      by r.grown r.now r.sound (entry_of r.now name) refl (subst (λ (t : Option (List ℕ)). Matches (entry_of r.now name) t) e (told-matches r.grown r.now r.sound name))
    where
      by : (grown : ℕ) (now : Tree) → Sound (after area ops) grown now → (own : Entry) → entry_of now name ≡ own → Matches own none → shown (after area ops) name ≡ refuse Refusal.Missing
      by grown now S bare h m = shown-which (after area ops) grown now S name _ (look_none (segments name) bare now 0 named h)
      by grown now S (entry at serial full v) h m = absurd m

  -- ---- listed: each that was told a value, and no other
  pub run-lists : (grown : ℕ) (now : Tree) → Sound (after area ops) grown now → (name value : List ℕ) → told area name ops (told_by (shown area name)) ≡ some value
      → (at : ℕ) × (count : ℕ) × (find_steps (after area ops) name ≡ accepted (hit at count)) × Has at (listed now)
  run-lists grown now S name value e = by (entry_of now name) refl (subst (λ (t : Option (List ℕ)). Matches (entry_of now name) t) e (told-matches grown now S name))
    where
      by : (own : Entry) → entry_of now name ≡ own → Matches own (some value)
          → (at : ℕ) × (count : ℕ) × (find_steps (after area ops) name ≡ accepted (hit at count)) × Has at (listed now)
      by bare h m = absurd m
      by (entry at serial full v) h m =
          let f = entry_found (after area ops) grown now S name at serial full v h in
          (at, f.0, f.1, entry_listed (after area ops) grown now S name at serial full v h)

  pub run-listed : (grown : ℕ) (now : Tree) → Sound (after area ops) grown now → (at : ℕ) → Has at (listed now)
      → (name : List ℕ) × (value : List ℕ) × (told area name ops (told_by (shown area name)) ≡ some value) × (count : ℕ) × (find_steps (after area ops) name ≡ accepted (hit at count))
  run-listed grown now S at has =
      let h = listed-held now at has in
      let f = own-found (after area ops) grown now S h.0 at h.1 h.2 h.3 h.4 in
      let q = found-entry (after area ops) grown now S h.2 at f.0 f.1 in
      let t = held-told (entry_of now h.2) _ at q.0 h.2 q.1 q.2 (told-matches grown now S h.2) in
      (h.2, t.0, t.1, f.0, f.1)

  -- ---- its serial, and updates counted
  module _ (name : List ℕ) (at count : ℕ) (found : find_steps area name ≡ accepted (hit at count)) where
    pub run-serial : serial_steps (after area ops) at ≡ accepted (serial_after (word_at area at serial_field) (update_sizes area name ops))
    run-serial =
        let r = ran ops area used tree sound in
        let q = found-entry area used tree sound name at count found in
        let l = (r.lasts name).lasts at q.0 name q.1 q.2 in
        let word : word_at area at serial_field ≡ q.0 = serial-word area at q.0 (entry-serial area used tree sound name at q.0 name q.1 q.2) in
        rw word (entry-serial (after area ops) r.grown r.now r.sound name at (serial_after q.0 (update_sizes area name ops)) name l.0 l.1)

    pub run-distance : (before now : ℕ) → serial_steps area at ≡ accepted before → serial_steps (after area ops) at ≡ accepted now → length (update_sizes area name ops) < positions
        → distance before now ≡ length (update_sizes area name ops)
    run-distance before now b n few =
        let last : accepted (serial_after before (update_sizes area name ops)) ≡ accepted now
        = ap (λ (s : ℕ). accepted (serial_after s (update_sizes area name ops))) (sym (serial-word area at before b)) ∙ sym run-serial ∙ n in
        let same : serial_after before (update_sizes area name ops) ≡ now = cc in
        rw (← same) (distance-counts (update_sizes area name ops) before few)

-- ---- of a fresh area nothing is told
-- an empty tree has no entries
leaf-bare : (name : List ℕ) → entry_of leaf name ≡ bare
unfolding seek spot reached
leaf-bare name = by (segments name)
  where
    by : (segs : List (List ℕ)) → seek segs bare leaf ≡ bare
    by [] = refl
    by (segment ∷ rest) = refl

module _ (n : ℕ) (low : format_min ≤ n) (high : n ≤ area_max) where
  pub fresh-untold : (name : List ℕ) → told_by (shown (fresh n) name) ≡ none
  fresh-untold name = by (shown-none (fresh n) first_free leaf (fresh-sound n low high) name (leaf-bare name))
    where
      by : (shown (fresh n) name ≡ refuse Refusal.Missing) ⊎ (shown (fresh n) name ≡ refuse Refusal.EmptySegment) → told_by (shown (fresh n) name) ≡ none
      by (inl e) = ap told_by e
      by (inr e) = ap told_by e
