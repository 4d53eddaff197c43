-- A name is told a value exactly if it had one before the run or has an accepted add in it: an update is accepted only of an entry that is there.
use Prim.Native.Nat.{ℕ}
use mathlib.Core.Path.{◌≡◌, refl, sym, subst}
use mathlib.Core.Logic.{◌⊎◌, inl, inr, ⊎_elim}
use mathlib.Core.Bool.{Bool, true, false, cond, ◌&&◌, ◌||◌}
use mathlib.Core.List.{List, [], ◌∷◌}
use mathlib.Core.Option.{Option, none, some}
use lib.Dec.{eqb}
use borrow.Author.Tests.{eqb-true}
use Rattle.words.specs.Words.{same_bytes, up_to_zero}
use Rattle.words.proofs.Laws.{bool_cases, clash}
use Rattle.words.proofs.Promises.{same-eq}
use Rattle.layout.specs.Refusals.{no_refusal, number_in, bytes_in}
use Rattle.layout.proofs.Numbers.{both}
use Rattle.property_area.specs.Lookup.{shown}
use Rattle.sound.specs.Tree.{short, Tree}
use Rattle.sound.specs.Sound.{Sound}
use Rattle.history.specs.History.{Op, add, update, call, hear, heeded, after, told, told_by, is_add, added}
use Rattle.history.specs.Lack.{entry_of}
use Rattle.history.proofs.Next.{Matches, next}
use Rattle.history.proofs.Run.{ran, held-told, shown-matches}
use Rattle.history.proofs.OneCall.{update-only}

-- what was told once is told on
hear-some : (op : Op) (before : List ℕ) → (value : List ℕ) × (hear op (some before) ≡ some value)
hear-some (add name value) before = (before, refl)
hear-some (update name value) before = (up_to_zero value, refl)

told-some : (ops : List Op) (area name before : List ℕ) → (value : List ℕ) × (told area name ops (some before) ≡ some value)
unfolding told
told-some [] area name before = (before, refl)
told-some (op ∷ ops) area name before =
    bool_cases (heeded area name op)
    (λ t. let h = hear-some op before in rw (t, h.1) (told-some ops (bytes_in (call area op)) name h.0))
    (λ f. rw f (told-some ops (bytes_in (call area op)) name before))

-- ---- an accepted add tells
hears-add : (op : Op) (before : Option (List ℕ)) → is_add op ≡ true → (value : List ℕ) × (hear op before ≡ some value)
hears-add (add name value) none e = (up_to_zero value, refl)
hears-add (add name value) (some before) e = (before, refl)
hears-add (update name value) before e = clash cc

either : (s t u : Bool) → (s && t) || u ≡ true → ((s ≡ true) × (t ≡ true)) ⊎ (u ≡ true)
either true true u e = inl (refl, refl)
either true false u e = inr e
either false t u e = inr e

pub added-told : (ops : List Op) (area name : List ℕ) (before : Option (List ℕ)) → added area name ops ≡ true → (value : List ℕ) × (told area name ops before ≡ some value)
unfolding told added
added-told [] area name before e = clash cc
added-told (op ∷ ops) area name before e =
    ⊎_elim (λ h. let s = hears-add op before h.1 in rw (h.0, s.1) (told-some ops (bytes_in (call area op)) name s.0))
    (λ r. added-told ops (bytes_in (call area op)) name (cond (heeded area name op) (hear op before) before) r)
    (either (heeded area name op) (is_add op) (added (bytes_in (call area op)) name ops) e)

-- ---- and nothing else does, of a name that has no entry: an update that is heeded has one
no-update : (area : List ℕ) (used : ℕ) (tree : Tree) → Sound area used tree → (name other value : List ℕ) → Matches (entry_of tree name) none → heeded area name (update other value) ≡ true → ⊥
no-update area used tree sound name other value m h =
    let b = both (eqb (number_in (call area (update other value))) no_refusal) (same_bytes other name) h in
    let u = update-only area used tree sound other value (eqb-true (number_in (call area (update other value))) no_refusal b.0) in
    let t = held-told (entry_of tree other) none u.0 u.1 other (short u.2) u.3 (subst (λ (n : List ℕ). Matches (entry_of tree n) none) (sym (same-eq other name b.1)) m) in
    let q : none ≡ some t.0 = t.1 in clash cc

pub told-added : (ops : List Op) (area : List ℕ) (used : ℕ) (tree : Tree) → Sound area used tree → (name value : List ℕ) → Matches (entry_of tree name) none
    → told area name ops none ≡ some value → added area name ops ≡ true
unfolding told added
told-added [] area used tree sound name value m e = clash cc
told-added (op ∷ ops) area used tree sound name value m e =
    bool_cases (heeded area name op)
    (λ t. rw (t, by op t))
    (λ f. let n = next area used tree sound op in
    rw f (told-added ops (bytes_in (call area op)) n.grown n.now n.sound name value (rw f at (n.tells name none m)) (rw f at e)))
  where
    by : (op : Op) → heeded area name op ≡ true → is_add op ≡ true
    by (add other v) t = refl
    by (update other v) t = absurd (no-update area used tree sound name other v m t)

-- ---- over a run, of a name that showed nothing before it
module _ (area : List ℕ) (used : ℕ) (tree : Tree) (sound : Sound area used tree) (ops : List Op) (name : List ℕ) (untold : told_by (shown area name) ≡ none) where
  bare-yet : Matches (entry_of tree name) none
  bare-yet = subst (Matches (entry_of tree name)) untold (shown-matches area used tree sound name (entry_of tree name) refl)

  pub run-told-added : (value : List ℕ) → told area name ops none ≡ some value → added area name ops ≡ true
  run-told-added value e = told-added ops area used tree sound name value bare-yet e

  pub run-update-added : (value : List ℕ) → number_in (call (after area ops) (update name value)) ≡ no_refusal → added area name ops ≡ true
  run-update-added value e =
      let r = ran ops area used tree sound in
      let u = update-only (after area ops) r.grown r.now r.sound name value e in
      let t = held-told (entry_of r.now name) (told area name ops none) u.0 u.1 name (short u.2) u.3 (r.tells name none bare-yet) in
      run-told-added t.0 t.1
