-- A run of calls over a sound area, by one call after the other.
use Prim.Native.Nat.{ℕ, ◌+◌, ◌-◌, ◌/◌, ◌≤◌}
use native.Mathlib.Omega.{arith}
use mathlib.Core.Path.{◌≡◌, refl, sym, ap, ◌∙◌}
use mathlib.Core.Logic.{◌⊎◌, inl, inr}
use mathlib.Core.Bool.{cond}
use mathlib.Core.List.{List, [], ◌∷◌, ◌++◌}
use mathlib.Core.Option.{Option, none, some}
use lib.ListN.{length}
use Rattle.builder.proofs.Used.{total-append}
use Rattle.allocation.specs.Steps.{total}
use Rattle.layout.specs.declared.refusal.Refusal.{Refusal}
use Rattle.layout.specs.Refusals.{accepted, refuse, bytes_in}
use Rattle.layout.specs.Layout.{used_field, first_free, header_word}
use Rattle.counters.specs.Distance.{serial_after}
use Rattle.counters.proofs.Laws.{after_both}
use Rattle.sound.specs.Tree.{Value, Entry, bare, entry, Tree}
use Rattle.sound.specs.Sound.{Sound}
use Rattle.property_area.specs.Lookup.{shown}
use Rattle.property_area.specs.Walked.{walked}
use Rattle.finding.proofs.Promises.{walk-bound}
use Rattle.history.specs.History.{Op, call, after, hear, heeded, told, told_by, AsTold, size_in, update_sizes, op_rooms, given}
use Rattle.history.specs.Lack.{entry_of}
use Rattle.history.proofs.Showing.{shown-some, shown-none}
use Rattle.history.proofs.Next.{Matches, Lasts, next}

lasts-then : (e f g : Entry) (a b : List ℕ) → Lasts e f a → Lasts f g b → Lasts e g (a ++ b)
lasts-then e f g a b p q = record {
  lasts = λ at serial name v h.
      (let one = p.lasts at serial name v h in
      let two = q.lasts at (serial_after serial a) name one.0 one.1 in
      (two.0, two.1 ∙ ap (λ (k : ℕ). entry at k name two.0) (sym (after_both a b serial))));
}

lasts-none : (e : Entry) → Lasts e e []
unfolding serial_after
lasts-none e = record { lasts = λ at serial name v h. (v, h) }

-- what a run leaves of a sound area
pub record Ran (area : List ℕ) (used : ℕ) (tree : Tree) (ops : List Op) : Type 0 where
  pub grown : ℕ
  pub now : Tree
  pub sound : Sound (after area ops) grown now
  pub mark : grown ≡ used + total (given area ops)
  pub tells : (name : List ℕ) (before : Option (List ℕ)) → Matches (entry_of tree name) before → Matches (entry_of now name) (told area name ops before)
  pub lasts : (name : List ℕ) → Lasts (entry_of tree name) (entry_of now name) (update_sizes area name ops)

pub ran : (ops : List Op) (area : List ℕ) (used : ℕ) (tree : Tree) → Sound area used tree → Ran area used tree ops
unfolding after told update_sizes given
ran [] area used tree sound = record {
  grown = used;
  now = tree;
  sound = sound;
  mark = omega arith;
  tells = λ name before m. m;
  lasts = λ name. lasts-none (entry_of tree name);
}
ran (op ∷ ops) area used tree sound =
    let n = next area used tree sound op in
    let r = ran ops (bytes_in (call area op)) n.grown n.now n.sound in
    record {
      grown = r.grown;
      now = r.now;
      sound = r.sound;
      mark = omega (arith, r.mark, n.mark, total-append (op_rooms area op) (given (bytes_in (call area op)) ops));
      tells = λ name before m. r.tells name (cond (heeded area name op) (hear op before) before) (n.tells name before m);
      lasts = λ name. lasts-then (entry_of tree name) (entry_of n.now name) (entry_of r.now name) (cond (heeded area name op) (size_in op) []) (update_sizes (bytes_in (call area op)) name ops)
          (n.lasts name) (r.lasts name);
    }

-- ---- what is told of a name that has an entry: a value
pub held-told : (own : Entry) (told : Option (List ℕ)) (at serial : ℕ) (full : List ℕ) (v : Value) → own ≡ entry at serial full v → Matches own told → (value : List ℕ) × (told ≡ some value)
held-told own none at serial full v e m = absurd (rw e at m)
held-told own (some value) at serial full v e m = (value, refl)

-- ---- what is shown, by what is told
module _ (area : List ℕ) (used : ℕ) (tree : Tree) (sound : Sound area used tree) (name : List ℕ) where
  pub matched-shows : (e : Entry) (told : Option (List ℕ)) → entry_of tree name ≡ e → Matches e told → AsTold (shown area name) told
  matched-shows bare none h m = shown-none area used tree sound name h
  matched-shows bare (some value) h m = absurd m
  matched-shows (entry at serial full v) none h m = absurd m
  matched-shows (entry at serial full v) (some value) h m = (shown-some area used tree sound name at serial full v h).0 ∙ ap accepted m

  pub shown-matches : (e : Entry) → entry_of tree name ≡ e → Matches e (told_by (shown area name))
  shown-matches bare h = by (shown-none area used tree sound name h)
    where
      by : (shown area name ≡ refuse Refusal.Missing) ⊎ (shown area name ≡ refuse Refusal.EmptySegment) → Matches bare (told_by (shown area name))
      by (inl e) = rw e tt
      by (inr e) = rw e tt
  shown-matches (entry at serial full v) h = rw (shown-some area used tree sound name at serial full v h).0 refl

-- ---- a search in a sound area compares at most (used - 112) / 24 nodes
pub sound-cost : (area : List ℕ) (used : ℕ) (tree : Tree) → Sound area used tree → (name : List ℕ) → length (walked area name) ≤ (header_word area used_field - first_free) / 24
sound-cost area used tree sound name = omega (arith, walk-bound area used tree sound name, sound.front.mark)
