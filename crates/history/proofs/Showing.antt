-- What a lookup shows over the bytes of a sound area, told by its tree: the value of the name's entry; where there is none, a refusal.
use Prim.Native.Nat.{ℕ}
use mathlib.Core.Path.{◌≡◌, refl, sym, ap, ◌∙◌}
use mathlib.Core.Logic.{◌⊎◌, inl, inr}
use mathlib.Core.List.{List}
use Rattle.words.proofs.Laws.{clash}
use Rattle.names.specs.Names.{segments}
use Rattle.layout.specs.declared.refusal.Refusal.{Refusal}
use Rattle.layout.specs.Refusals.{Answer, accepted, refused, refuse}
use Rattle.property_area.specs.Find.{Hit, hit}
use Rattle.sound.specs.Tree.{Value, bare, entry, Tree}
use Rattle.sound.specs.Sound.{Sound}
use Rattle.sound.specs.Ways.{reached}
use Rattle.finding.specs.Look.{look, value_text}
use Rattle.finding.proofs.FindLook.{find-look}
use Rattle.finding.proofs.Spelling.{own_of, one_name}
use Rattle.finding.proofs.Refusing.{Refuses, look-refuses}
use Rattle.finding.proofs.Promises.{own-found, value-shown}
use Rattle.history.specs.Lack.{entry_of}
use Rattle.property_area.specs.Lookup.{shown}
use Rattle.history.proofs.Seeking.{seek_found}
use Rattle.history.proofs.Leading.{seek-leads, seek-name}

module _ (area : List ℕ) (used : ℕ) (tree : Tree) (sound : Sound area used tree) (name : List ℕ) where
  -- ---- there is one: it has that name, and its value is shown
  pub shown-some : (at serial : ℕ) (nm : List ℕ) (v : Value) → entry_of tree name ≡ entry at serial nm v → (shown area name ≡ accepted (value_text v)) × (nm ≡ name)
  unfolding shown
  shown-some at serial nm v e =
      let there = seek-leads at serial nm v (segments name) tree e in
      let own : own_of (reached tree there.way) ≡ entry at serial nm v = ap own_of there.is in
      let same : nm ≡ name = one_name nm name (seek-name at serial nm v (segments name) tree sound.rule e) in
      let found = own-found area used tree sound there.way at serial nm v own in
      let value = value-shown area used tree sound there.way at serial nm v own in
      (rw (← same, found.1, value.2) (ap accepted (rw value.2 at value.3)), same)

  -- ---- there is none: the refusal is the tree's, 3 or 2
  pub shown-which : (number : ℕ) → look (segments name) bare tree 0 ≡ refused number → shown area name ≡ refused number
  unfolding shown
  shown-which number e = rw (find-look area name used tree sound, e)

  pub shown-none : entry_of tree name ≡ bare → (shown area name ≡ refuse Refusal.Missing) ⊎ (shown area name ≡ refuse Refusal.EmptySegment)
  shown-none none = by (look (segments name) bare tree 0) refl (look-refuses (segments name) bare tree 0)
    where
      by : (answer : Answer Hit) → look (segments name) bare tree 0 ≡ answer → Refuses answer
          → (shown area name ≡ refuse Refusal.Missing) ⊎ (shown area name ≡ refuse Refusal.EmptySegment)
      by (refused number) e (inl why) = inl (shown-which number e ∙ ap refused why)
      by (refused number) e (inr why) = inr (shown-which number e ∙ ap refused why)
      by (accepted (hit at count)) e counts =
          let found = seek_found (segments name) bare tree 0 at count e in
          let k : bare ≡ entry at found.0 found.1 found.2 = sym none ∙ found.3 in
          clash cc
