-- What an accepted update by name leaves in the backup slot of a sound area: the value that was shown before.
use Prim.Native.Nat.{ℕ, ◌+◌, ◌≤◌}
use native.Mathlib.Omega.{arith}
use mathlib.Core.Path.{◌≡◌}
use mathlib.Core.List.{List, [], ◌∷◌, ◌++◌}
use lib.ListN.{length, get_or}
use Rattle.words.proofs.Laws.{clash}
use Rattle.layout.specs.Layout.{backup_at, first_free, byte_of}
use Rattle.layout.specs.Refusals.{accepted, no_refusal, Outcome, leaves, accept_leaving, number_in, bytes_in}
use Rattle.property_area.specs.Lookup.{shown}
use Rattle.updates.specs.Update.{slot_text}
use Rattle.updates.proofs.Promises.{update-tells, update-backup}
use Rattle.sound.specs.Tree.{Value, entry, Tree, leaf, node}
use Rattle.sound.specs.Sound.{Sound}
use Rattle.sound.specs.Ways.{Dir, reached}
use Rattle.finding.proofs.Promises.{found-own}
use Rattle.finding.proofs.Spelling.{own_of}
use Rattle.finding.proofs.NodeReads.{Standing, stands-whole, own_room, entry-lies}
use Rattle.finding.proofs.FindLook.{stands-reached}
use Rattle.history.specs.History.{update, call}

accepts : (o : Outcome) → number_in o ≡ no_refusal → accept_leaving (bytes_in o) ≡ o
accepts (leaves number b) e = rw e

module _ (area : List ℕ) (used : ℕ) (tree : Tree) (sound : Sound area used tree) where
  -- an entry of the tree lies behind the slot
  entry-behind : (way : List Dir) (at serial : ℕ) (full : List ℕ) (value : Value) → own_of (reached tree way) ≡ entry at serial full value → first_free ≤ at
  entry-behind way at serial full value own = by (reached tree way) own (stands-reached way area used [] tree (stands-whole area used tree sound))
    where
      by : (end : Tree) → own_of end ≡ entry at serial full value → (p : List ℕ) × Standing area used p end → first_free ≤ at
      by leaf own s = clash cc
      by (node place segment held left below right) own s =
          (entry-lies used at serial full value sound.front.low (rw own at (own_room area used s.0 place segment held left below right s.1))).0

  pub update-backs : (name value : List ℕ) → number_in (call area (update name value)) ≡ no_refusal → (old : List ℕ) → shown area name ≡ accepted old → (j : ℕ) → j ≤ length old
      → get_or (bytes_in (call area (update name value))) (byte_of backup_at + j) 0 ≡ get_or (old ++ 0 ∷ []) j 0
  unfolding shown
  update-backs name value e old s j h =
      let done = accepts (call area (update name value)) e in
      let t = update-tells area name value _ done in
      let f = found-own area used tree sound name t.at t.compared t.found in
      let k : accepted (slot_text area t.at) ≡ accepted old = rw (t.found, t.shown) at s in
      let is : slot_text area t.at ≡ old = cc in
      rw (← is) (update-backup area name value _ done t.at t.compared t.found j (rw (← is) at h)
      (omega (arith, t.small, rw (← is) at h, entry-behind f.0 t.at f.1 name f.2 f.3)))
