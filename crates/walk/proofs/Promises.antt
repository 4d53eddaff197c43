-- What the walk promises: over marks that are all zero it decides soundness, both ways, and lists the entries of the tree that it finds.
-- Each is a law of Deciding.antt; `Blank`, no mark is taken, stands there. Assumes nothing.
use Prim.Native.Nat.{ℕ, ◌*◌, ◌≤◌}
use mathlib.Core.Path.{◌≡◌}
use mathlib.Core.Bool.{true}
use mathlib.Core.List.{List}
use lib.ListN.{length}
use Rattle.sound.specs.Tree.{Tree, listed}
use Rattle.sound.specs.Sound.{Front, Sound}
use Rattle.walk.specs.Model.{walk_at, steps_max, ended, entries_of}
use Rattle.walk.proofs.Deciding.{Blank, found, walks}

module _ (area : List ℕ) (used : ℕ) (front : Front area used) (marks : List ℕ) (blank : Blank marks) where
  -- ---- a walk that ends, after however many steps, has found a tree
  pub walk-finds : (k : ℕ) → ended (walk_at area used marks k) ≡ true → (tree : Tree) × Sound area used tree
  walk-finds = found area used front marks blank

  module _ (marked : used ≤ 4 * length marks) (tree : Tree) (sound : Sound area used tree) where
    -- ---- where there is a tree, and a mark for each word up to the used mark, the walk ends within its bound of steps
    pub walk_ends : ended (walk_at area used marks (steps_max area)) ≡ true
    walk_ends = (walks area used front marks blank marked tree sound).0

    -- ---- and lists that tree's entries, in the tree's order
    pub walk-lists : entries_of (walk_at area used marks (steps_max area)) ≡ listed tree
    walk-lists = (walks area used front marks blank marked tree sound).1
