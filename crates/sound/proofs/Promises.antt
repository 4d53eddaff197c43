-- What soundness promises, in the words of RULES 6. Objects are the linked nodes, entries and long values.
-- The proofs stand in Objects, OnePath and OneTree.
use Prim.Native.Nat.{ℕ, ◌≤◌}
use native.Mathlib.Omega.{arith}
use mathlib.Core.Path.{◌≡◌, refl, sym, ◌∙◌}
use mathlib.Core.List.{List, []}
use Rattle.layout.specs.Layout.{first_free, byte_of}
use Rattle.sound.specs.Tree.{Tree, listed}
use Rattle.sound.specs.Sound.{Room, Sound}
use Rattle.sound.specs.Ways.{Dir, reached, TopAt}
use Rattle.sound.specs.Objects.{objects, Each, Apart, Between, Aligned, times}
use Rattle.sound.proofs.Objects.{listed-times, tree-covers, room_of, room-once, room_apart, room-between, tree-aligned}
use Rattle.sound.proofs.OnePath.{one_way}
use Rattle.sound.proofs.OneTree.{room-behind, one_below}

-- ---- RULES 6.3, 6.4: all of an object's room is between 112 and the used mark, and no byte is in two objects
pub room_says : (used : ℕ) (tree : Tree) → first_free ≤ used → Room used tree → Apart (objects tree) × Each (Between used) (objects tree)
room_says used tree low room = (room_apart used tree room, room-between used tree room low)

-- ---- and Room says no more than that
pub room-is : (used : ℕ) (tree : Tree) → first_free ≤ used → Apart (objects tree) → Each (Between used) (objects tree) → Room used tree
room-is used tree low apart between i = omega (arith, tree-covers tree i, room_of used low (objects tree) apart between i)

module _ (area : List ℕ) (used : ℕ) where
  -- ---- every object starts at a multiple of 4
  pub all-aligned : (tree : Tree) → Sound area used tree → Each Aligned (objects tree)
  all-aligned tree sound = tree-aligned [] tree sound.rule

  -- ---- each node has one path: ways that reach a node at the same offset are the same way
  pub one-path : (tree : Tree) → Sound area used tree → (v w : List Dir) (at : ℕ) → TopAt (reached tree v) at → TopAt (reached tree w) at → v ≡ w
  one-path tree sound v w at p q = one_way v w tree at (room-once used tree sound.room) p q

  -- ---- an area holds one tree at most
  pub one-tree : (s t : Tree) → Sound area used s → Sound area used t → s ≡ t
  one-tree s t x y =
      one_below area [] [] s t refl (sym x.top ∙ y.top) (room-behind used s x.room) (room-behind used t y.room) x.bytes y.bytes x.rule y.rule

-- ---- and has one used mark
pub one-mark : (area : List ℕ) (used other : ℕ) (s t : Tree) → Sound area used s → Sound area other t → used ≡ other
one-mark area used other s t x y = sym x.front.mark ∙ y.front.mark

-- ---- no entry is listed twice
pub listed-once : (area : List ℕ) (used : ℕ) (tree : Tree) → Sound area used tree → (at : ℕ) → times at (listed tree) ≤ 1
listed-once area used tree sound at = omega (arith, listed-times tree at, room-once used tree sound.room (byte_of at))
