-- The walk over a tree of links, whatever marks are and entering a node and its own work do.
-- A node is entered, then left: its left side, its own work, what hangs below it, its right side, and up again.
use Rattle.std.specs.Prelude.{ℕ, zero, suc, List, ◌++◌}
use Rattle.sound.specs.Ways.{Dir, to_left, to_below, to_right}

-- where the walk will go from a node
pub data Phase : Type 0 where
  on : Dir → Phase
  up : Phase

abbrev pub next : Dir → Phase
next to_left = on to_below
next to_below = on to_right
next to_right = up

-- what entering a node leaves
pub data Taken (M : Type 0) : Type 0 where
  refused : Taken M
  taken : M → Taken M

-- what a node's own work leaves, and the entries it lists
pub data Done (M : Type 0) : Type 0 where
  halt : Done M
  done : M → List ℕ → Done M

-- marks, node (0 is the root), phase, the node before it in its tree of siblings (0 is none), entries listed
pub data State (M : Type 0) : Type 0 where
  bad : State M
  here : M → ℕ → Phase → ℕ → List ℕ → State M

module _ (M : Type 0) (link : Dir → ℕ → ℕ) (place : ℕ → ℕ) (enter : M → ℕ → ℕ → Dir → Taken M) (own : M → ℕ → ℕ → Done M) (parent : M → ℕ → ℕ) (came : M → ℕ → Dir) where
  abbrev pub entered : ℕ → ℕ → List ℕ → Taken M → State M
  entered l before es refused = bad
  entered l before es (taken m) = here m (place l) (on to_left) before es

  -- along a link of node p
  abbrev pub go : M → ℕ → Dir → ℕ → List ℕ → ℕ → State M
  go m p dir before es zero = here m p (next dir) before es
  go m p dir before es (suc l) = entered (suc l) before es (enter m (suc l) p dir)

  abbrev pub worked : ℕ → List ℕ → Done M → State M
  worked n es halt = bad
  worked n es (done m fs) = go m n to_below 0 (es ++ fs) (link to_below n)

  abbrev pub step_at : M → ℕ → Phase → ℕ → List ℕ → State M
  step_at m n (on to_left) before es = go m n to_left before es (link to_left n)
  step_at m n (on to_below) before es = worked n es (own m n before)
  step_at m n (on to_right) before es = go m n to_right n es (link to_right n)
  step_at m n up before es = here m (parent m n) (next (came m n)) before es

  abbrev pub step : State M → State M
  step bad = bad
  step (here m zero phase before es) = here m zero phase before es
  step (here m (suc n) phase before es) = step_at m (suc n) phase before es

  abbrev pub run : ℕ → State M → State M
  run zero state = state
  run (suc k) state = run k (step state)
