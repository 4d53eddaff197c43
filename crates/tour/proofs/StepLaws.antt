-- One law for each way on of step.
use mathlib.Core.Path.{◌≡◌, refl, sym, ap, ◌∙◌}
use mathlib.Core.List.{List, ◌++◌, append-nil}
use Prim.Native.Nat.{ℕ, zero, suc, ◌<◌}
use native.Mathlib.Omega.{arith}
use Rattle.std.specs.Prelude.{Option, Some, None, Result, Ok, Err, option_to_list}
use Rattle.walk.specs.Machine.{on, Done, done, State, here}
use Rattle.walk.specs.Machine as machine
use Rattle.walk.specs.Model.{link_at, place_at, parent_at, came_at, enter_at, own_work, step_at}
use Rattle.works.specs.View.{before_of}
use Rattle.probes.specs.declared.marks.Damaged.{Damaged}
use Rattle.tour.specs.View.{phase_of, view, walked, listing, Went, Stepped}
use Rattle.tour.specs.declared.phases.Dir.{Dir}
use Rattle.tour.specs.declared.phases.Phase.{Phase}
use Rattle.tour.specs.declared.place.Walk.{Walk}

module _ (area : List ℕ) (used : ℕ) (w : Walk) (marks : List ℕ) (below : 0 < w.cur.word) where
  abbrev moves : machine.Phase → List ℕ → State (List ℕ)
  moves phase es = machine.step_at (List ℕ) (link_at area) place_at (enter_at area used) (own_work area used) parent_at came_at marks w.cur.word phase (before_of w.before) es

  abbrev works : List ℕ → Done (List ℕ) → State (List ℕ)
  works es = machine.worked (List ℕ) (link_at area) place_at (enter_at area used) (own_work area used) parent_at came_at w.cur.word es

  -- a walk that is not at the root moves by its phase
  moved : (phase : Phase) → w.phase ≡ phase → (es : List ℕ) → step_at area used (view w marks es) ≡ moves (phase_of phase) es
  moved phase e es = rw e (at-node w.cur.word below)
    where
      at-node : (n : ℕ) → 0 < n → step_at area used (here marks n (phase_of phase) (before_of w.before) es) ≡ machine.step_at (List ℕ) (link_at area) place_at (enter_at area used) (own_work area used) parent_at came_at marks n (phase_of phase) (before_of w.before) es
      at-node zero h = absurd (omega arith)
      at-node (suc n) h = refl

  -- a step that sees no entry
  abbrev unseen : Result Walk Damaged → Result (Walk × Option ℕ) Damaged
  unseen (Ok v) = Ok (v, None)
  unseen (Err damaged) = Err damaged

  unlisted : (r : Result Walk Damaged) (after es : List ℕ) → listing (unseen r) after es ≡ walked r after es
  unlisted (Ok v) after es = rw append-nil refl
  unlisted (Err damaged) after es = refl

  module _ (r : Result Walk Damaged) (after : List ℕ) where
    pub step_left : Went area used marks w.cur Dir.Left w.before r after → w.phase ≡ Phase.On Dir.Left → Stepped area used w marks (unseen r) after
    step_left says e es = unlisted r after es ∙ says es ∙ sym (moved (Phase.On Dir.Left) e es)

    pub step_right : Went area used marks w.cur Dir.Right (Some (record { node = w.cur; below = below })) r after → w.phase ≡ Phase.On Dir.Right → Stepped area used w marks (unseen r) after
    step_right says e es = unlisted r after es ∙ says es ∙ sym (moved (Phase.On Dir.Right) e es)

  pub step_below : (v : Walk) (after left : List ℕ) (seen : Option ℕ) → done left (option_to_list seen) ≡ own_work area used marks w.cur.word (before_of w.before)
      → Went area used left w.cur Dir.Children None (Ok v) after → w.phase ≡ Phase.On Dir.Children → Stepped area used w marks (Ok (v, seen)) after
  step_below v after left seen own says e es = says (es ++ option_to_list seen) ∙ ap (works es) own ∙ sym (moved (Phase.On Dir.Children) e es)
