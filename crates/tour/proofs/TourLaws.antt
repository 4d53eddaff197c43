-- What the walk's loop keeps, and one law for each way out of tour.
use mathlib.Core.Path.{◌≡◌, refl, sym, ap, ◌∙◌}
use mathlib.Core.Bool.{true, false}
use mathlib.Core.List.{List, [], ◌++◌}
use Prim.Native.Nat.{ℕ, zero, suc, ◌+◌, ◌-◌, ◌≤◌, ◌<◌}
use native.Mathlib.Nat.{zero-add, sub-zero}
use native.Mathlib.Omega.{arith}
use lib.ListN.{length, length-append}
use Rattle.std.specs.Prelude.{Option, Some, None, Result, Ok, Err, option_to_list}
use Rattle.words.specs.Words.{put}
use Rattle.words.proofs.StoreLaws.{put-append}
use Rattle.sound.specs.Ways.{to_below}
use Rattle.walk.specs.Machine.{Phase, State, bad, here}
use Rattle.walk.specs.Model.{link_at, go_at, step_at, run_at, steps_max, ended, entries_of}
use Rattle.probes.specs.declared.marks.Damaged.{Damaged}
use Rattle.probes.specs.declared.number.NodeNumber.{NodeNumber}
use Rattle.works.specs.View.{before_of}
use Rattle.tour.specs.View.{phase_of, view, walked, listing, Went, Stepped, toured, Noted}
use Rattle.tour.specs.declared.phases.Dir.{Dir}
use Rattle.tour.specs.declared.place.Walk.{Walk}

-- the root's number
abbrev root : NodeNumber
root = record { word = 0; small = omega arith }

-- where a walk over the whole tree begins: the root's children
abbrev pub begun_at : List ℕ → ℕ → List ℕ → State (List ℕ)
begun_at area used start = go_at area used start 0 to_below 0 [] (link_at area to_below 0)

-- a run by one step less; one that rests
run-turn : (area : List ℕ) (used k i : ℕ) (state : State (List ℕ)) → i < k → run_at area used (k - i) state ≡ run_at area used (k - (i + 1)) (step_at area used state)
run-turn area used k i state h =
    let e : k - i ≡ suc (k - (i + 1)) = omega arith in
    ap (λ (j : ℕ). run_at area used j state) e

run-bad : (area : List ℕ) (used k : ℕ) → run_at area used k bad ≡ bad
run-bad area used zero = refl
run-bad area used (suc k) = run-bad area used k

run-root : (area : List ℕ) (used k : ℕ) (marks : List ℕ) (phase : Phase) (before : ℕ) (es : List ℕ)
    → run_at area used k (here marks 0 phase before es) ≡ here marks 0 phase before es
run-root area used zero marks phase before es = refl
run-root area used (suc k) marks phase before es = run-root area used k marks phase before es

-- a step's outcome taken apart: where the walk is, and the entries that it saw
abbrev pub walk_in : Result (Walk × Option ℕ) Damaged → Result Walk Damaged
walk_in (Ok step) = Ok step.0
walk_in (Err damaged) = Err damaged

abbrev pub seen_in : Result (Walk × Option ℕ) Damaged → List ℕ
seen_in (Ok step) = option_to_list step.1
seen_in (Err damaged) = []

-- at each turn: the run that is left ends as the one that was begun does, and the entries seen so far are counted and noted
pub record Going (area : List ℕ) (used : ℕ) (begun : State (List ℕ)) (marks₀ list₀ : List ℕ) (r : Result Walk Damaged) (marks list : List ℕ) (i entries : ℕ) : Type 0 where
  pub marked : length marks ≡ length marks₀
  pub listed : length list ≡ length list₀
  pub few : entries ≤ i
  pub es : List ℕ
  pub counts : entries ≡ length es
  pub notes : list ≡ put list₀ 0 es
  pub same : run_at area used (steps_max area - i) (walked r marks es) ≡ run_at area used (steps_max area) begun

pub going-begins : (area : List ℕ) (used : ℕ) (begun : State (List ℕ)) (marks₀ list : List ℕ) (r : Result Walk Damaged) (marks : List ℕ)
    → walked r marks [] ≡ begun → length marks ≡ length marks₀ → Going area used begun marks₀ list r marks list 0 0
unfolding put
going-begins area used begun marks₀ list r marks says marked =
    record { marked = marked; listed = refl; few = omega arith; es = []; counts = refl; notes = refl; same = rw sub-zero (ap (run_at area used (steps_max area)) says) }

module _ (area : List ℕ) (used : ℕ) (begun : State (List ℕ)) (marks₀ list₀ : List ℕ) where
  -- a walk that found damage does not end well
  pub tour-fails : (damaged : Damaged) (marks list : List ℕ) (i entries : ℕ) → Going area used begun marks₀ list₀ (Err damaged) marks list i entries → false ≡ ended (run_at area used (steps_max area) begun)
  tour-fails damaged marks list i entries g = ap ended (sym (run-bad area used (steps_max area - i)) ∙ g.same)

  -- a step of it, from wherever it is: `Stepped`, where it has not found damage
  module _ (r₀ : Result Walk Damaged) (marks list : List ℕ) (i entries : ℕ) (g : Going area used begun marks₀ list₀ r₀ marks list i entries) where
    turned : i < steps_max area → (r : Result (Walk × Option ℕ) Damaged) (after : List ℕ) → ((es : List ℕ) → listing r after es ≡ step_at area used (walked r₀ marks es))
        → run_at area used (steps_max area - (i + 1)) (listing r after g.es) ≡ run_at area used (steps_max area) begun
    turned h r after says = ap (run_at area used (steps_max area - (i + 1))) (says g.es) ∙ sym (run-turn area used (steps_max area) i (walked r₀ marks g.es) h) ∙ g.same

    pub going_on : i < steps_max area → (r : Result (Walk × Option ℕ) Damaged) (after noted : List ℕ) (count : ℕ)
        → length after ≡ length marks → length noted ≡ length list
        → ((es : List ℕ) → listing r after es ≡ step_at area used (walked r₀ marks es)) → count ≡ entries + length (seen_in r) → noted ≡ put list entries (seen_in r)
        → Going area used begun marks₀ list₀ (walk_in r) after noted (i + 1) count
    going_on h r after noted count marked listed says c n =
        record {
          marked = marked ∙ g.marked;
          listed = listed ∙ g.listed;
          few = omega (arith, g.few, c, one-most r);
          es = g.es ++ seen_in r;
          counts = c ∙ ap (λ (k : ℕ). k + length (seen_in r)) g.counts ∙ sym (length-append g.es (seen_in r));
          notes = n ∙ noted_more (seen_in r);
          same = ap (run_at area used (steps_max area - (i + 1))) (sym (apart r)) ∙ turned h r after says;
        }
      where
        apart : (r : Result (Walk × Option ℕ) Damaged) → listing r after g.es ≡ walked (walk_in r) after (g.es ++ seen_in r)
        apart (Ok step) = refl
        apart (Err damaged) = refl

        one-most : (r : Result (Walk × Option ℕ) Damaged) → length (seen_in r) ≤ 1
        one-most (Ok (v, None)) = omega arith
        one-most (Ok (v, Some at)) = omega arith
        one-most (Err damaged) = omega arith

        noted_more : (fs : List ℕ) → put list entries fs ≡ put list₀ 0 (g.es ++ fs)
        noted_more fs = rw (g.counts, g.notes) (sym (rw zero-add at (put-append list₀ 0 g.es fs)))

  module _ (w : Walk) (marks list : List ℕ) (i entries : ℕ) (g : Going area used begun marks₀ list₀ (Ok w) marks list i entries) where
    pub step-damaged : i < steps_max area → (damaged : Damaged) (after : List ℕ) → Stepped area used w marks (Err damaged) after → false ≡ ended (run_at area used (steps_max area) begun)
    step-damaged h damaged after says = ap ended (sym (run-bad area used (steps_max area - (i + 1))) ∙ turned (Ok w) marks list i entries g h (Err damaged) after says)

    pub tour-ends : w.cur.word ≡ 0 → (true ≡ ended (run_at area used (steps_max area) begun)) × Noted (run_at area used (steps_max area) begun) entries list₀ list
    tour-ends h =
        let rests : here marks 0 (phase_of w.phase) (before_of w.before) g.es ≡ run_at area used (steps_max area) begun =
        sym (run-root area used (steps_max area - i) marks (phase_of w.phase) (before_of w.before) g.es)
        ∙ ap (λ (n : ℕ). run_at area used (steps_max area - i) (here marks n (phase_of w.phase) (before_of w.before) g.es)) (sym h)
        ∙ g.same in
        let e : g.es ≡ entries_of (run_at area used (steps_max area) begun) = ap entries_of rests in
        (ap ended rests, (g.counts ∙ ap length e, g.notes ∙ ap (put list₀ 0) e))

    pub tour-endless : steps_max area ≤ i → (w.cur.word ≡ 0 → ⊥) → false ≡ ended (run_at area used (steps_max area) begun)
    tour-endless h n =
        let z : steps_max area - i ≡ 0 = omega arith in
        below w.cur.word n ∙ ap ended (sym (ap (λ (k : ℕ). run_at area used k (view w marks g.es)) z) ∙ g.same)
      where
        below : (n : ℕ) → (n ≡ 0 → ⊥) → false ≡ ended (here marks n (phase_of w.phase) (before_of w.before) g.es)
        below zero h = absurd (h refl)
        below (suc n) h = refl

-- a walk that is damaged at its first link
pub go-damaged : (area : List ℕ) (used : ℕ) (start : List ℕ) (damaged : Damaged) (marks : List ℕ) → Went area used start root Dir.Children None (Err damaged) marks → false ≡ ended (toured area used start)
go-damaged area used start damaged marks says =
    let begun = begun_at area used start in
    tour-fails area used begun marks [] damaged marks [] 0 0 (going-begins area used begun marks [] (Err damaged) marks (says []) refl)
