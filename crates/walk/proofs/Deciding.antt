-- The walk decides soundness: over marks that are all zero it ends at the root exactly if there is a tree, and lists that tree's entries.
use Prim.Native.Nat.{ℕ, zero, suc, ◌-◌, ◌*◌, ◌/◌, ◌≤◌}
use native.Mathlib.Omega.{arith}
use mathlib.Core.Path.{◌≡◌, refl, sym, ap, ◌∙◌}
use mathlib.Core.Logic.{inl, inr}
use mathlib.Core.Bool.{true, false≢true}
use mathlib.Core.List.{List, []}
use lib.ListN.{length, get_or}
use Rattle.layout.specs.Layout.{word_size, first_free, byte_of}
use Rattle.trie.proofs.HeaderLaws.{header-max}
use Rattle.sound.specs.Tree.{Tree, listed}
use Rattle.sound.specs.Sound.{Front, Room, Sound}
use Rattle.sound.specs.Ways.{to_below, to_right, nodes}
use Rattle.sound.proofs.Inside.{inside-cases, inside-most}
use Rattle.sound.proofs.Counting.{nodes-few}
use Rattle.walk.specs.Machine.{Phase, on, State, bad, here}
use Rattle.walk.specs.Model.{link_at, place_at, enter_at, own_work, parent_at, came_at, run_at, walk_at, steps_max, ended, entries_of}
use Rattle.walk.proofs.Growing.{Grew, grew_refl, grew_trans, number_max, Came, keeps-grew, top}
use Rattle.walk.proofs.MarkLaws.{counted-most, counted-blank}
use Rattle.walk.proofs.NodeLaws.{NodeFits}
use Rattle.walk.proofs.Entering.{entered-inv, came-parent, came-dir, own-grew}
use Rattle.walk.proofs.Made.{made, under-below}
use Rattle.walk.proofs.Passing.{goes}
use Rattle.walk.proofs.MachineLaws.{steps, Laws, Ends, forward, backward}

abbrev pub Blank : List ℕ → Type 0
Blank marks = (i : ℕ) → get_or marks i 0 ≡ 0

module _ (area : List ℕ) (used : ℕ) where
  -- what the machine's theorems ask of marks
  lawful : used ≤ 4 * number_max → Laws (List ℕ) (link_at area) place_at (enter_at area used) (own_work area used) parent_at came_at
  lawful small = record {
    Fits = λ n. n ≤ number_max;
    Le = Grew;
    Rec = Came;
    le_refl = λ m. grew_refl m;
    le_trans = λ {a = x} {b = y} {c = z} f g. grew_trans x y z f g;
    enter-le = λ {m} {m'} {l} {p} {dir} e. (entered-inv area used m l p dir m' e).grew;
    own-le = λ {m} {m'} {n} {before} {fs} e. own-grew area used m m' n before fs e;
    enter-rec = λ {m} {m'} {l} {p} {dir} f e. (entered-inv area used m l p dir m' e).came f;
    enter-fits = λ {m} {m'} {l} {p} {dir} e. fits l (entered-inv area used m l p dir m' e).fits;
    enter-some = λ {m} {m'} {l} {p} {dir} e. first l (entered-inv area used m l p dir m' e).fits.low;
    rec-le = λ {m} {m'} {n} {p} {dir} g r. keeps-grew m m' n _ g r;
    rec-parent = λ {m} {n} {p} {dir} r. came-parent m n p dir r;
    rec-came = λ {m} {n} {p} {dir} r. came-dir m n p dir r;
  }
    where
      fits : (l : ℕ) → NodeFits area used l → place_at l ≤ number_max
      fits l F = omega (arith, F.high)

      first : (l : ℕ) → first_free ≤ l → (n : ℕ) × (place_at l ≡ suc n)
      first l h = (l / word_size - 1, omega arith)

  -- the root fits
  root-fits : (small : used ≤ 4 * number_max) → (lawful small).Fits 0
  unfolding lawful
  root-fits small = omega arith

  still : (k : ℕ) (m : List ℕ) (phase : Phase) (before : ℕ) (es : List ℕ) → run_at area used k (here m 0 phase before es) ≡ here m 0 phase before es
  still zero m phase before es = refl
  still (suc k) m phase before es = still k m phase before es

  ends_of : (state : State (List ℕ)) → ended state ≡ true → Ends (List ℕ) (link_at area) place_at (enter_at area used) (own_work area used) parent_at came_at state
  ends_of bad e = absurd (false≢true e)
  ends_of (here m zero phase before es) e = tt
  ends_of (here m (suc n) phase before es) e = absurd (false≢true e)

  module _ (F : Front area used) (marks : List ℕ) (blank : Blank marks) where
    small : used ≤ 4 * number_max
    small = omega (arith, F.high, header-max area F.header)

    -- a walk that ends has found a tree
    pub found : (k : ℕ) → ended (walk_at area used marks k) ≡ true → (tree : Tree) × Sound area used tree
    found k e =
        let P = backward (List ℕ) (link_at area) place_at (enter_at area used) (own_work area used) parent_at came_at (lawful small) {p = 0} (root-fits small) k marks to_below 0 [] (ends_of (walk_at area used marks k) e) in
        let M = made area used F.aligned small P.walked (omega arith) [] (under-below area marks 0 [] top) in
        let room : Room used M.tree = λ i. elim (inside-cases (byte_of first_free) (used - first_free) i) [
          | inl z ↦ omega (arith, z, M.within i z)
          | inr z ↦ omega (arith, z.0, M.count i, counted-blank marks blank i, counted-most P.m' i)
        ] in
        (M.tree, record { front = F; top = M.linked; room = room; bytes = M.bytes; rule = M.rule })

    -- where there is a tree, the walk ends, and lists its entries
    pub walks : used ≤ 4 * length marks → (tree : Tree) → Sound area used tree
        → (ended (walk_at area used marks (steps_max area)) ≡ true) × (entries_of (walk_at area used marks (steps_max area)) ≡ listed tree)
    walks marked tree S =
        let G = goes area used F.low small tree marks 0 to_below 0 [] (record {
          linked = S.top;
          bytes = S.bytes;
          rule = S.rule;
          near = omega arith;
          under = under-below area marks 0 [] top;
          clean = λ k h z. omega arith;
          free = λ i. omega (arith, counted-blank marks blank i, S.room i, inside-most (byte_of first_free) (used - first_free) i);
          within = S.room;
          marked = marked;
          order = λ h. absurd (h refl);
        }) in
        let spare : ℕ = steps_max area - 4 * nodes tree in
        let e : steps G.shape (steps_max area - 4 * nodes tree) ≡ steps_max area = omega (arith, G.taking (steps_max area - 4 * nodes tree), nodes-few area used tree S, F.high) in
        let r : walk_at area used marks (steps_max area) ≡ here G.after 0 (on to_right) G.last (listed tree)
        = ap (walk_at area used marks) (sym e)
        ∙ forward (List ℕ) (link_at area) place_at (enter_at area used) (own_work area used) parent_at came_at (lawful small) (root-fits small) G.walked (steps_max area - 4 * nodes tree) []
        ∙ still (steps_max area - 4 * nodes tree) G.after (on to_right) G.last (listed tree) in
        (ap ended r, ap entries_of r)
