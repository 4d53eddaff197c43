-- The walk as a machine. A tree whose nodes all pass is walked from its link to the phase behind it (forward); a run that ends at the root has walked such a tree (backward).
use Prim.Native.Nat.{ℕ, zero, suc, ◌≤◌, ◌<◌}
use native.Mathlib.Nat.{not-suc-le-zero}
use native.Mathlib.Omega.{arith}
use mathlib.Core.Path.{◌≡◌, refl, sym, ap, subst, ◌∙◌}
use mathlib.Core.List.{List, [], ◌++◌, append_assoc, append-nil}
use Rattle.sound.specs.Ways.{Dir, to_left, to_below, to_right}
use Rattle.walk.specs.Machine.{Phase, on, up, next, Taken, refused, taken, Done, halt, done, State, bad, here, entered, go, worked, step_at, run}

-- the shape of a tree that was walked, and the steps of its walk and k more
pub data Shape : Type 0 where
  tip : Shape
  fork : Shape → Shape → Shape → Shape

abbrev pub steps : Shape → ℕ → ℕ
steps tip k = k
steps (fork a b c) k = suc (steps a (suc (steps b (suc (steps c (suc k))))))

regroup : (es a b c d : List ℕ) → es ++ a ++ b ++ c ++ d ≡ es ++ (a ++ b ++ c ++ d)
regroup es a b c d = simp append_assoc

module _ (M : Type 0) (link : Dir → ℕ → ℕ) (place : ℕ → ℕ) (enter : M → ℕ → ℕ → Dir → Taken M) (own : M → ℕ → ℕ → Done M) (parent : M → ℕ → ℕ) (came : M → ℕ → Dir) where
  -- the machine's own functions, at these marks
  abbrev pub goes : M → ℕ → Dir → ℕ → List ℕ → ℕ → State M
  goes = go M link place enter own parent came

  abbrev pub runs : ℕ → State M → State M
  runs = run M link place enter own parent came

  abbrev enters : ℕ → ℕ → List ℕ → Taken M → State M
  enters = entered M link place enter own parent came

  abbrev works : ℕ → List ℕ → Done M → State M
  works = worked M link place enter own parent came

  abbrev moves : M → ℕ → Phase → ℕ → List ℕ → State M
  moves = step_at M link place enter own parent came

  -- the tree at a link: marks, node, direction, node before; then the marks after it, the last node, the entries listed
  pub data Walked : Shape → M → ℕ → Dir → ℕ → M → ℕ → List ℕ → Type 0 where
    none : {m : M} {p : ℕ} {dir : Dir} {before : ℕ} → link dir p ≡ 0 → Walked tip m p dir before m before []
    some : {a b c : Shape} {m : M} {p : ℕ} {dir : Dir} {before l n : ℕ} {m0 m1 m2 m3 m4 : M} {r1 r3 r4 : ℕ} {f1 f2 f3 f4 : List ℕ}
        → link dir p ≡ suc l → place (suc l) ≡ suc n → enter m (suc l) p dir ≡ taken m0
        → Walked a m0 (suc n) to_left before m1 r1 f1 → own m1 (suc n) r1 ≡ done m2 f2
        → Walked b m2 (suc n) to_below 0 m3 r3 f3 → Walked c m3 (suc n) to_right (suc n) m4 r4 f4
        → Walked (fork a b c) m p dir before m4 r4 (f1 ++ f2 ++ f3 ++ f4)

  -- what is asked of the marks: they only grow, and a node's record stays
  pub record Laws : Type 1 where
    pub Fits : ℕ → Type 0
    pub Le : M → M → Type 0
    pub Rec : M → ℕ → ℕ → Dir → Type 0
    pub le_refl : (m : M) → Le m m
    pub le_trans : {a b c : M} → Le a b → Le b c → Le a c
    pub enter-le : {m m' : M} {l p : ℕ} {dir : Dir} → enter m l p dir ≡ taken m' → Le m m'
    pub own-le : {m m' : M} {n before : ℕ} {fs : List ℕ} → own m n before ≡ done m' fs → Le m m'
    pub enter-rec : {m m' : M} {l p : ℕ} {dir : Dir} → Fits p → enter m l p dir ≡ taken m' → Rec m' (place l) p dir
    pub enter-fits : {m m' : M} {l p : ℕ} {dir : Dir} → enter m l p dir ≡ taken m' → Fits (place l)
    pub enter-some : {m m' : M} {l p : ℕ} {dir : Dir} → enter m l p dir ≡ taken m' → (n : ℕ) × (place l ≡ suc n)
    pub rec-le : {m m' : M} {n p : ℕ} {dir : Dir} → Le m m' → Rec m n p dir → Rec m' n p dir
    pub rec-parent : {m : M} {n p : ℕ} {dir : Dir} → Rec m n p dir → parent m n ≡ p
    pub rec-came : {m : M} {n p : ℕ} {dir : Dir} → Rec m n p dir → came m n ≡ dir

  -- back at the root
  abbrev pub Ends : State M → Type 0
  Ends bad = ⊥
  Ends (here m zero phase before es) = Unit {0}
  Ends (here m (suc n) phase before es) = ⊥

  -- what a run that ends has walked from a link on
  pub record Passed (k : ℕ) (m : M) (p : ℕ) (dir : Dir) (before : ℕ) (es : List ℕ) : Type 0 where
    pub shape : Shape
    pub m' : M
    pub last : ℕ
    pub fs : List ℕ
    pub left : ℕ
    pub walked : Walked shape m p dir before m' last fs
    pub less : left ≤ k
    pub same : runs k (goes m p dir before es (link dir p)) ≡ runs left (here m' p (next dir) last (es ++ fs))

  -- a link that is zero, a link to a node that can be entered, a node's own work
  go-past : (k : ℕ) (m : M) {p : ℕ} {dir : Dir} (before : ℕ) (es : List ℕ) → link dir p ≡ 0
      → runs k (goes m p dir before es (link dir p)) ≡ runs k (here m p (next dir) before (es ++ []))
  go-past k m {p} {dir} before es e =
      ap (λ (l : ℕ). runs k (goes m p dir before es l)) e ∙ ap (λ (v : List ℕ). runs k (here m p (next dir) before v)) (sym (append-nil es))

  go-enters : (k : ℕ) {m m' : M} {l n p : ℕ} {dir : Dir} (before : ℕ) (es : List ℕ) → link dir p ≡ suc l → place (suc l) ≡ suc n → enter m (suc l) p dir ≡ taken m'
      → runs k (goes m p dir before es (link dir p)) ≡ runs k (here m' (suc n) (on to_left) before es)
  go-enters k {m} {m'} {l} {n} {p} {dir} before es e f i =
      ap (λ (x : ℕ). runs k (goes m p dir before es x)) e ∙ ap (λ (x : Taken M). runs k (enters (suc l) before es x)) i ∙ ap (λ (x : ℕ). runs k (here m' x (on to_left) before es)) f

  own-goes : (k : ℕ) {m m' : M} {n before : ℕ} (es : List ℕ) {fs : List ℕ} → own m (suc n) before ≡ done m' fs
      → runs k (moves m (suc n) (on to_below) before es) ≡ runs k (goes m' (suc n) to_below 0 (es ++ fs) (link to_below (suc n)))
  own-goes k {n = n} es e = ap (λ (d : Done M). runs k (works (suc n) es d)) e

  -- a run that ends never was bad; where it worked at a node, that work was done
  never-bad : (k : ℕ) → Ends (runs k bad) → ⊥
  never-bad zero x = x
  never-bad (suc k) x = never-bad k x

  worked-well : (k : ℕ) (m : M) (n before : ℕ) (es : List ℕ) → Ends (runs k (here m (suc n) (on to_below) before es))
      → (m' : M) × (fs : List ℕ) × (own m (suc n) before ≡ done m' fs)
  worked-well zero m n before es x = absurd x
  worked-well (suc k) m n before es x = by (own m (suc n) before) refl x
    where
      by : (d : Done M) → own m (suc n) before ≡ d → Ends (runs k (works (suc n) es d)) → (m' : M) × (fs : List ℕ) × (own m (suc n) before ≡ done m' fs)
      by halt e x = absurd (never-bad k x)
      by (done m' fs) e x = (m', fs, e)

  -- one side of a node in a run that ends: what was walked, and the run from there on
  record Side (k : ℕ) (state : State M) (m : M) (n : ℕ) (dir : Dir) (before : ℕ) (es : List ℕ) : Type 0 where
    shape : Shape
    m' : M
    last : ℕ
    fs : List ℕ
    left : ℕ
    walked : Walked shape m (suc n) dir before m' last fs
    less : left < k
    same : runs k state ≡ runs left (here m' (suc n) (next dir) last (es ++ fs))
    ends : Ends (runs left (here m' (suc n) (next dir) last (es ++ fs)))

  module _ (laws : Laws) where
    open laws use {Fits, Le, Rec, le_refl, le_trans, enter-le, own-le, enter-rec, enter-fits, enter-some, rec-le, rec-parent, rec-came}

    pub grows : {s : Shape} {m m' : M} {p before last : ℕ} {dir : Dir} {fs : List ℕ} → Walked s m p dir before m' last fs → Le m m'
    grows (none e) = le_refl _
    grows (some e f i a o b c) = le_trans (enter-le i) (le_trans (grows a) (le_trans (own-le o) (le_trans (grows b) (grows c))))

    up-goes : (k : ℕ) {m : M} {n p : ℕ} {dir : Dir} (before : ℕ) (es : List ℕ) → Rec m (suc n) p dir
        → runs k (moves m (suc n) up before es) ≡ runs k (here m p (next dir) before es)
    up-goes k {m} {n} {p} {dir} before es r =
        ap (λ (x : ℕ). runs k (here m x (next (came m (suc n))) before es)) (rec-parent r) ∙ ap (λ (x : Dir). runs k (here m p (next x) before es)) (rec-came r)

    -- the node's record after its walk
    rec-stays : {a b c : Shape} {m : M} {p : ℕ} {dir : Dir} {before l n : ℕ} {m0 m1 m2 m3 m4 : M} {r1 r3 r4 : ℕ} {f1 f2 f3 f4 : List ℕ}
        → Fits p → place (suc l) ≡ suc n → enter m (suc l) p dir ≡ taken m0 → Walked a m0 (suc n) to_left before m1 r1 f1 → own m1 (suc n) r1 ≡ done m2 f2
        → Walked b m2 (suc n) to_below 0 m3 r3 f3 → Walked c m3 (suc n) to_right (suc n) m4 r4 f4 → Rec m4 (suc n) p dir
    rec-stays {p = p} {dir = dir} {m4 = m4} fits f i a o b c =
        subst (λ (v : ℕ). Rec m4 v p dir) f (rec-le (le_trans (grows a) (le_trans (own-le o) (le_trans (grows b) (grows c)))) (enter-rec fits i))

    node-fits : {m m' : M} {l n p : ℕ} {dir : Dir} → place l ≡ suc n → enter m l p dir ≡ taken m' → Fits (suc n)
    node-fits f i = subst Fits f (enter-fits i)

    pub forward : {s : Shape} {m m' : M} {p before last : ℕ} {dir : Dir} {fs : List ℕ} → Fits p → Walked s m p dir before m' last fs → (k : ℕ) (es : List ℕ)
        → runs (steps s k) (goes m p dir before es (link dir p)) ≡ runs k (here m' p (next dir) last (es ++ fs))
    forward {m = m} {before = before} fits (none e) k es = go-past k m before es e
    forward {p = p} {before = before} {dir = dir} fits (some {a = sa} {b = sb} {c = sc} {m4 = m4} {r4 = r4} {f1 = f1} {f2 = f2} {f3 = f3} {f4 = f4} e f i a o b c) k es =
        let q = node-fits f i in
        go-enters (steps (fork sa sb sc) k) before es e f i
        ∙ forward q a (suc (steps sb (suc (steps sc (suc k))))) es
        ∙ own-goes (steps sb (suc (steps sc (suc k)))) (es ++ f1) o
        ∙ forward q b (suc (steps sc (suc k))) (es ++ f1 ++ f2)
        ∙ forward q c (suc k) (es ++ f1 ++ f2 ++ f3)
        ∙ up-goes k r4 (es ++ f1 ++ f2 ++ f3 ++ f4) (rec-stays fits f i a o b c)
        ∙ ap (λ (v : List ℕ). runs k (here m4 p (next dir) r4 v)) (regroup es f1 f2 f3 f4)

    -- by the steps that a run has, fewer than so many
    abbrev Backward : ℕ → Type 0
    Backward most = (k : ℕ) → k < most → (m : M) (p : ℕ) (dir : Dir) (before : ℕ) (es : List ℕ) → Fits p → Ends (runs k (goes m p dir before es (link dir p))) → Passed k m p dir before es

    side : (most : ℕ) → Backward most → (k : ℕ) → k ≤ most → (m0 : M) (phase : Phase) (before0 : ℕ) (es0 : List ℕ) (m : M) (n : ℕ) (dir : Dir) (before : ℕ) (es : List ℕ) → Fits (suc n)
        → ((j : ℕ) → runs j (moves m0 (suc n) phase before0 es0) ≡ runs j (goes m (suc n) dir before es (link dir (suc n))))
        → Ends (runs k (here m0 (suc n) phase before0 es0)) → Side k (here m0 (suc n) phase before0 es0) m n dir before es
    side most ih zero h m0 phase before0 es0 m n dir before es fits turn x = absurd x
    side most ih (suc j) h m0 phase before0 es0 m n dir before es fits turn x =
        let y = subst Ends (turn j) x in
        let q = ih j h m (suc n) dir before es fits y in
        record {
          shape = q.shape;
          m' = q.m';
          last = q.last;
          fs = q.fs;
          left = q.left;
          walked = q.walked;
          less = omega (arith, q.less);
          same = turn j ∙ q.same;
          ends = subst Ends q.same y;
        }

    up_ends : (k : ℕ) {m : M} {n p : ℕ} {dir : Dir} (before : ℕ) (es : List ℕ) → Rec m (suc n) p dir → Ends (runs k (here m (suc n) up before es))
        → (left : ℕ) × (left < k) × (runs k (here m (suc n) up before es) ≡ runs left (here m p (next dir) before es))
    up_ends zero before es r x = absurd x
    up_ends (suc k) before es r x = (k, omega arith, up-goes k before es r)

    -- a node that was entered: its left side, its own work and what hangs below it, its right side, and up again
    module _ (most : ℕ) (ih : Backward most) (k : ℕ) (h : k ≤ most) (m : M) (p : ℕ) (dir : Dir) (before : ℕ) (es : List ℕ) (l n : ℕ) (m0 : M) (fits : Fits p)
        (e : link dir p ≡ suc l) (f : place (suc l) ≡ suc n) (i : enter m (suc l) p dir ≡ taken m0) where
      abbrev Left : Type 0
      Left = Side k (here m0 (suc n) (on to_left) before es) m0 n to_left before es

      abbrev Below : Left → M → List ℕ → Type 0
      Below a m2 f2 = Side a.left (here a.m' (suc n) (on to_below) a.last (es ++ a.fs)) m2 n to_below 0 (es ++ a.fs ++ f2)

      node-up : (a : Left) (m2 : M) (f2 : List ℕ) → own a.m' (suc n) a.last ≡ done m2 f2 → (b : Below a m2 f2)
          → Side b.left (here b.m' (suc n) (on to_right) b.last (es ++ a.fs ++ f2 ++ b.fs)) b.m' n to_right (suc n) (es ++ a.fs ++ f2 ++ b.fs)
          → Passed k m p dir before es
      node-up a m2 f2 o b c =
          let r = rec-stays fits f i a.walked o b.walked c.walked in
          let u = up_ends c.left c.last (es ++ a.fs ++ f2 ++ b.fs ++ c.fs) r c.ends in
          record {
            shape = fork a.shape b.shape c.shape;
            m' = c.m';
            last = c.last;
            fs = a.fs ++ f2 ++ b.fs ++ c.fs;
            left = u.0;
            walked = some e f i a.walked o b.walked c.walked;
            less = omega (arith, a.less, b.less, c.less, u.1);
            same = go-enters k before es e f i ∙ a.same ∙ b.same ∙ c.same ∙ u.2
                ∙ ap (λ (v : List ℕ). runs u.0 (here c.m' p (next dir) c.last v)) (regroup es a.fs f2 b.fs c.fs);
          }

      node-right : (a : Left) (m2 : M) (f2 : List ℕ) → own a.m' (suc n) a.last ≡ done m2 f2 → Below a m2 f2 → Passed k m p dir before es
      node-right a m2 f2 o b =
          let eb : List ℕ = es ++ a.fs ++ f2 ++ b.fs in
          node-up a m2 f2 o b
          (side most ih b.left (omega (arith, a.less, b.less)) b.m' (on to_right) b.last eb b.m' n to_right (suc n) eb (node-fits f i) (λ j. refl) b.ends)

      node-below : Left → Passed k m p dir before es
      node-below a =
          let o = worked-well a.left a.m' n a.last (es ++ a.fs) a.ends in
          node-right a o.0 o.1 o.2
          (side most ih a.left (omega (arith, a.less)) a.m' (on to_below) a.last (es ++ a.fs) o.0 n to_below 0 (es ++ a.fs ++ o.1) (node-fits f i)
          (λ j. own-goes j (es ++ a.fs) o.2) a.ends)

      through : Ends (runs k (here m0 (suc n) (on to_left) before es)) → Passed k m p dir before es
      through x = node-below (side most ih k h m0 (on to_left) before es m0 n to_left before es (node-fits f i) (λ j. refl) x)

    along : (most : ℕ) → Backward most → (k : ℕ) → k ≤ most → (m : M) (p : ℕ) (dir : Dir) (before : ℕ) (es : List ℕ) → Fits p → (v : ℕ) → link dir p ≡ v
        → Ends (runs k (goes m p dir before es v)) → Passed k m p dir before es
    along most ih k h m p dir before es fits zero e x =
        record { shape = tip; m' = m; last = before; fs = []; left = k; walked = none e; less = omega arith; same = go-past k m before es e }
    along most ih k h m p dir before es fits (suc l) e x = by (enter m (suc l) p dir) refl x
      where
        by : (t : Taken M) → enter m (suc l) p dir ≡ t → Ends (runs k (enters (suc l) before es t)) → Passed k m p dir before es
        by refused i x = absurd (never-bad k x)
        by (taken m0) i x =
            let q = enter-some i in
            through most ih k h m p dir before es l q.0 m0 fits e q.1 i (subst (λ (v : ℕ). Ends (runs k (here m0 v (on to_left) before es))) q.1 x)

    backwards : (most : ℕ) → Backward most
    backwards zero k h m p dir before es fits x = absurd (not-suc-le-zero h)
    backwards (suc most) k h m p dir before es fits x = along most (backwards most) k (omega arith) m p dir before es fits (link dir p) refl x

    pub backward : {p : ℕ} → Fits p → (k : ℕ) (m : M) (dir : Dir) (before : ℕ) (es : List ℕ) → Ends (runs k (goes m p dir before es (link dir p))) → Passed k m p dir before es
    backward {p} fits k m dir before es x = backwards (suc k) k (omega arith) m p dir before es fits x
