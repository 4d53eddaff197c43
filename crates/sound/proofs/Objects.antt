-- What counts of bytes say about the objects of a tree, and back.
use Prim.Native.Nat.{ℕ, ◌+◌, ◌-◌, ◌≤◌}
use native.Mathlib.Omega.{arith}
use mathlib.Core.Path.{◌≡◌, refl}
use mathlib.Core.Logic.{inl, inr}
use mathlib.Core.List.{List, [], ◌∷◌, ◌++◌}
use lib.Dec.{eqb}
use lib.ListN.{length}
use borrow.Author.Tests.{eqb-true}
use Rattle.words.proofs.Laws.{bool_cases}
use Rattle.names.specs.Names.{dot}
use Rattle.layout.specs.Layout.{entry_takes, first_free, byte_of}
use Rattle.sound.specs.Tree.{Value, short, long, Entry, bare, entry, Tree, leaf, node, listed_own, listed, inside, value_cover, entry_cover, cover}
use Rattle.sound.specs.Sound.{ValueRule, EntryRule, TreeRule, Room}
use Rattle.sound.specs.Objects.{Object, takes, value_objects, entry_objects, objects, Each, Takes, ShareNone, Apart, Between, Aligned, times}
use Rattle.sound.proofs.Inside.{inside-yes, inside-most, inside-cases, inside-between}

-- ---- the count over the list is the count over the tree
abbrev taken : Object → ℕ → ℕ
taken x i = inside (byte_of x.at) (takes x) i

pub covers : List Object → ℕ → ℕ
covers [] i = 0
covers (x ∷ xs) i = taken x i + covers xs i

covers-append : (xs ys : List Object) (i : ℕ) → covers (xs ++ ys) i ≡ covers xs i + covers ys i
unfolding covers
covers-append [] ys i = omega arith
covers-append (x ∷ xs) ys i = omega (arith, covers-append xs ys i)

value-covers : (value : Value) (i : ℕ) → covers (value_objects value) i ≡ value_cover value i
unfolding covers value_cover
value-covers (short slot) i = refl
value-covers (long at text) i = omega arith

entry-covers : (own : Entry) (i : ℕ) → covers (entry_objects own) i ≡ entry_cover own i
unfolding covers entry_cover
entry-covers bare i = refl
entry-covers (entry at serial name value) i = omega (arith, value-covers value i)

pub tree-covers : (tree : Tree) (i : ℕ) → covers (objects tree) i ≡ cover tree i
unfolding covers cover
tree-covers leaf i = refl
tree-covers (node at name own left below right) i =
    omega (
      arith,
      covers-append (entry_objects own) (objects left ++ (objects below ++ objects right)) i,
      covers-append (objects left) (objects below ++ objects right) i,
      covers-append (objects below) (objects right) i,
      entry-covers own i,
      tree-covers left i,
      tree-covers below i,
      tree-covers right i,
    )

-- ---- a byte is counted once at most, exactly if no two share one
none-shared : (x : Object) (xs : List Object) → ((i : ℕ) → taken x i + covers xs i ≤ 1) → Each (ShareNone x) xs
unfolding covers
none-shared x [] once = tt
none-shared x (y ∷ ys) once = (
  (λ i p q. omega (arith, once i, inside-yes (byte_of x.at) (takes x) i p.0 p.1, inside-yes (byte_of y.at) (takes y) i q.0 q.1)),
  none-shared x ys (λ i. omega (arith, once i)),
)

apart_of : (xs : List Object) → ((i : ℕ) → covers xs i ≤ 1) → Apart xs
unfolding covers
apart_of [] once = tt
apart_of (x ∷ xs) once = (none-shared x xs once, apart_of xs (λ i. omega (arith, once i)))

not_covered : (x : Object) (xs : List Object) → Each (ShareNone x) xs → (i : ℕ) → Takes x i → covers xs i ≡ 0
unfolding covers
not_covered x [] apart i t = refl
not_covered x (y ∷ ys) apart i t =
    let rest = not_covered x ys apart.1 i t in
    elim (inside-cases (byte_of y.at) (takes y) i) [ inl z ↦ omega (arith, z, rest) | inr z ↦ absurd (apart.0 i t (z.1, z.2)) ]

-- ---- and no byte is counted outside, exactly if each lies between
module _ (used : ℕ) (low : first_free ≤ used) where
  abbrev room : ℕ → ℕ
  room i = inside (byte_of first_free) (used - first_free) i

  between-of : (xs : List Object) → ((i : ℕ) → covers xs i ≤ room i) → Each (Between used) xs
  unfolding covers
  between-of [] within = tt
  between-of (x ∷ xs) within =
      let e : byte_of used - byte_of first_free ≡ used - first_free = omega arith in
      let b = inside-between (byte_of x.at) (takes x) (byte_of first_free) (byte_of used) (omega arith) (omega arith) (λ i. rw e (omega (arith, within i))) in
      ((omega (arith, b.0), omega (arith, b.1)), between-of xs (λ i. omega (arith, within i)))

  pub room_of : (xs : List Object) → Apart xs → Each (Between used) xs → (i : ℕ) → covers xs i ≤ room i
  unfolding covers
  room_of [] apart between i = omega arith
  room_of (x ∷ xs) apart between i =
      let rest = room_of xs apart.1 between.1 i in
      elim (inside-cases (byte_of x.at) (takes x) i) [
        | inl z ↦ omega (arith, z, rest)
        | inr z ↦ omega (
          arith,
          z.0,
          not_covered x xs apart.0 i (z.1, z.2),
          inside-yes (byte_of first_free) (used - first_free) i (omega (arith, between.0.0, z.1)) (omega (arith, between.0.1, z.2)),
        )
      ]

-- ---- of a tree that keeps to its room: no byte is counted twice, and its objects are apart and lie between
module _ (used : ℕ) (tree : Tree) (room : Room used tree) where
  pub room-once : (i : ℕ) → cover tree i ≤ 1
  room-once i = omega (arith, room i, inside-most (byte_of first_free) (used - first_free) i)

  pub room_apart : Apart (objects tree)
  room_apart = apart_of (objects tree) (λ i. omega (arith, tree-covers tree i, room-once i))

  pub room-between : first_free ≤ used → Each (Between used) (objects tree)
  room-between low = between-of used low (objects tree) (λ i. omega (arith, tree-covers tree i, room i))

-- ---- a rule of each
each_append : (P : Object → Type 0) (xs ys : List Object) → Each P xs → Each P ys → Each P (xs ++ ys)
each_append P [] ys p q = q
each_append P (x ∷ xs) ys p q = (p.0, each_append P xs ys p.1 q)

value-aligned : (at serial : ℕ) (name : List ℕ) (value : Value) → ValueRule at serial name value → Each Aligned (value_objects value)
unfolding ValueRule
value-aligned at serial name (short slot) rule = tt
value-aligned at serial name (long far text) rule = (rule.1, tt)

entry-aligned : (path : List ℕ) (own : Entry) → EntryRule path own → Each Aligned (entry_objects own)
unfolding EntryRule
entry-aligned path bare rule = tt
entry-aligned path (entry at serial name value) rule = (rule.1, value-aligned at serial name value rule.2)

pub tree-aligned : (prefix : List ℕ) (tree : Tree) → TreeRule prefix tree → Each Aligned (objects tree)
unfolding TreeRule
tree-aligned prefix leaf rule = tt
tree-aligned prefix (node at name own left below right) rule = (
  rule.0.aligned,
  each_append Aligned (entry_objects own) (objects left ++ (objects below ++ objects right)) (entry-aligned (prefix ++ name) own rule.1)
      (each_append Aligned (objects left) (objects below ++ objects right) (tree-aligned prefix left rule.4)
      (each_append Aligned (objects below) (objects right) (tree-aligned (prefix ++ name ++ dot ∷ []) below rule.5) (tree-aligned prefix right rule.6))),
)

-- ---- an offset stands in the list as often as its first byte is counted, at most
times-append : (at : ℕ) (x y : List ℕ) → times at (x ++ y) ≡ times at x + times at y
unfolding times
times-append at [] y = omega arith
times-append at (b ∷ x) y = omega (arith, times-append at x y)

own-times : (own : Entry) (at : ℕ) → times at (listed_own own) ≤ entry_cover own (byte_of at)
unfolding times listed_own entry_cover
own-times bare at = omega arith
own-times (entry far serial name value) at =
    bool_cases (eqb far at)
    (λ t. rw t (omega (arith, eqb-true far at t, inside-yes (byte_of far) (entry_takes (length name)) (byte_of at) (omega (arith, eqb-true far at t)) (omega (arith, eqb-true far at t)))))
    (λ t. rw t (omega arith))

pub listed-times : (tree : Tree) (at : ℕ) → times at (listed tree) ≤ cover tree (byte_of at)
unfolding times listed cover
listed-times leaf at = omega arith
listed-times (node place name own left below right) at =
    omega (
      arith,
      times-append at (listed left ++ listed_own own ++ listed below) (listed right),
      times-append at (listed left ++ listed_own own) (listed below),
      times-append at (listed left) (listed_own own),
      own-times own at,
      listed-times left at,
      listed-times below at,
      listed-times right at,
    )
