-- Objects that share no byte are few: those of a sound area take at most used - 112 bytes, so it has at most (used - 112) / 24 nodes.
-- By sums of counts over all bytes.
use Prim.Native.Nat.{ℕ, zero, suc, ◌+◌, ◌-◌, ◌*◌, ◌≤◌, ◌<◌, min}
use native.Mathlib.Omega.{arith}
use native.Mathlib.Decide.{dec_lt}
use mathlib.Core.Path.{◌≡◌}
use mathlib.Core.List.{List, [], ◌∷◌, ◌++◌}
use lib.ListN.{length}
use Rattle.names.specs.Names.{dot}
use Rattle.layout.specs.Layout.{byte_of, first_free, node_takes, entry_takes, value_takes}
use Rattle.sound.specs.Tree.{Value, short, long, Entry, bare, entry, Tree, leaf, node, inside, value_cover, entry_cover, cover}
use Rattle.sound.specs.Sound.{TreeRule, Room, Sound}
use Rattle.sound.specs.Ways.{nodes}
use Rattle.sound.proofs.Inside.{inside-yes, inside-below, inside-above, inside-between}

-- a count, over the bytes before a place
sum_to : ℕ → (ℕ → ℕ) → ℕ
sum_to zero count = 0
sum_to (suc n) count = sum_to n count + count n

sum-most : (n : ℕ) (f g : ℕ → ℕ) → ((i : ℕ) → f i ≤ g i) → sum_to n f ≤ sum_to n g
unfolding sum_to
sum-most zero f g h = omega arith
sum-most (suc n) f g h = omega (arith, sum-most n f g h, h n)

sum_inside : (n from size : ℕ) → sum_to n (inside from size) ≡ min size (n - from)
unfolding sum_to
sum_inside zero from size = omega arith
sum_inside (suc n) from size = by (sum_inside n from size) (dec_lt n from) (dec_lt n (from + size))
  where
    by : sum_to n (inside from size) ≡ min size (n - from) → Dec (n < from) → Dec (n < from + size)
        → sum_to n (inside from size) + inside from size n ≡ min size (suc n - from)
    by ih (yes p) q = omega (arith, inside-below from size n p)
    by ih (no p) (yes q) = omega (arith, inside-yes from size n (omega arith) q)
    by ih (no p) (no q) = omega (arith, inside-above from size n (omega arith))

sum-entry : (n at serial : ℕ) (name : List ℕ) (value : Value)
    → sum_to n (entry_cover (entry at serial name value)) ≡ sum_to n (inside (byte_of at) (entry_takes (length name))) + sum_to n (value_cover value)
unfolding sum_to entry_cover
sum-entry zero at serial name value = omega arith
sum-entry (suc n) at serial name value = omega (arith, sum-entry n at serial name value)

sum-node : (n at : ℕ) (name : List ℕ) (own : Entry) (left below right : Tree)
    → sum_to n (cover (node at name own left below right))
    ≡ sum_to n (inside (byte_of at) (node_takes (length name))) + sum_to n (entry_cover own) + sum_to n (cover left) + sum_to n (cover below) + sum_to n (cover right)
unfolding sum_to cover
sum-node zero at name own left below right = omega arith
sum-node (suc n) at name own left below right = omega (arith, sum-node n at name own left below right)

-- ---- what a tree's objects take together
abbrev pub value_taken : Value → ℕ
value_taken (short slot) = 0
value_taken (long far text) = value_takes (length text)

abbrev pub entry_taken : Entry → ℕ
entry_taken bare = 0
entry_taken (entry at serial name value) = entry_takes (length name) + value_taken value

unfoldable pub taken : Tree → ℕ
taken leaf = 0
taken (node at name own left below right) = node_takes (length name) + entry_taken own + taken left + taken below + taken right

-- those that lie between 112 and used are counted there whole
module _ (used : ℕ) (low : first_free ≤ used) where
  abbrev Fits : (ℕ → ℕ) → Type 0
  Fits count = (i : ℕ) → count i ≤ inside (byte_of first_free) (used - first_free) i

  object-sum : (at size : ℕ) → 1 ≤ size → Fits (inside (byte_of at) size) → size ≡ sum_to (byte_of used) (inside (byte_of at) size)
  object-sum at size some fits =
      let e : byte_of used - byte_of first_free ≡ used - first_free = omega arith in
      omega (
        arith,
        inside-between (byte_of at) size (byte_of first_free) (byte_of used) some (omega arith) (λ i. rw e (fits i)),
        sum_inside (byte_of used) (byte_of at) size,
      )

  value-sum : (value : Value) → Fits (value_cover value) → value_taken value ≤ sum_to (byte_of used) (value_cover value)
  unfolding value_cover
  value-sum (short slot) fits = omega arith
  value-sum (long far text) fits = omega (arith, object-sum far (value_takes (length text)) (omega arith) fits)

  entry-sum : (own : Entry) → Fits (entry_cover own) → entry_taken own ≤ sum_to (byte_of used) (entry_cover own)
  unfolding entry_cover
  entry-sum bare fits = omega arith
  entry-sum (entry at serial name value) fits =
      omega (
        arith,
        sum-entry (byte_of used) at serial name value,
        object-sum at (entry_takes (length name)) (omega arith) (λ i. omega (arith, fits i)),
        value-sum value (λ i. omega (arith, fits i)),
      )

  tree-sum : (tree : Tree) → Room used tree → taken tree ≤ sum_to (byte_of used) (cover tree)
  unfolding taken cover
  tree-sum leaf room = omega arith
  tree-sum (node at name own left below right) room =
      omega (
        arith,
        sum-node (byte_of used) at name own left below right,
        object-sum at (node_takes (length name)) (omega arith) (λ i. omega (arith, room i)),
        entry-sum own (λ i. omega (arith, room i)),
        tree-sum left (λ i. omega (arith, room i)),
        tree-sum below (λ i. omega (arith, room i)),
        tree-sum right (λ i. omega (arith, room i)),
      )

pub taken-few : (area : List ℕ) (used : ℕ) (tree : Tree) → Sound area used tree → taken tree ≤ used - first_free
taken-few area used tree sound =
    omega (
      arith,
      tree-sum used sound.front.low tree sound.room,
      sum-most (byte_of used) (cover tree) (inside (byte_of first_free) (used - first_free)) sound.room,
      sum_inside (byte_of used) (byte_of first_free) (used - first_free),
    )

-- ---- a node takes at least 24
nodes-take : (prefix : List ℕ) (tree : Tree) → TreeRule prefix tree → 24 * nodes tree ≤ taken tree
unfolding nodes TreeRule taken
nodes-take prefix leaf rule = omega arith
nodes-take prefix (node at name own left below right) rule =
    omega (
      arith,
      rule.0.some,
      nodes-take prefix left rule.4,
      nodes-take (prefix ++ name ++ dot ∷ []) below rule.5,
      nodes-take prefix right rule.6,
    )

pub nodes-few : (area : List ℕ) (used : ℕ) (tree : Tree) → Sound area used tree → 24 * nodes tree ≤ used - first_free
nodes-few area used tree sound = omega (arith, nodes-take [] tree sound.rule, taken-few area used tree sound)
