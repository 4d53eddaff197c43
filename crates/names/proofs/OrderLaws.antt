-- The order of segments turns round, and is transitive; equal in it is equal.
use Prim.Native.Nat.{ℕ, ◌<◌}
use native.Mathlib.Omega.{arith}
use mathlib.Core.Path.{◌≡◌, refl, ap, ◌∙◌}
use mathlib.Core.Bool.{cond}
use mathlib.Core.List.{List, [], ◌∷◌}
use borrow.Author.Tests.{lt-ltb, le-ltb, ltb-true, ltb-false}
use lib.Dec.{ltb}
use lib.ListN.{length}
use Rattle.words.proofs.Laws.{bool_cases, clash}
use Rattle.std.specs.declared.cmp.Ordering.{Ordering}
use Rattle.std.specs.declared.cmp.Ordering.TheVariants.{Less, Equal, Greater}
use Rattle.names.specs.Names.{byte_order, segment_order}

-- two numbers decide, or what comes after them: so byte_order and segment_order are made
abbrev decided : ℕ → ℕ → Ordering → Ordering
decided m n rest = cond (ltb m n) Less (cond (ltb n m) Greater rest)

data Lower (m n : ℕ) (rest : Ordering) : Type 0 where
  below : m < n → Lower m n rest
  tied : m ≡ n → rest ≡ Less → Lower m n rest

lower_of : (m n : ℕ) (rest : Ordering) → decided m n rest ≡ Less → Lower m n rest
lower_of m n rest h =
    bool_cases (ltb m n)
    (λ t. below (ltb-true m n t))
    (λ t. bool_cases (ltb n m)
    (λ u. let k : Greater ≡ Less = rw (t, u) at h in clash cc)
    (λ u. tied (omega (arith, ltb-false m n t, ltb-false n m u)) (rw (t, u) at h)))

of-lower : (m n : ℕ) (rest : Ordering) → Lower m n rest → decided m n rest ≡ Less
of-lower m n rest (below h) = rw (lt-ltb m n h)
of-lower m n rest (tied h e) = rw (le-ltb m n (omega arith), le-ltb n m (omega arith)) e

lower-trans : (l m n : ℕ) (p q r : Ordering) → (p ≡ Less → q ≡ Less → r ≡ Less) → Lower l m p → Lower m n q → Lower l n r
lower-trans l m n p q r f (below h) (below k) = below (omega arith)
lower-trans l m n p q r f (below h) (tied k e) = below (omega arith)
lower-trans l m n p q r f (tied h d) (below k) = below (omega arith)
lower-trans l m n p q r f (tied h d) (tied k e) = tied (omega arith) (f d e)

decided-trans : (l m n : ℕ) (p q r : Ordering) → (p ≡ Less → q ≡ Less → r ≡ Less) → decided l m p ≡ Less → decided m n q ≡ Less → decided l n r ≡ Less
decided-trans l m n p q r f h k = of-lower l n r (lower-trans l m n p q r f (lower_of l m p h) (lower_of m n q k))

byte-trans : (a b c : List ℕ) → byte_order a b ≡ Less → byte_order b c ≡ Less → byte_order a c ≡ Less
unfolding byte_order
byte-trans [] b c h k = clash cc
byte-trans (x ∷ a) [] c h k = clash cc
byte-trans (x ∷ a) (y ∷ b) [] h k = clash cc
byte-trans (x ∷ a) (y ∷ b) (z ∷ c) h k = decided-trans x y z (byte_order a b) (byte_order b c) (byte_order a c) (byte-trans a b c) h k

pub order_trans : (a b c : List ℕ) → segment_order a b ≡ Less → segment_order b c ≡ Less → segment_order a c ≡ Less
unfolding segment_order
order_trans a b c h k =
    decided-trans (length a) (length b) (length c) (byte_order a b) (byte_order b c) (byte_order a c) (byte-trans a b c) h k

-- ---- turned round
abbrev flipped : Ordering → Ordering
flipped Less = Greater
flipped Equal = Equal
flipped Greater = Less

decided-flip : (m n : ℕ) (p q : Ordering) → q ≡ flipped p → decided n m q ≡ flipped (decided m n p)
decided-flip m n p q e =
    bool_cases (ltb m n)
    (λ t. rw (t, le-ltb n m (omega (arith, ltb-true m n t))))
    (λ t. bool_cases (ltb n m)
    (λ u. rw (t, u))
    (λ u. rw (t, u) e))

byte-flip : (a b : List ℕ) → byte_order b a ≡ flipped (byte_order a b)
unfolding byte_order
byte-flip [] [] = refl
byte-flip [] (y ∷ b) = refl
byte-flip (x ∷ a) [] = refl
byte-flip (x ∷ a) (y ∷ b) = decided-flip x y (byte_order a b) (byte_order b a) (byte-flip a b)

order_flip : (a b : List ℕ) → segment_order b a ≡ flipped (segment_order a b)
unfolding segment_order
order_flip a b = decided-flip (length a) (length b) (byte_order a b) (byte_order b a) (byte-flip a b)

pub order-less-flip : (a b : List ℕ) → segment_order a b ≡ Less → segment_order b a ≡ Greater
order-less-flip a b e = order_flip a b ∙ ap flipped e

pub order-greater-flip : (a b : List ℕ) → segment_order a b ≡ Greater → segment_order b a ≡ Less
order-greater-flip a b e = order_flip a b ∙ ap flipped e

-- ---- equal in the order is equal
same_bytes_lem : (a b : List ℕ) → length a ≡ length b → byte_order a b ≡ Equal → a ≡ b
unfolding byte_order
same_bytes_lem [] [] l e = refl
same_bytes_lem [] (y ∷ ys) l e = absurd (omega arith)
same_bytes_lem (x ∷ xs) [] l e = absurd (omega arith)
same_bytes_lem (x ∷ xs) (y ∷ ys) l e =
    bool_cases (ltb x y)
    (λ t. let k : Less ≡ Equal = rw t at e in clash cc)
    (λ t. bool_cases (ltb y x)
    (λ u. let k : Greater ≡ Equal = rw (t, u) at e in clash cc)
    (λ u.
    let k : byte_order xs ys ≡ Equal = rw (t, u) at e in
    let p : x ≡ y = omega (arith, ltb-false x y t, ltb-false y x u) in
    let q : xs ≡ ys = same_bytes_lem xs ys (omega arith) k in
    cc))

pub order-equal : (a b : List ℕ) → segment_order a b ≡ Equal → a ≡ b
unfolding segment_order
order-equal a b e =
    bool_cases (ltb (length a) (length b))
    (λ t. let k : Less ≡ Equal = rw t at e in clash cc)
    (λ t. bool_cases (ltb (length b) (length a))
    (λ u. let k : Greater ≡ Equal = rw (t, u) at e in clash cc)
    (λ u. same_bytes_lem a b (omega (arith, ltb-false (length a) (length b) t, ltb-false (length b) (length a) u)) (rw (t, u) at e)))

byte-self : (a : List ℕ) → byte_order a a ≡ Equal
unfolding byte_order
byte-self [] = refl
byte-self (x ∷ xs) = rw (le-ltb x x (omega arith)) (byte-self xs)

pub order-self : (a : List ℕ) → segment_order a a ≡ Equal
unfolding segment_order
order-self a = rw (le-ltb (length a) (length a) (omega arith)) (byte-self a)
