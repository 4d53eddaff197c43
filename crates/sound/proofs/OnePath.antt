-- Where no byte belongs to two objects, two ways that reach the same node are the same way.
use Prim.Native.Nat.{ℕ, ◌+◌, ◌≤◌}
use native.Mathlib.Omega.{arith}
use mathlib.Core.Path.{◌≡◌, refl, sym, subst}
use mathlib.Core.Logic.{◌⊎◌, inl, inr}
use mathlib.Core.List.{List, [], ◌∷◌}
use lib.ListN.{length}
use Rattle.layout.specs.Layout.{byte_of, node_takes}
use Rattle.sound.specs.Tree.{Tree, leaf, node, inside, cover}
use Rattle.sound.specs.Ways.{Dir, to_left, to_below, to_right, toward, reached, TopAt}
use Rattle.sound.proofs.Inside.{inside-yes}

top-cover : (tree : Tree) (at : ℕ) → TopAt tree at → 1 ≤ cover tree (byte_of at)
unfolding cover
top-cover leaf at h = absurd h
top-cover (node place name own left below right) at h =
    omega (arith, inside-yes (byte_of place) (node_takes (length name)) (byte_of at) (omega arith) (omega arith))

toward-cover : (dir : Dir) (tree : Tree) (i : ℕ) → cover (toward dir tree) i ≤ cover tree i
unfolding toward cover
toward-cover dir leaf i = omega arith
toward-cover to_left (node at name own left below right) i = omega arith
toward-cover to_below (node at name own left below right) i = omega arith
toward-cover to_right (node at name own left below right) i = omega arith

pub reached-cover : (way : List Dir) (tree : Tree) (i : ℕ) → cover (reached tree way) i ≤ cover tree i
unfolding reached
reached-cover [] tree i = omega arith
reached-cover (dir ∷ way) tree i = omega (arith, reached-cover way (toward dir tree) i, toward-cover dir tree i)

-- a node's own bytes are none of what hangs from it
top_apart : (dir : Dir) (tree : Tree) (at : ℕ) → TopAt tree at → 1 + cover (toward dir tree) (byte_of at) ≤ cover tree (byte_of at)
unfolding toward cover
top_apart dir leaf at h = absurd h
top_apart dir (node place name own left below right) at h = by dir (inside-yes (byte_of place) (node_takes (length name)) (byte_of at) (omega arith) (omega arith))
  where
    by : (dir : Dir) → inside (byte_of place) (node_takes (length name)) (byte_of at) ≡ 1
        → 1 + cover (toward dir (node place name own left below right)) (byte_of at) ≤ cover (node place name own left below right) (byte_of at)
    by to_left own-byte = omega arith
    by to_below own-byte = omega arith
    by to_right own-byte = omega arith

-- what hangs in two directions shares no byte
sides_apart : (tree : Tree) (d e : Dir) (i : ℕ) → (d ≡ e) ⊎ (cover (toward d tree) i + cover (toward e tree) i ≤ cover tree i)
unfolding toward cover
sides_apart leaf d e i = inr (omega arith)
sides_apart (node at name own left below right) to_left to_left i = inl refl
sides_apart (node at name own left below right) to_left to_below i = inr (omega arith)
sides_apart (node at name own left below right) to_left to_right i = inr (omega arith)
sides_apart (node at name own left below right) to_below to_left i = inr (omega arith)
sides_apart (node at name own left below right) to_below to_below i = inl refl
sides_apart (node at name own left below right) to_below to_right i = inr (omega arith)
sides_apart (node at name own left below right) to_right to_left i = inr (omega arith)
sides_apart (node at name own left below right) to_right to_below i = inr (omega arith)
sides_apart (node at name own left below right) to_right to_right i = inl refl

pub one_way : (v w : List Dir) (tree : Tree) (at : ℕ) → ((i : ℕ) → cover tree i ≤ 1) → TopAt (reached tree v) at → TopAt (reached tree w) at → v ≡ w
unfolding reached
one_way [] [] tree at once p q = refl
one_way [] (e ∷ w) tree at once p q =
    absurd (omega (arith, once (byte_of at), top_apart e tree at p, top-cover (reached (toward e tree) w) at q, reached-cover w (toward e tree) (byte_of at)))
one_way (d ∷ v) [] tree at once p q =
    absurd (omega (arith, once (byte_of at), top_apart d tree at q, top-cover (reached (toward d tree) v) at p, reached-cover v (toward d tree) (byte_of at)))
one_way (d ∷ v) (e ∷ w) tree at once p q = by (sides_apart tree d e (byte_of at)) (λ r. one_way v w (toward d tree) at (λ i. omega (arith, once i, toward-cover d tree i)) p r)
  where
    by : (d ≡ e) ⊎ (cover (toward d tree) (byte_of at) + cover (toward e tree) (byte_of at) ≤ cover tree (byte_of at))
        → (TopAt (reached (toward d tree) w) at → v ≡ w) → d ∷ v ≡ e ∷ w
    by (inl same) on =
        let rest : v ≡ w = on (subst (λ (x : Dir). TopAt (reached (toward x tree) w) at) (sym same) q) in
        cc
    by (inr apart) on =
        absurd (omega (
          arith,
          once (byte_of at),
          apart,
          top-cover (reached (toward d tree) v) at p,
          reached-cover v (toward d tree) (byte_of at),
          top-cover (reached (toward e tree) w) at q,
          reached-cover w (toward e tree) (byte_of at),
        ))
