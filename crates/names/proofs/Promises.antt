-- What names promise: the segments with dots between them are the name, and in the order a segment is equal to itself alone.
use mathlib.Core.Path.{◌≡◌}
use mathlib.Core.List.{List}
use Prim.Native.Nat.{ℕ}
use Rattle.std.specs.declared.cmp.Ordering.TheVariants.{Equal}
use Rattle.names.specs.Names.{segments, segment_order}
use Rattle.names.proofs.Dotted.{dotted}
use Rattle.names.proofs.Dotted as dots
use Rattle.names.proofs.OrderLaws as order

-- ---- the segments of a name, with dots between them, are the name
pub segments-name : (name : List ℕ) → dotted (segments name) ≡ name
segments-name = dots.segments-name

-- ---- equal in the order is equal
pub order-equal : (a b : List ℕ) → segment_order a b ≡ Equal → a ≡ b
order-equal = order.order-equal

pub order-self : (a : List ℕ) → segment_order a a ≡ Equal
order-self = order.order-self
