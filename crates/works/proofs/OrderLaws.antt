-- One law for each way out of `siblings::less`: the lengths of two nodes' names decide, or a turn over their bytes does.
use Prim.Native.Nat.{ℕ, ◌+◌, ◌≤◌, ◌<◌}
use mathlib.Core.Path.{◌≡◌}
use mathlib.Core.Bool.{Bool}
use mathlib.Core.List.{List}
use native.Mathlib.Omega.{arith}
use native.Mathlib.Decide.{dec_lt}
use lib.Dec.{ltb}
use borrow.Author.Tests.{lt-ltb, le-ltb}
use lib.ListN.{length, get_or, drop}
use Rattle.std.specs.declared.cmp.Ordering.TheVariants.{Equal}
use Rattle.names.specs.Names.{byte_order, segment_order}
use Rattle.names.proofs.Laws.{order-less, order-greater, order-on, order-end}
use Rattle.layout.specs.Layout.{namelen_field}
use Rattle.walk.specs.Model.{field_at, name_from, name_at, is_less}
use Rattle.walk.proofs.Scanning.{name-length, name-holds}

module _ (area : List ℕ) (p q : ℕ) where
  abbrev is_before : Bool
  is_before = is_less (segment_order (name_at area p) (name_at area q))

  -- ---- the lengths
  module _ (size other : ℕ) (e : size ≡ field_at area p namelen_field) (f : other ≡ field_at area q namelen_field) where
    pub names-sized : (size ≡ other → ⊥) → ltb size other ≡ is_before
    unfolding segment_order
    names-sized h = elim (dec_lt size other) [
      | yes l ↦ rw (name-length, name-length, ← e, ← f, lt-ltb size other l)
      | no l ↦ rw (name-length, name-length, ← e, ← f, le-ltb size other (omega arith), lt-ltb other size (omega arith))
    ]

    pub names-begin : size ≡ other → segment_order (name_at area p) (name_at area q) ≡ byte_order (drop 0 (name_at area p)) (drop 0 (name_at area q))
    unfolding segment_order
    names-begin k = rw (name-length, name-length, ← e, ← f, le-ltb size other (omega arith), le-ltb other size (omega arith))

  -- ---- a turn
  module _ (i : ℕ) where
    module _ (in_p : i < field_at area p namelen_field) (in_q : i < field_at area q namelen_field) where
      hp : i < length (name_at area p)
      hp = omega (arith, name-length area p)

      hq : i < length (name_at area q)
      hq = omega (arith, name-length area q)

      module _ (x y : ℕ) (e : x ≡ get_or area (name_from p + i) 0) (f : y ≡ get_or area (name_from q + i) 0) where
        ex : x ≡ get_or (name_at area p) i 0
        ex = omega (arith, name-holds area p i hp)

        ey : y ≡ get_or (name_at area q) i 0
        ey = omega (arith, name-holds area q i hq)

        pub names-differ : (x ≡ y → ⊥) → ltb x y ≡ is_less (byte_order (drop i (name_at area p)) (drop i (name_at area q)))
        names-differ h = elim (dec_lt x y) [
          | yes l ↦ rw (lt-ltb x y l, order-less (name_at area p) (name_at area q) i hp hq (omega (arith, ex, ey)))
          | no l ↦ rw (le-ltb x y (omega arith), order-greater (name_at area p) (name_at area q) i hp hq (omega (arith, ex, ey)))
        ]

        pub names-on : x ≡ y → byte_order (drop i (name_at area p)) (drop i (name_at area q)) ≡ byte_order (drop (i + 1) (name_at area p)) (drop (i + 1) (name_at area q))
        names-on k = order-on (name_at area p) (name_at area q) i hp hq (omega (arith, ex, ey)) (omega (arith, ex, ey))

    pub names-end : field_at area p namelen_field ≤ i → byte_order (drop i (name_at area p)) (drop i (name_at area q)) ≡ Equal
    names-end h = order-end (name_at area p) (name_at area q) i (omega (arith, name-length area p))
