-- A tree that stands in the area and is as it ought to be, over words that are free, is walked: four steps a node, its entries listed.
use Prim.Native.Nat.{ℕ, zero, suc, ◌+◌, ◌-◌, ◌*◌, ◌/◌, ◌≤◌, ◌<◌}
use native.Mathlib.Omega.{arith}
use mathlib.Core.Path.{◌≡◌, refl, sym, ap, subst, ◌∙◌}
use mathlib.Core.Logic.{◌≢◌}
use mathlib.Core.Bool.{true}
use mathlib.Core.List.{List, [], ◌∷◌, ◌++◌}
use lib.ListN.{length, get_or}
use Rattle.names.specs.Names.{dot, segment_order}
use Rattle.std.specs.declared.cmp.Ordering.TheVariants.{Less, Greater}
use Rattle.names.proofs.OrderLaws.{order-greater-flip}
use Rattle.layout.specs.Layout.{word_size, namelen_field, first_free, byte_of, word_at, node_takes}
use Rattle.sound.specs.Tree.{Entry, Tree, leaf, node, link, entry_link, listed, listed_own, inside, entry_cover, cover}
use Rattle.sound.specs.Sound.{node_words, NodeAt, EntryAt, TreeAt, Without, NodeRule, EntryRule, Side, TreeRule}
use Rattle.sound.specs.Ways.{Dir, to_left, to_below, to_right, nodes}
use Rattle.sound.proofs.Holding.{without-append}
use Rattle.walk.specs.Marks.{can_take}
use Rattle.walk.specs.Machine.{taken, done}
use Rattle.walk.specs.Model.{place_at, name_at, node_room, enter_at, own_work}
use Rattle.walk.proofs.Growing.{Grew, grew_refl, grew_trans, number_max, Owned, owned-grew, Prefix, more, prefix-grew}
use Rattle.walk.proofs.MarkLaws.{counted, can-at, lies-between}
use Rattle.walk.proofs.NodeLaws.{NodeFits, room_of}
use Rattle.walk.proofs.Entering.{Entered, entered-inv, enter-of, own-grew}
use Rattle.walk.proofs.WorksBack.{Worked, own-done}
use Rattle.walk.proofs.Made.{under_left, under-below, under-right, under-entered}
use Rattle.walk.proofs.Standing.{Can, Goes, Goer, fits-of, node-first, node-named}
use Rattle.walk.proofs.MachineLaws.{tip, fork, steps, none, some}

module _ (area : List ℕ) (used : ℕ) (low : first_free ≤ used) (small : used ≤ 4 * number_max) where
  leaf-goes : Goer area used leaf
  unfolding link cover listed nodes
  leaf-goes marks p dir before prefix C =
      record { shape = tip; after = marks; last = before; walked = none C.linked; count = λ i. omega arith; grew = grew_refl marks; least = λ x f h. f; taking = λ k. omega arith }

  -- node q + 1, with its parts
  module _ (q : ℕ) (own : Entry) (left below right : Tree) (gl : Goer area used left) (gb : Goer area used below) (gr : Goer area used right)
      (marks : List ℕ) (p : ℕ) (dir : Dir) (before : ℕ) (prefix : List ℕ)
      (C : Can area used marks p dir before prefix (node (suc q * word_size) (name_at area (suc q)) own left below right)) where
    abbrev n : ℕ
    n = suc q

    abbrev name : List ℕ
    name = name_at area (suc q)

    stands : NodeAt area (n * word_size) name (node_words name own left below right) × EntryAt area own × TreeAt area left × TreeAt area below × TreeAt area right
    unfolding TreeAt
    stands = C.bytes

    rules : NodeRule (n * word_size) name × EntryRule (prefix ++ name) own × Side Less name left × Side Greater name right × TreeRule prefix left × TreeRule (prefix ++ name ++ dot ∷ []) below × TreeRule prefix right
    unfolding TreeRule
    rules = C.rule

    free : (i : ℕ) → counted marks i + (inside (byte_of (n * word_size)) (node_takes (length name)) i + entry_cover own i + cover left i + cover below i + cover right i) ≤ 1
    unfolding cover
    free = C.free

    within : (i : ℕ) → inside (byte_of (n * word_size)) (node_takes (length name)) i + entry_cover own i + cover left i + cover below i + cover right i ≤ inside (byte_of first_free) (used - first_free) i
    unfolding cover
    within = C.within

    ordered : before ≢ 0 → (segment_order name (name_at area before) ≡ Greater) × Side Greater (name_at area before) left × Side Greater (name_at area before) right
    unfolding Side
    ordered h = C.order h

    between : (first_free ≤ n * word_size) × (n * word_size + node_takes (length name) ≤ used)
    between = lies-between used low (n * word_size) (node_takes (length name)) (omega arith) (λ i. omega (arith, within i))

    fits : NodeFits area used (n * word_size) × (word_at area (n * word_size) namelen_field ≡ length name)
    fits = fits-of area used (n * word_size) name (entry_link own ∷ link left ∷ link right ∷ link below ∷ []) rules.0 stands.0 between.0 between.1

    near : n ≤ number_max
    near = omega (arith, between.1, small)

    -- the link as the machine has it
    abbrev l : ℕ
    l = suc (q * word_size + 3)

    same : suc (q * word_size + 3) ≡ suc q * word_size
    same = omega arith

    place : suc (q * word_size + 3) / word_size ≡ suc q
    place = omega arith

    fits-there : NodeFits area used l
    fits-there = subst (λ (v : ℕ). NodeFits area used v) (sym same) fits.0

    size : word_size * node_room area used l ≡ node_takes (length name)
    size = room_of area used l fits-there ∙ ap (λ (v : ℕ). node_takes (word_at area v namelen_field)) same ∙ ap node_takes fits.1

    can : can_take marks (place_at l) (node_room area used l) ≡ true
    can = can-at marks l (node_room area used l) (node_takes (length name)) fits-there.aligned size (omega (arith, C.marked, between.1, same))
        (λ i. subst (λ (v : ℕ). counted marks i + inside (byte_of v) (node_takes (length name)) i ≤ 1) (sym same) (omega (arith, free i)))

    -- from here on, m0 is what entering left
    module _ (m0 : List ℕ) (entering : enter_at area used marks l p dir ≡ taken m0) where
      E : Entered area used marks m0 l p dir
      E = entered-inv area used marks l p dir m0 entering

      count0 : (i : ℕ) → counted m0 i ≡ counted marks i + inside (byte_of (n * word_size)) (node_takes (length name)) i
      count0 i =
          E.count i ∙ ap (λ (v : ℕ). counted marks i + inside (byte_of v) (node_takes (word_at area v namelen_field)) i) same
          ∙ ap (λ (v : ℕ). counted marks i + inside (byte_of (n * word_size)) (node_takes v) i) fits.1

      U : (o : ℕ) × Owned m0 (place_at l) o × Prefix area m0 o prefix
      U = under-entered area used marks m0 l p prefix dir C.near E C.under

      o : ℕ
      o = U.0

      W0 : Owned m0 n o
      unfolding o
      W0 = subst (λ (v : ℕ). Owned m0 v U.0) place U.1

      P0 : Prefix area m0 o prefix
      unfolding o
      P0 = U.2

      L : Goes area used m0 n to_left before left
      L = gl m0 n to_left before prefix (record {
        linked = stands.0.fields 2 (omega arith);
        bytes = stands.2;
        rule = rules.4;
        near = near;
        under = under_left area m0 n prefix o W0 P0;
        clean = C.clean;
        free = λ i. omega (arith, count0 i, free i);
        within = λ i. omega (arith, within i);
        marked = omega (arith, C.marked, E.grew.long);
        order = λ h. (ordered h).1;
      })

      W1 : Owned L.after n o
      W1 = owned-grew m0 L.after n o L.grew W0

      P1 : Prefix area L.after o prefix
      P1 = prefix-grew area m0 L.after o prefix L.grew P0

      clean : Without 0 (prefix ++ name)
      clean = without-append 0 prefix name C.clean rules.0.whole

      O : Worked (own_work area used L.after n L.last) L.after (listed_own own) (entry_cover own)
      O = own-done area used low L.after n o prefix P1 W1 clean (omega (arith, C.marked, E.grew.long, L.grew.long)) L.last own (stands.0.fields 1 (omega arith)) stands.1 rules.1
          (L.least name (λ h. order-greater-flip name (name_at area before) (ordered h).0) rules.2)
          (λ i. omega (arith, L.count i, count0 i, free i)) (λ i. omega (arith, within i))

      -- and m2 what its own work left
      module _ (m2 : List ℕ) (working : own_work area used L.after n L.last ≡ done m2 (listed_own own)) (count2 : (i : ℕ) → counted m2 i ≡ counted L.after i + entry_cover own i) where
        grew2 : Grew L.after m2
        grew2 = own-grew area used L.after m2 n L.last (listed_own own) working

        W2 : Owned m2 n o
        W2 = owned-grew L.after m2 n o grew2 W1

        P2 : Prefix area m2 o prefix
        P2 = prefix-grew area L.after m2 o prefix grew2 P1

        B : Goes area used m2 n to_below 0 below
        B = gb m2 n to_below 0 (prefix ++ name ++ dot ∷ []) (record {
          linked = stands.0.fields 4 (omega arith);
          bytes = stands.3;
          rule = rules.5;
          near = near;
          under = under-below area m2 n (prefix ++ name ++ dot ∷ []) (more q o prefix W2 P2);
          clean = without-append 0 (prefix ++ name) (dot ∷ []) clean (λ k h z. dotted k h z);
          free = λ i. omega (arith, count2 i, L.count i, count0 i, free i);
          within = λ i. omega (arith, within i);
          marked = omega (arith, C.marked, E.grew.long, L.grew.long, grew2.long);
          order = λ h. absurd (h refl);
        })
          where
            dotted : (k : ℕ) → k < 1 → get_or (dot ∷ []) k 0 ≢ 0
            dotted zero h z = omega (arith, z)
            dotted (suc k) h z = omega arith

        R : Goes area used B.after n to_right n right
        R = gr B.after n to_right n prefix (record {
          linked = stands.0.fields 3 (omega arith);
          bytes = stands.4;
          rule = rules.6;
          near = near;
          under = under-right area B.after n prefix o (owned-grew m2 B.after n o B.grew W2) (prefix-grew area m2 B.after o prefix B.grew P2);
          clean = C.clean;
          free = λ i. omega (arith, B.count i, count2 i, L.count i, count0 i, free i);
          within = λ i. omega (arith, within i);
          marked = omega (arith, C.marked, E.grew.long, L.grew.long, grew2.long, B.grew.long);
          order = λ h. rules.3;
        })

        node-went : Goes area used marks p dir before (node (n * word_size) name own left below right)
        unfolding listed cover nodes Side link
        node-went = record {
          shape = fork L.shape B.shape R.shape;
          after = R.after;
          last = R.last;
          walked = some (C.linked ∙ sym same) place entering L.walked working B.walked R.walked;
          count = λ i. omega (arith, R.count i, B.count i, count2 i, L.count i, count0 i);
          grew = grew_trans marks m0 R.after E.grew (grew_trans m0 L.after R.after L.grew (grew_trans L.after m2 R.after grew2 (grew_trans m2 B.after R.after B.grew R.grew)));
          least = λ x f h. R.least x (λ z. h.0) h.2;
          taking = λ k. omega (arith, L.taking (suc (steps B.shape (suc (steps R.shape (suc k))))), B.taking (suc (steps R.shape (suc k))), R.taking (suc k));
        }

      worked : Goes area used marks p dir before (node (n * word_size) name own left below right)
      worked = node-went O.after O.is O.count

    node-goes-at : Goes area used marks p dir before (node (n * word_size) name own left below right)
    node-goes-at = let e = enter-of area used marks l p dir fits-there can in worked e.0 e.1

  node-goes : (at : ℕ) (name : List ℕ) (own : Entry) (left below right : Tree) → Goer area used left → Goer area used below → Goer area used right → Goer area used (node at name own left below right)
  node-goes at name own left below right gl gb gr marks p dir before prefix C =
      let q : ℕ = at / word_size - 1 in
      let e : at ≡ suc (at / word_size - 1) * word_size = node-first area used low at name own left below right C.within prefix C.rule in
      let f : name ≡ name_at area (suc (at / word_size - 1)) = node-named area used at name own left below right (suc (at / word_size - 1)) C.bytes e in
      subst (λ (v : List ℕ). Goes area used marks p dir before (node at v own left below right)) (sym f)
      (subst (λ (v : ℕ). Goes area used marks p dir before (node v (name_at area (suc (at / word_size - 1))) own left below right)) (sym e)
      (node-goes-at (at / word_size - 1) own left below right gl gb gr marks p dir before prefix
      (subst (λ (v : ℕ). Can area used marks p dir before prefix (node v (name_at area (suc (at / word_size - 1))) own left below right)) e
      (subst (λ (v : List ℕ). Can area used marks p dir before prefix (node at v own left below right)) f C))))

  pub goes : (tree : Tree) → Goer area used tree
  goes leaf = leaf-goes
  goes (node at name own left below right) = node-goes at name own left below right (goes left) (goes below) (goes right)
