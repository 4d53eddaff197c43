-- A walk that was made has passed a tree that stands in the area, is as it ought to be, and took just the words that it took.
use Prim.Native.Nat.{ℕ, zero, suc, ◌+◌, ◌-◌, ◌*◌, ◌%◌, ◌≤◌, ◌<◌}
use native.Mathlib.Omega.{arith}
use mathlib.Core.Path.{◌≡◌, refl, sym, ap, subst, ◌∙◌}
use mathlib.Core.Logic.{◌≢◌, ◌⊎◌, inl, inr}
use mathlib.Core.List.{List, [], ◌∷◌, ◌++◌}
use lib.ListN.{length, get_or}
use Rattle.names.specs.Names.{dot, segment_order}
use Rattle.std.specs.declared.cmp.Ordering.TheVariants.{Less, Greater}
use Rattle.names.proofs.OrderLaws.{order_trans, order-less-flip}
use Rattle.layout.specs.Layout.{word_size, namelen_field, prop_field, left_field, right_field, children_field, first_free, byte_of, word_at, node_takes}
use Rattle.sound.specs.Tree.{Entry, Tree, leaf, node, link, entry_link, listed, inside, cover}
use Rattle.sound.specs.Sound.{node_words, NodeAt, TreeAt, NodeRule, Side, TreeRule}
use Rattle.sound.specs.Ways.{Dir, to_left, to_below, to_right}
use Rattle.sound.proofs.Inside.{inside-part}
use Rattle.sound.proofs.Holding.{text-holds}
use Rattle.walk.specs.Model.{field_at, link_at, place_at, name_from, name_at, enter_at, own_work, parent_at, came_at, owner_at}
use Rattle.walk.proofs.Growing.{Grew, grew_refl, grew_trans, number_max, Owned, owned-grew, Prefix, more, prefix-grew}
use Rattle.walk.proofs.MarkLaws.{counted}
use Rattle.walk.proofs.NodeLaws.{NodeFits}
use Rattle.walk.proofs.Entering.{Entered, entered-inv}
use Rattle.walk.proofs.Scanning.{name-length, name-holds}
use Rattle.walk.proofs.Works.{EntryIn, own_in}
use Rattle.walk.proofs.MachineLaws.{Shape, Walked, none, some}

-- every name of a side
unfoldable pub Names : (List ℕ → Type 0) → Tree → Type 0
Names P leaf = Unit {0}
Names P (node at name own left below right) = P name × Names P left × Names P right

names-map : (P Q : List ℕ → Type 0) → ((x : List ℕ) → P x → Q x) → (tree : Tree) → Names P tree → Names Q tree
unfolding Names
names-map P Q f leaf h = tt
names-map P Q f (node at name own left below right) h = (f name h.0, names-map P Q f left h.1, names-map P Q f right h.2)

names-side : (order : _) (name : List ℕ) (tree : Tree) → Names (λ x. segment_order x name ≡ order) tree → Side order name tree
unfolding Names Side
names-side order name leaf h = tt
names-side order name (node at other own left below right) h = (h.0, names-side order name left h.1, names-side order name right h.2)

-- there is a node before, and a name is not greater than its
abbrev AtMost : List ℕ → ℕ → List ℕ → Type 0
AtMost area before x = (before ≢ 0) × ((x ≡ name_at area before) ⊎ (segment_order x (name_at area before) ≡ Less))

most-less : (area : List ℕ) (before : ℕ) (x y : List ℕ) → AtMost area before x → (before ≢ 0 → segment_order (name_at area before) y ≡ Less) → segment_order x y ≡ Less
most-less area before x y h f = by h.1
  where
    by : (x ≡ name_at area before) ⊎ (segment_order x (name_at area before) ≡ Less) → segment_order x y ≡ Less
    by (inl e) = ap (λ (v : List ℕ). segment_order v y) e ∙ f h.0
    by (inr e) = order_trans x (name_at area before) y e (f h.0)

-- what the walk along a link has passed
pub record Made (area : List ℕ) (used : ℕ) (marks : List ℕ) (l before : ℕ) (after : List ℕ) (last : ℕ) (es prefix : List ℕ) : Type 0 where
  pub tree : Tree
  pub linked : l ≡ link tree
  pub bytes : TreeAt area tree
  pub rule : TreeRule prefix tree
  pub count : (i : ℕ) → counted after i ≡ counted marks i + cover tree i
  pub within : (i : ℕ) → inside (byte_of first_free) (used - first_free) i ≡ 0 → cover tree i ≡ 0
  pub above : (x : List ℕ) → AtMost area before x → Names (λ y. segment_order x y ≡ Less) tree
  pub keeps : (x : List ℕ) → AtMost area before x → AtMost area last x
  pub under : Names (AtMost area last) tree
  pub lists : es ≡ listed tree
  pub grew : Grew marks after

-- the dotted prefix of the names that hang from node p in a direction
unfoldable pub Under : List ℕ → List ℕ → ℕ → Dir → List ℕ → Type 0
Under area marks p to_left prefix = (o : ℕ) × Owned marks p o × Prefix area marks o prefix
Under area marks p to_below prefix = Prefix area marks p prefix
Under area marks p to_right prefix = (o : ℕ) × Owned marks p o × Prefix area marks o prefix

module _ (area : List ℕ) (marks : List ℕ) (n : ℕ) (prefix : List ℕ) where
  pub under_left : (o : ℕ) → Owned marks n o → Prefix area marks o prefix → Under area marks n to_left prefix
  unfolding Under
  under_left o w p = (o, w, p)

  pub under-below : Prefix area marks n prefix → Under area marks n to_below prefix
  unfolding Under
  under-below p = p

  pub under-right : (o : ℕ) → Owned marks n o → Prefix area marks o prefix → Under area marks n to_right prefix
  unfolding Under
  under-right o w p = (o, w, p)

module _ (area : List ℕ) (used : ℕ) (marks after : List ℕ) (l p : ℕ) (prefix : List ℕ) where
  sibling : (o : ℕ) → Owned marks p o → Prefix area marks o prefix → Grew marks after → (owner_at marks p ≤ number_max → Owned after (place_at l) (owner_at marks p))
      → (o : ℕ) × Owned after (place_at l) o × Prefix area after o prefix
  sibling o w q g f =
      let e = w.keeps.reads in
      (o, subst (λ (v : ℕ). Owned after (place_at l) v) e (f (omega (arith, e, w.small))), prefix-grew area marks after o prefix g q)

  -- a node that was entered stands under the same prefix
  pub under-entered : (dir : Dir) → p ≤ number_max → Entered area used marks after l p dir → Under area marks p dir prefix → (o : ℕ) × Owned after (place_at l) o × Prefix area after o prefix
  unfolding Under
  under-entered to_left small E h = sibling h.0 h.1 h.2 E.grew E.owned
  under-entered to_below small E h = (p, E.owned small, prefix-grew area marks after p prefix E.grew h)
  under-entered to_right small E h = sibling h.0 h.1 h.2 E.grew E.owned

module _ (area : List ℕ) (n : ℕ) where
  node-fields : (own : Entry) (left below right : Tree) → field_at area n prop_field ≡ entry_link own → field_at area n left_field ≡ link left → field_at area n right_field ≡ link right
      → field_at area n children_field ≡ link below → (k : ℕ) → k < 5 → word_at area (n * word_size) (word_size * k) ≡ get_or (node_words (name_at area n) own left below right) k 0
  node-fields own left below right e1 e2 e3 e4 zero h = sym (name-length area n)
  node-fields own left below right e1 e2 e3 e4 (suc zero) h = e1
  node-fields own left below right e1 e2 e3 e4 (suc (suc zero)) h = e2
  node-fields own left below right e1 e2 e3 e4 (suc (suc (suc zero))) h = e3
  node-fields own left below right e1 e2 e3 e4 (suc (suc (suc (suc zero)))) h = e4
  node-fields own left below right e1 e2 e3 e4 (suc (suc (suc (suc (suc k))))) h = absurd (omega arith)

  module _ (used : ℕ) (F : NodeFits area used (n * word_size)) where
    node_at : (own : Entry) (left below right : Tree) → field_at area n prop_field ≡ entry_link own → field_at area n left_field ≡ link left → field_at area n right_field ≡ link right
        → field_at area n children_field ≡ link below → NodeAt area (n * word_size) (name_at area n) (node_words (name_at area n) own left below right)
    node_at own left below right e1 e2 e3 e4 = record {
      fields = node-fields own left below right e1 e2 e3 e4;
      text = text-holds area (name_from n) (name_at area n) (name-holds area n) (ap (λ (k : ℕ). get_or area (name_from n + k) 0) (name-length area n) ∙ F.zero);
    }

    node-rule : NodeRule (n * word_size) (name_at area n)
    node-rule = record {
      aligned = omega arith;
      some = omega (arith, name-length area n, F.some);
      whole = λ k l e. F.whole k (omega (arith, l, name-length area n)) (name-holds area n k l ∙ e);
      plain = λ k l e. F.plain k (omega (arith, l, name-length area n)) (name-holds area n k l ∙ e);
    }

module _ (area : List ℕ) (used : ℕ) (aligned : used % word_size ≡ 0) where
  leaf-made : (marks : List ℕ) (l before : ℕ) (prefix : List ℕ) → l ≡ 0 → Made area used marks l before marks before [] prefix
  unfolding TreeAt TreeRule cover Names listed link
  leaf-made marks l before prefix e = record {
    tree = leaf;
    linked = e;
    bytes = tt;
    rule = tt;
    count = λ i. omega arith;
    within = λ i z. refl;
    above = λ x h. tt;
    keeps = λ x h. h;
    under = tt;
    lists = refl;
    grew = grew_refl marks;
  }

  -- a node of its parts: entered, its left side, its entry, what hangs below, its right side
  module _ (n : ℕ) (pos : n ≢ 0) (marks m0 : List ℕ) (p : ℕ) (dir : Dir) (E : Entered area used marks m0 (n * word_size) p dir) (prefix : List ℕ) (before : ℕ)
      (m1 : List ℕ) (r1 : ℕ) (f1 : List ℕ) (L : Made area used m0 (field_at area n left_field) before m1 r1 f1 prefix)
      (m2 : List ℕ) (f2 : List ℕ) (O : EntryIn area used m1 m2 (field_at area n prop_field) (prefix ++ name_at area n) f2)
      (less : r1 ≢ 0 → segment_order (name_at area r1) (name_at area n) ≡ Less)
      (m3 : List ℕ) (r3 : ℕ) (f3 : List ℕ) (B : Made area used m2 (field_at area n children_field) 0 m3 r3 f3 (prefix ++ name_at area n ++ dot ∷ []))
      (m4 : List ℕ) (r4 : ℕ) (f4 : List ℕ) (R : Made area used m3 (field_at area n right_field) n m4 r4 f4 prefix) where
    self : AtMost area n (name_at area n)
    self = (pos, inl refl)

    past-left : (x : List ℕ) → AtMost area r1 x → AtMost area n x
    past-left x h = (pos, inr (most-less area r1 x (name_at area n) h less))

    past_all : (x : List ℕ) → AtMost area r1 x → AtMost area r4 x
    past_all x h = R.keeps x (past-left x h)

    size_is : node_takes (word_at area (n * word_size) namelen_field) ≡ node_takes (length (name_at area n))
    size_is = ap node_takes (sym (name-length area n))

    outside : (i : ℕ) → inside (byte_of first_free) (used - first_free) i ≡ 0 → inside (byte_of (n * word_size)) (node_takes (length (name_at area n))) i ≡ 0
    outside i z =
        omega (
          arith,
          z,
          inside-part (byte_of first_free) (used - first_free) (byte_of (n * word_size)) (node_takes (length (name_at area n))) i (omega (arith, E.fits.low))
              (omega (arith, E.fits.low, E.fits.high, name-length area n, aligned)),
        )

    node_made : Made area used marks (n * word_size) before m4 r4 (f1 ++ f2 ++ f3 ++ f4) prefix
    unfolding TreeAt TreeRule cover Names listed link
    node_made = record {
      tree = node (n * word_size) (name_at area n) O.own L.tree B.tree R.tree;
      linked = refl;
      bytes = (node_at area n used E.fits O.own L.tree B.tree R.tree O.lk L.linked R.linked B.linked, O.bytes, L.bytes, B.bytes, R.bytes);
      rule = (
        node-rule area n used E.fits,
        O.rule,
        names-side Less (name_at area n) L.tree
            (names-map (AtMost area r1) (λ x. segment_order x (name_at area n) ≡ Less) (λ x h. most-less area r1 x (name_at area n) h less) L.tree L.under),
        names-side Greater (name_at area n) R.tree
            (names-map (λ y. segment_order (name_at area n) y ≡ Less) (λ y. segment_order y (name_at area n) ≡ Greater) (λ y h. order-less-flip (name_at area n) y h) R.tree (R.above (name_at area n) self)),
        L.rule,
        B.rule,
        R.rule,
      );
      count = λ i.
          let e : inside (byte_of (n * word_size)) (node_takes (word_at area (n * word_size) namelen_field)) i ≡ inside (byte_of (n * word_size)) (node_takes (length (name_at area n))) i
          = ap (λ (k : ℕ). inside (byte_of (n * word_size)) k i) size_is in
          omega (arith, E.count i, L.count i, O.count i, B.count i, R.count i, e);
      within = λ i z. omega (arith, outside i z, L.within i z, O.within i z, B.within i z, R.within i z);
      above = λ x h. (most-less area r1 x (name_at area n) (L.keeps x h) less, L.above x h, R.above x (past-left x (L.keeps x h)));
      keeps = λ x h. past_all x (L.keeps x h);
      under = (R.keeps (name_at area n) self, names-map (AtMost area r1) (AtMost area r4) past_all L.tree L.under, R.under);
      lists = cc (L.lists, O.lists, B.lists, R.lists);
      grew = grew_trans marks m0 m4 E.grew (grew_trans m0 m1 m4 L.grew (grew_trans m1 m2 m4 O.grew (grew_trans m2 m3 m4 B.grew R.grew)));
    }

  module _ (small : used ≤ 4 * number_max) where
    pub made : {shape : Shape} {marks after : List ℕ} {p before last : ℕ} {dir : Dir} {es : List ℕ}
        → Walked (List ℕ) (link_at area) place_at (enter_at area used) (own_work area used) parent_at came_at shape marks p dir before after last es
        → p ≤ number_max → (prefix : List ℕ) → Under area marks p dir prefix → Made area used marks (link_at area dir p) before after last es prefix
    made {marks = marks} {p = p} {before = before} {dir = dir} (none e) fits prefix h = leaf-made marks (link_at area dir p) before prefix e
    made (some {m = marks} {p = p} {dir = dir} {before = before} {l = l} {n = n} {m0 = m0} {m1 = m1} {m2 = m2} {m3 = m3} {m4 = m4} {r1 = r1} {r3 = r3} {r4 = r4} {f1 = f1} {f2 = f2} {f3 = f3} {f4 = f4} e e' i A y B D) fits prefix h =
        let E0 : Entered area used marks m0 (suc l) p dir = entered-inv area used marks (suc l) p dir m0 i in
        let el : suc l ≡ suc n * word_size = omega (arith, e', E0.fits.aligned) in
        let E : Entered area used marks m0 (suc n * word_size) p dir = subst (λ (v : ℕ). Entered area used marks m0 v p dir) el E0 in
        let near : suc n ≤ number_max = omega (arith, E.fits.high, small) in
        let U = under-entered area used marks m0 (suc l) p prefix dir fits E0 h in
        let W0 : Owned m0 (suc n) U.0 = subst (λ (v : ℕ). Owned m0 v U.0) e' U.1 in
        let L : Made area used m0 (field_at area (suc n) left_field) before m1 r1 f1 prefix = made A near prefix (under_left area m0 (suc n) prefix U.0 W0 U.2) in
        let W1 : Owned m1 (suc n) U.0 = owned-grew m0 m1 (suc n) U.0 L.grew W0 in
        let P1 : Prefix area m1 U.0 prefix = prefix-grew area m0 m1 U.0 prefix L.grew U.2 in
        let O = own_in area used aligned m1 (suc n) U.0 prefix P1 W1 r1 m2 f2 y in
        let W2 : Owned m2 (suc n) U.0 = owned-grew m1 m2 (suc n) U.0 O.0.grew W1 in
        let P2 : Prefix area m2 U.0 prefix = prefix-grew area m1 m2 U.0 prefix O.0.grew P1 in
        let K : Made area used m2 (field_at area (suc n) children_field) 0 m3 r3 f3 (prefix ++ name_at area (suc n) ++ dot ∷ [])
        = made B near (prefix ++ name_at area (suc n) ++ dot ∷ []) (under-below area m2 (suc n) (prefix ++ name_at area (suc n) ++ dot ∷ []) (more n U.0 prefix W2 P2)) in
        let R : Made area used m3 (field_at area (suc n) right_field) (suc n) m4 r4 f4 prefix
        = made D near prefix (under-right area m3 (suc n) prefix U.0 (owned-grew m2 m3 (suc n) U.0 K.grew W2) (prefix-grew area m2 m3 U.0 prefix K.grew P2)) in
        subst (λ (v : ℕ). Made area used marks v before m4 r4 (f1 ++ f2 ++ f3 ++ f4) prefix) (sym (e ∙ el))
        (node_made (suc n) (λ z. omega (arith, z)) marks m0 p dir E prefix before m1 r1 f1 L m2 f2 O.0 O.1 m3 r3 f3 K m4 r4 f4 R)
