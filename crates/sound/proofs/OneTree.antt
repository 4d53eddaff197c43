-- Bytes determine what stands in them: a text up to its zero, a value, an entry, and the tree below a link.
use Prim.Native.Nat.{ℕ, ◌+◌, ◌-◌, ◌*◌, ◌≤◌, ◌<◌}
use native.Mathlib.Omega.{arith}
use native.Mathlib.Decide.{dec_lt}
use mathlib.Core.Path.{◌≡◌, refl, sym, ap, ◌∙◌}
use mathlib.Core.List.{List, [], ◌∷◌, ◌++◌}
use lib.ListN.{length, get_or}
use lib.Seq.{ext_get_or}
use Rattle.names.specs.Names.{dot}
use Rattle.layout.specs.Layout.{word_size, node_size, serial_field, slot_field, long_offset_field, first_free, byte_of, place_of, word_at, node_takes, entry_takes}
use Rattle.sound.specs.Tree.{Value, short, long, Entry, bare, entry, Tree, leaf, node, link, entry_link, inside, entry_cover, cover}
use Rattle.sound.specs.Sound.{Holds, HoldsText, node_words, NodeAt, ValueAt, EntryAt, TreeAt, Without, ValueRule, EntryRule, TreeRule, Room}
use Rattle.sound.proofs.Inside.{inside-yes, inside-low}
use Rattle.sound.proofs.Holding.{text-bytes, text-zero}

-- no byte before the first free one is counted; so no object stands at offset 0
abbrev pub Behind : (ℕ → ℕ) → Type 0
Behind count = (i : ℕ) → 1 ≤ count i → byte_of first_free ≤ i

pub room-behind : (used : ℕ) (tree : Tree) → Room used tree → Behind (cover tree)
room-behind used tree room i h = inside-low (byte_of first_free) (used - first_free) i (omega (arith, room i))

not-zero : (at size : ℕ) → 1 ≤ size → Behind (inside (byte_of at) size) → 1 ≤ at
not-zero at size some behind = omega (arith, behind (byte_of at) (omega (arith, inside-yes (byte_of at) size (byte_of at) (omega arith) (omega arith))))

module _ (area : List ℕ) where
  -- ---- bytes and texts from two places that are one
  one-bytes : (from to : ℕ) (x y : List ℕ) → from ≡ to → length x ≡ length y → Holds area from x → Holds area to y → x ≡ y
  one-bytes from to x y e l f g =
      ext_get_or 0 x y l (λ k h. sym (f k h) ∙ ap (λ (i : ℕ). get_or area (i + k) 0) e ∙ g k (omega arith))

  text-not-shorter : (from to : ℕ) (x y : List ℕ) → from ≡ to → HoldsText area from x → HoldsText area to y → Without 0 y → length y ≤ length x
  text-not-shorter from to x y e f g whole =
      elim (dec_lt (length x) (length y)) [
        | yes h ↦ absurd (whole (length x) h (sym (text-bytes area to y g (length x) h) ∙ ap (λ (i : ℕ). get_or area (i + length x) 0) (sym e) ∙ text-zero area from x f))
        | no h ↦ omega arith
      ]

  one-text : (from to : ℕ) (x y : List ℕ) → from ≡ to → HoldsText area from x → HoldsText area to y → Without 0 x → Without 0 y → x ≡ y
  one-text from to x y e f g p q =
      one-bytes from to x y e (omega (arith, text-not-shorter from to x y e f g q, text-not-shorter to from y x (sym e) g f p))
      (text-bytes area from x f) (text-bytes area to y g)

  -- ---- a value is short or long by its serial
  same-value : (at place s t : ℕ) (name path : List ℕ) (x y : Value) → at ≡ place → s ≡ t → ValueAt area at x → ValueAt area place y
      → ValueRule at s name x → ValueRule place t path y → x ≡ y
  unfolding ValueAt ValueRule
  same-value at place s t name path (short x) (short y) e f p q r u =
      ap short (one-bytes (place_of at slot_field) (place_of place slot_field) x y (omega arith) (p.1 ∙ sym q.1) p.0 q.0)
  same-value at place s t name path (short x) (long to y) e f p q r u = absurd (omega (arith, r.0, u.0))
  same-value at place s t name path (long from x) (short y) e f p q r u = absurd (omega (arith, r.0, u.0))
  same-value at place s t name path (long from x) (long to y) e f p q r u =
      let w : word_at area at long_offset_field ≡ word_at area place long_offset_field = ap (λ (i : ℕ). word_at area i long_offset_field) e in
      let far : from ≡ to = omega (arith, p.0, q.0, r.2, u.2) in
      let text : x ≡ y = one-text (byte_of from) (byte_of to) x y (omega arith) p.1 q.1 r.3 u.3 in
      cc

  -- ---- an entry: its link is not zero, its name is its path
  one_entry : (p q : List ℕ) (x y : Entry) → p ≡ q → entry_link x ≡ entry_link y → Behind (entry_cover x) → Behind (entry_cover y)
      → EntryAt area x → EntryAt area y → EntryRule p x → EntryRule q y → x ≡ y
  unfolding entry_link entry_cover EntryAt EntryRule
  one_entry p q bare bare e l b c f g r u = refl
  one_entry p q bare (entry place t path w) e l b c f g r u =
      absurd (omega (arith, not-zero place (entry_takes (length path)) (omega arith) (λ i h. c i (omega arith))))
  one_entry p q (entry at s name v) bare e l b c f g r u =
      absurd (omega (arith, not-zero at (entry_takes (length name)) (omega arith) (λ i h. b i (omega arith))))
  one_entry p q (entry at s name v) (entry place t path w) e l b c f g r u =
      let serial : s ≡ t = sym f.0 ∙ ap (λ (i : ℕ). word_at area i serial_field) l ∙ g.0 in
      let same : name ≡ path = r.0 ∙ e ∙ sym u.0 in
      let value : v ≡ w = same-value at place s t name path v w l serial f.2 g.2 r.2 u.2 in
      cc

  -- ---- a node: its words are its name's length and its links
  one_word : (at place : ℕ) (name path words others : List ℕ) → at ≡ place → NodeAt area at name words → NodeAt area place path others
      → (k : ℕ) → k < 5 → get_or words k 0 ≡ get_or others k 0
  one_word at place name path words others e f g k h = sym (f.fields k h) ∙ ap (λ (i : ℕ). word_at area i (word_size * k)) e ∙ g.fields k h

  pub one_below : (p q : List ℕ) (s t : Tree) → p ≡ q → link s ≡ link t → Behind (cover s) → Behind (cover t)
      → TreeAt area s → TreeAt area t → TreeRule p s → TreeRule q t → s ≡ t
  unfolding link cover TreeAt TreeRule
  one_below p q leaf leaf e l b c f g r u = refl
  one_below p q leaf (node place path other x y z) e l b c f g r u =
      absurd (omega (arith, not-zero place (node_takes (length path)) (omega arith) (λ i h. c i (omega arith))))
  one_below p q (node at name own left below right) leaf e l b c f g r u =
      absurd (omega (arith, not-zero at (node_takes (length name)) (omega arith) (λ i h. b i (omega arith))))
  one_below p q (node at name own left below right) (node place path other x y z) e l b c f g r u =
      let word = one_word at place name path (node_words name own left below right) (node_words path other x y z) l f.0 g.0 in
      let same : name ≡ path =
      one-bytes (place_of at node_size) (place_of place node_size) name path (omega arith) (word 0 (omega arith))
      (text-bytes area (place_of at node_size) name f.0.text) (text-bytes area (place_of place node_size) path g.0.text) in
      let entries : own ≡ other =
      one_entry (p ++ name) (q ++ path) own other (cc) (word 1 (omega arith))
      (λ i h. b i (omega arith)) (λ i h. c i (omega arith)) f.1 g.1 r.1 u.1 in
      let lefts : left ≡ x =
      one_below p q left x e (word 2 (omega arith))
      (λ i h. b i (omega arith)) (λ i h. c i (omega arith)) f.2 g.2 r.4 u.4 in
      let belows : below ≡ y =
      one_below (p ++ name ++ dot ∷ []) (q ++ path ++ dot ∷ []) below y (cc) (word 4 (omega arith))
      (λ i h. b i (omega arith)) (λ i h. c i (omega arith)) f.3 g.3 r.5 u.5 in
      let rights : right ≡ z =
      one_below p q right z e (word 3 (omega arith))
      (λ i h. b i (omega arith)) (λ i h. c i (omega arith)) f.4 g.4 r.6 u.6 in
      cc
