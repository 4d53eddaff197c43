-- What the walk of a tree needs and what it leaves; a node of such a tree fits, and has the offset and the name of some node number. Assumes nothing.
use Prim.Native.Nat.{ℕ, suc, ◌+◌, ◌-◌, ◌*◌, ◌/◌, ◌≤◌, ◌<◌}
use native.Mathlib.Omega.{arith}
use mathlib.Core.Path.{◌≡◌, sym, ap, ◌∙◌}
use mathlib.Core.Logic.{◌≢◌}
use mathlib.Core.List.{List, ◌∷◌}
use lib.ListN.{length, get_or}
use Rattle.names.specs.Names.{segment_order}
use Rattle.std.specs.declared.cmp.Ordering.TheVariants.{Less, Greater}
use Rattle.layout.specs.Layout.{word_size, node_size, namelen_field, first_free, byte_of, place_of, word_at, node_takes}
use Rattle.sound.specs.Tree.{Entry, Tree, node, link, listed, inside, cover}
use Rattle.sound.specs.Sound.{NodeAt, TreeAt, Without, NodeRule, Side, TreeRule}
use Rattle.sound.specs.Ways.{Dir, nodes}
use Rattle.sound.proofs.Holding.{text-bytes, text-zero}
use Rattle.walk.specs.Model.{link_at, place_at, name_at, span, enter_at, own_work, parent_at, came_at}
use Rattle.walk.proofs.Growing.{Grew, number_max}
use Rattle.walk.proofs.MarkLaws.{counted, lies-between}
use Rattle.walk.proofs.NodeLaws.{NodeFits}
use Rattle.walk.proofs.Scanning.{holds-span}
use Rattle.walk.proofs.Made.{Under}
use Rattle.walk.proofs.MachineLaws.{Shape, steps, Walked}

-- what the walk of a tree needs
pub record Can (area : List ℕ) (used : ℕ) (marks : List ℕ) (p : ℕ) (dir : Dir) (before : ℕ) (prefix : List ℕ) (tree : Tree) : Type 0 where
  pub linked : link_at area dir p ≡ link tree
  pub bytes : TreeAt area tree
  pub rule : TreeRule prefix tree
  pub near : p ≤ number_max
  pub under : Under area marks p dir prefix
  pub clean : Without 0 prefix
  pub free : (i : ℕ) → counted marks i + cover tree i ≤ 1
  pub within : (i : ℕ) → cover tree i ≤ inside (byte_of first_free) (used - first_free) i
  pub marked : used ≤ 4 * length marks
  pub order : before ≢ 0 → Side Greater (name_at area before) tree

-- what it leaves
pub record Goes (area : List ℕ) (used : ℕ) (marks : List ℕ) (p : ℕ) (dir : Dir) (before : ℕ) (tree : Tree) : Type 0 where
  pub shape : Shape
  pub after : List ℕ
  pub last : ℕ
  pub walked : Walked (List ℕ) (link_at area) place_at (enter_at area used) (own_work area used) parent_at came_at shape marks p dir before after last (listed tree)
  pub count : (i : ℕ) → counted after i ≡ counted marks i + cover tree i
  pub grew : Grew marks after
  pub least : (x : List ℕ) → (before ≢ 0 → segment_order (name_at area before) x ≡ Less) → Side Less x tree → last ≢ 0 → segment_order (name_at area last) x ≡ Less
  pub taking : (k : ℕ) → steps shape k ≡ 4 * nodes tree + k

abbrev pub Goer : List ℕ → ℕ → Tree → Type 0
Goer area used tree = (marks : List ℕ) (p : ℕ) (dir : Dir) (before : ℕ) (prefix : List ℕ) → Can area used marks p dir before prefix tree → Goes area used marks p dir before tree

-- ---- a node of such a tree
module _ (area : List ℕ) (used : ℕ) where
  -- a node's own bytes fit
  pub fits-of : (at : ℕ) (name words : List ℕ) → NodeRule at name → NodeAt area at name (length name ∷ words) → first_free ≤ at → at + node_takes (length name) ≤ used
      → NodeFits area used at × (word_at area at namelen_field ≡ length name)
  fits-of at name words K N from to =
      let e : word_at area at namelen_field ≡ length name = N.fields 0 (omega arith) in
      let b = text-bytes area (place_of at node_size) name N.text in (
        record {
          aligned = K.aligned;
          low = from;
          some = omega (arith, e, K.some);
          high = omega (arith, e, to);
          whole = λ k h z. (let l : k < length name = omega (arith, e, h) in K.whole k l (sym (b k l) ∙ z));
          plain = λ k h z. (let l : k < length name = omega (arith, e, h) in K.plain k l (sym (b k l) ∙ z));
          zero = ap (λ (j : ℕ). get_or area (place_of at node_size + j) 0) e ∙ text-zero area (place_of at node_size) name N.text;
        },
        e,
      )

  -- a node's offset and name are those of some node number
  pub node-first : first_free ≤ used → (at : ℕ) (name : List ℕ) (own : Entry) (left below right : Tree) → ((i : ℕ) → cover (node at name own left below right) i ≤ inside (byte_of first_free) (used - first_free) i)
      → (prefix : List ℕ) → TreeRule prefix (node at name own left below right) → at ≡ suc (at / word_size - 1) * word_size
  unfolding cover TreeRule
  node-first low at name own left below right h prefix r =
      let b = lies-between used low at (node_takes (length name)) (omega arith) (λ i. omega (arith, h i)) in
      omega (arith, b.0, r.0.aligned)

  pub node-named : (at : ℕ) (name : List ℕ) (own : Entry) (left below right : Tree) (n : ℕ) → TreeAt area (node at name own left below right) → at ≡ n * word_size → name ≡ name_at area n
  unfolding TreeAt name_at
  node-named at name own left below right n h e =
      let k : word_at area at namelen_field ≡ length name = h.0.fields 0 (omega arith) in
      sym (holds-span area (place_of at node_size) name (text-bytes area (place_of at node_size) name h.0.text))
      ∙ ap (span area (place_of at node_size)) (sym k) ∙ ap (λ (v : ℕ). span area (place_of v node_size) (word_at area v namelen_field)) e
