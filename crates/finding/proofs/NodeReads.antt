-- A subtree that stands in a sound area, with its parts; and what its bytes read as, texts first.
use Prim.Native.Nat.{ℕ, zero, suc, ◌+◌, ◌-◌, ◌*◌, ◌≤◌, ◌<◌}
use native.Mathlib.Omega.{arith}
use native.Mathlib.Decide.{dec_lt}
use mathlib.Core.Path.{◌≡◌, refl, sym, ap, ◌∙◌}
use mathlib.Core.Bool.{true}
use mathlib.Core.List.{List, [], ◌∷◌, ◌++◌}
use lib.ListN.{length, get_or, take, drop, length-take, length-drop}
use lib.Seq.{ext_get_or, get_or-take, get_or-drop}
use borrow.Author.Tests.{le-leb, ne_eqb}
use Rattle.words.specs.Words.{first_in, part}
use Rattle.words.proofs.Laws.{first-low}
use Rattle.words.proofs.Promises.{first-none, first-there}
use Rattle.names.specs.Names.{dot, segment_order}
use Rattle.std.specs.declared.cmp.Ordering.{Ordering}
use Rattle.std.specs.Prelude.{Ok}
use Rattle.layout.specs.Layout.{node_size, entry_size, namelen_field, prop_field, left_field, right_field, children_field}
use Rattle.layout.specs.Layout.{first_free, data_size, byte_of, place_of, word_at, node_ok, entry_ok, node_takes, entry_takes, span_at, text_in}
use Rattle.layout.proofs.Promises.{touch-yes}
use Rattle.trie.specs.declared.trie.Visited.{Visited}
use Rattle.trie.specs.Trie.{node_name, follow, by_order, visit_node}
use Rattle.sound.specs.Tree.{Value, Entry, bare, entry, Tree, node, link, entry_link, inside, entry_cover, cover}
use Rattle.sound.specs.Sound.{Holds, HoldsText, TreeAt, Without, EntryRule, TreeRule, Room, Sound}
use Rattle.sound.specs.Ways.{nodes}
use Rattle.sound.proofs.Inside.{inside-between}
use Rattle.sound.proofs.Holding.{text-bytes, text-zero, without-append}
use Rattle.sound.proofs.Counting.{nodes-few}
use Rattle.finding.specs.Look.{turn}

-- ---- bytes and texts
module _ (area : List ℕ) (from : ℕ) where
  pub part-holds : (bs : List ℕ) → Holds area from bs → from + length bs ≤ length area → part area from (from + length bs) ≡ bs
  part-holds bs h l =
      let e : from + length bs - from ≡ length bs = omega arith in
      let size : length (take (length bs) (drop from area)) ≡ length bs = simp (length-take, length-drop) (omega arith) in
      rw e (ext_get_or 0 (take (length bs) (drop from area)) bs size
      (λ k m. get_or-take (length bs) (drop from area) k 0 (omega arith) ∙ get_or-drop from area k 0 ∙ h k (omega arith)))

  module _ (text : List ℕ) (h : HoldsText area from text) (whole : Without 0 text) (size : ℕ) (l : length text < size) where
    abbrev to : ℕ
    to = first_in 0 area from size

    pub first-zero : first_in 0 area from size ≡ from + length text
    first-zero = by (dec_lt to (from + length text)) (dec_lt (from + length text) to)
      where
        by : Dec (to < from + length text) → Dec (from + length text < to) → to ≡ from + length text
        by (yes p) q =
            let low = first-low 0 area from size in
            let e : from + (to - from) ≡ to = omega arith in
            absurd (whole (to - from) (omega arith)
            (sym (text-bytes area from text h (to - from) (omega arith)) ∙ ap (λ (j : ℕ). get_or area j 0) e ∙ first-there 0 area from size (omega arith)))
        by (no p) (yes q) = absurd (first-none 0 area from size (from + length text) (omega arith) q (text-zero area from text h))
        by (no p) (no q) = omega arith

    pub text-reads : from + size ≤ length area → text_in area from size ≡ span_at from (from + length text)
    unfolding text_in
    text-reads fits = rw (first-zero, le-leb (from + size) (length area) fits, ne_eqb (from + length text) (from + size) (λ e. omega arith))

-- ---- a subtree in a sound area, below a dotted prefix
pub record Standing (area : List ℕ) (used : ℕ) (prefix : List ℕ) (tree : Tree) : Type 0 where
  pub low : first_free ≤ used
  pub high : used ≤ data_size area
  pub few : 24 * nodes tree ≤ used - first_free
  pub room : Room used tree
  pub bytes : TreeAt area tree
  pub whole : Without 0 prefix
  pub rule : TreeRule prefix tree

pub stands-whole : (area : List ℕ) (used : ℕ) (tree : Tree) → Sound area used tree → Standing area used [] tree
stands-whole area used tree sound = record {
  low = sound.front.low;
  high = sound.front.high;
  few = nodes-few area used tree sound;
  room = sound.room;
  bytes = sound.bytes;
  whole = λ k l. absurd (omega arith);
  rule = sound.rule;
}

-- bytes that count between 112 and used alone, once; an extent that does lies there
abbrev pub InRoom : ℕ → (ℕ → ℕ) → Type 0
InRoom used count = (i : ℕ) → count i ≤ inside (byte_of first_free) (used - first_free) i

pub between : (used at size : ℕ) → first_free ≤ used → 1 ≤ size → InRoom used (inside (byte_of at) size) → (first_free ≤ at) × (at + size ≤ used)
between used at size low some within =
    let e : byte_of used - byte_of first_free ≡ used - first_free = omega arith in
    let b = inside-between (byte_of at) size (byte_of first_free) (byte_of used) some (omega arith) (λ i. rw e (within i)) in
    (omega (arith, b.0), omega (arith, b.1))

module _ (area : List ℕ) (used : ℕ) (prefix : List ℕ) (at : ℕ) (name : List ℕ) (own : Entry) (left below right : Tree)
    (stands : Standing area used prefix (node at name own left below right)) where
  -- ---- its three sides
  pub stands-left : Standing area used prefix left
  unfolding nodes cover TreeAt TreeRule
  stands-left = record {
    low = stands.low;
    high = stands.high;
    few = omega (arith, stands.few);
    room = λ i. omega (arith, stands.room i);
    bytes = stands.bytes.2;
    whole = stands.whole;
    rule = stands.rule.4;
  }

  pub stands-right : Standing area used prefix right
  unfolding nodes cover TreeAt TreeRule
  stands-right = record {
    low = stands.low;
    high = stands.high;
    few = omega (arith, stands.few);
    room = λ i. omega (arith, stands.room i);
    bytes = stands.bytes.4;
    whole = stands.whole;
    rule = stands.rule.6;
  }

  pub path-whole : Without 0 (prefix ++ name)
  unfolding TreeRule
  path-whole = without-append 0 prefix name stands.whole stands.rule.0.whole

  pub stands-below : Standing area used (prefix ++ name ++ dot ∷ []) below
  unfolding nodes cover TreeAt TreeRule
  stands-below = record {
    low = stands.low;
    high = stands.high;
    few = omega (arith, stands.few);
    room = λ i. omega (arith, stands.room i);
    bytes = stands.bytes.3;
    whole = without-append 0 (prefix ++ name) (dot ∷ []) path-whole by;
    rule = stands.rule.5;
  }
    where
      by : (k : ℕ) → k < 1 → get_or (dot ∷ []) k 0 ≡ 0 → ⊥
      by zero l e = omega arith
      by (suc k) l e = omega arith

  -- ---- its node
  pub node-lies : (first_free ≤ at) × (at + node_takes (length name) ≤ used)
  unfolding cover
  node-lies = between used at (node_takes (length name)) stands.low (omega arith) (λ i. omega (arith, stands.room i))

  pub node-touched : node_ok area at ≡ true
  unfolding TreeRule
  node-touched = touch-yes area node_size at (omega (arith, node-lies, stands.high)) stands.rule.0.aligned

  pub prop-word : word_at area at prop_field ≡ entry_link own
  unfolding TreeAt
  prop-word = stands.bytes.0.fields 1 (omega arith)

  pub left_word : word_at area at left_field ≡ link left
  unfolding TreeAt
  left_word = stands.bytes.0.fields 2 (omega arith)

  pub right-word : word_at area at right_field ≡ link right
  unfolding TreeAt
  right-word = stands.bytes.0.fields 3 (omega arith)

  pub children-word : word_at area at children_field ≡ link below
  unfolding TreeAt
  children-word = stands.bytes.0.fields 4 (omega arith)

  pub own_room : InRoom used (entry_cover own)
  unfolding cover
  own_room i = omega (arith, stands.room i)

  node-named : node_name area at ≡ span_at (place_of at node_size) (place_of at node_size + length name)
  unfolding TreeAt TreeRule
  node-named =
      let size : word_at area at namelen_field ≡ length name = stands.bytes.0.fields 0 (omega arith) in
      rw size (text-reads area (place_of at node_size) name stands.bytes.0.text stands.rule.0.whole (length name + 1) (omega arith)
      (omega (arith, node-lies, stands.high)))

  name-part : part area (place_of at node_size) (place_of at node_size + length name) ≡ name
  unfolding TreeAt
  name-part =
      part-holds area (place_of at node_size) name (text-bytes area (place_of at node_size) name stands.bytes.0.text) (omega (arith, node-lies, stands.high))

  -- a comparison with it: by the order of the segment and its name
  pub visit-node : (segment : List ℕ)
      → visit_node area segment at ≡ Ok (turn (segment_order segment name) Visited.Same (follow (link left) (at + left_field)) (follow (link right) (at + right_field)))
  unfolding visit_node
  visit-node segment = rw (node-touched, node-named, name-part) (ap Ok (by (segment_order segment name)))
    where
      by : (order : Ordering) → by_order area at order ≡ turn order Visited.Same (follow (link left) (at + left_field)) (follow (link right) (at + right_field))
      by Ordering.Equal = refl
      by Ordering.Less = rw left_word
      by Ordering.Greater = rw right-word

-- ---- an entry that a node has: no link to it is zero, and it can be touched
abbrev pub OwnTouched : List ℕ → Entry → Type 0
OwnTouched area bare = Unit {0}
OwnTouched area (entry at serial name value) = (1 ≤ at) × (entry_ok area at ≡ true)

pub entry-lies : (used at serial : ℕ) (name : List ℕ) (value : Value) → first_free ≤ used → InRoom used (entry_cover (entry at serial name value))
    → (first_free ≤ at) × (at + entry_takes (length name) ≤ used)
unfolding entry_cover
entry-lies used at serial name value low within = between used at (entry_takes (length name)) low (omega arith) (λ i. omega (arith, within i))

pub own-touched : (area : List ℕ) (used : ℕ) (path : List ℕ) (own : Entry) → first_free ≤ used → used ≤ data_size area
    → InRoom used (entry_cover own) → EntryRule path own → OwnTouched area own
unfolding EntryRule
own-touched area used path bare low high within rule = tt
own-touched area used path (entry at serial name value) low high within rule =
    let lies = entry-lies used at serial name value low within in
    (omega (arith, lies), touch-yes area entry_size at (omega (arith, lies)) rule.1)
