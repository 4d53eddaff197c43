-- What an area holds rests on the bytes that its objects take, and on no other: an area with the same bytes there holds the same.
use Prim.Native.Nat.{ℕ, ◌+◌, ◌-◌, ◌*◌, ◌≤◌, ◌<◌}
use native.Mathlib.Omega.{arith}
use mathlib.Core.Path.{◌≡◌, sym, ap, ◌∙◌}
use mathlib.Core.List.{List, [], ◌∷◌, ◌++◌}
use lib.ListN.{length, get_or, drop, length-take, length-drop}
use lib.Seq.{ext_get_or, get_or-take, get_or-drop}
use Rattle.words.specs.Words.{little_at, part}
use Rattle.words.proofs.Laws.{little-agree}
use Rattle.layout.specs.Layout.{word_size, used_field, magic_field, version_field, node_size, entry_size, serial_field, slot_field, long_offset_field, root_at, byte_of, place_of, node_takes, entry_takes, value_takes}
use Rattle.trie.specs.Header.{header_ok}
use Rattle.sound.specs.Tree.{Value, short, long, Entry, bare, entry, Tree, leaf, node, inside, value_cover, entry_cover, cover}
use Rattle.sound.specs.Sound.{Holds, HoldsText, node_words, NodeAt, ValueAt, EntryAt, TreeAt, Front}
use Rattle.sound.proofs.Inside.{inside-yes, inside-part}
use Rattle.sound.proofs.Holding.{text-length}

-- b has a's bytes wherever a count is not zero
abbrev pub Keep : List ℕ → List ℕ → (ℕ → ℕ) → Type 0
Keep a b count = (i : ℕ) → 1 ≤ count i → get_or b i 0 ≡ get_or a i 0

-- magic and version, side by side
abbrev pub stamp_size : ℕ
stamp_size = 2 * word_size

module _ (a b : List ℕ) where
  pub keep-part : (from size less more : ℕ) → from ≤ less → less + more ≤ from + size → Keep a b (inside from size) → Keep a b (inside less more)
  keep-part from size less more low high keep i h = keep i (omega (arith, inside-part from size less more i low high))

  -- ---- a word, bytes, a text
  pub word-frame : (at : ℕ) → Keep a b (inside at word_size) → little_at word_size b at ≡ little_at word_size a at
  word-frame at keep = little-agree word_size b a at (λ i low high. keep i (omega (arith, inside-yes at word_size i low high)))

  pub holds_frame : (from : ℕ) (bs : List ℕ) → Keep a b (inside from (length bs)) → Holds a from bs → Holds b from bs
  holds_frame from bs keep h k l = keep (from + k) (omega (arith, inside-yes from (length bs) (from + k) (omega arith) (omega arith))) ∙ h k l

  pub text-frame : (from : ℕ) (text : List ℕ) → Keep a b (inside from (length text + 1)) → HoldsText a from text → HoldsText b from text
  text-frame from text keep h =
      holds_frame from (text ++ 0 ∷ []) (keep-part from (length text + 1) from (length (text ++ 0 ∷ [])) (omega arith) (omega (arith, text-length text)) keep) h

  -- ---- a node, an entry, a tree
  pub node-frame : (at : ℕ) (name words : List ℕ) → Keep a b (inside (byte_of at) (node_takes (length name))) → NodeAt a at name words → NodeAt b at name words
  node-frame at name words keep h = record {
    fields = λ k l. word-frame (place_of at (word_size * k)) (own (place_of at (word_size * k)) word_size (omega arith) (omega arith)) ∙ h.fields k l;
    text = text-frame (place_of at node_size) name (own (place_of at node_size) (length name + 1) (omega arith) (omega arith)) h.text;
  }
    where
      own : (from size : ℕ) → byte_of at ≤ from → from + size ≤ byte_of at + node_takes (length name) → Keep a b (inside from size)
      own from size low high = keep-part (byte_of at) (node_takes (length name)) from size low high keep

  value_frame : (at size : ℕ) (value : Value) → entry_size ≤ size → Keep a b (inside (byte_of at) size) → Keep a b (value_cover value) → ValueAt a at value → ValueAt b at value
  unfolding ValueAt value_cover
  value_frame at size (short slot) some keep behind h = (
    holds_frame (place_of at slot_field) slot (keep-part (byte_of at) size (place_of at slot_field) (length slot) (omega arith) (omega (arith, h.1)) keep) h.0,
    h.1,
  )
  value_frame at size (long far text) some keep behind h = (
    ap (λ (k : ℕ). at + k) (word-frame (place_of at long_offset_field) (keep-part (byte_of at) size (place_of at long_offset_field) word_size (omega arith) (omega arith) keep)) ∙ h.0,
    text-frame (byte_of far) text (keep-part (byte_of far) (value_takes (length text)) (byte_of far) (length text + 1) (omega arith) (omega arith) behind) h.1,
  )

  pub entry_frame : (own : Entry) → Keep a b (entry_cover own) → EntryAt a own → EntryAt b own
  unfolding EntryAt entry_cover
  entry_frame bare keep h = tt
  entry_frame (entry at serial name value) keep h =
      let first : Keep a b (inside (byte_of at) (entry_takes (length name))) = λ i k. keep i (omega arith) in
      let size : ℕ = entry_takes (length name) in (
        word-frame (place_of at serial_field) (keep-part (byte_of at) size (place_of at serial_field) word_size (omega arith) (omega arith) first) ∙ h.0,
        text-frame (place_of at entry_size) name (keep-part (byte_of at) size (place_of at entry_size) (length name + 1) (omega arith) (omega arith) first) h.1,
        value_frame at size value (omega arith) first (λ i k. keep i (omega arith)) h.2,
      )

  pub tree-frame : (tree : Tree) → Keep a b (cover tree) → TreeAt a tree → TreeAt b tree
  unfolding TreeAt cover
  tree-frame leaf keep h = tt
  tree-frame (node at name own left below right) keep h = (
    node-frame at name (node_words name own left below right) (λ i k. keep i (omega arith)) h.0,
    entry_frame own (λ i k. keep i (omega arith)) h.1,
    tree-frame left (λ i k. keep i (omega arith)) h.2,
    tree-frame below (λ i k. keep i (omega arith)) h.3,
    tree-frame right (λ i k. keep i (omega arith)) h.4,
  )

  -- ---- the header and the root
  part-frame : (from to : ℕ) → length b ≡ length a → Keep a b (inside from (to - from)) → part b from to ≡ part a from to
  part-frame from to e keep =
      ext_get_or 0 (part b from to) (part a from to) (simp (length-take, length-drop, e))
      (λ k l.
      let m : k < to - from = omega (arith, length-take (to - from) (drop from b)) in
      get_or-take (to - from) (drop from b) k 0 m ∙ get_or-drop from b k 0
      ∙ keep (from + k) (omega (arith, inside-yes from (to - from) (from + k) (omega arith) (omega arith)))
      ∙ sym (get_or-take (to - from) (drop from a) k 0 m ∙ get_or-drop from a k 0))

  pub header-frame : length b ≡ length a → Keep a b (inside magic_field stamp_size) → header_ok b ≡ header_ok a
  unfolding header_ok
  header-frame e keep =
      rw (
        e,
        part-frame magic_field version_field e (keep-part magic_field stamp_size magic_field word_size (omega arith) (omega arith) keep),
        word-frame version_field (keep-part magic_field stamp_size version_field word_size (omega arith) (omega arith) keep),
      )

  -- the used mark, magic and version, the root
  pub front-frame : (used : ℕ) → length b ≡ length a → Keep a b (inside used_field word_size) → Keep a b (inside magic_field stamp_size)
      → Keep a b (inside (byte_of root_at) node_size) → Front a used → Front b used
  front-frame used e mark magic root h = record {
    header = header-frame e magic ∙ h.header;
    mark = word-frame used_field mark ∙ h.mark;
    low = h.low;
    high = omega (arith, h.high);
    aligned = h.aligned;
    root = λ k l.
        word-frame (place_of root_at (word_size * k)) (keep-part (byte_of root_at) node_size (place_of root_at (word_size * k)) word_size (omega arith) (omega arith) root)
        ∙ h.root k l;
  }
