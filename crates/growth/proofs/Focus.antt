-- The focus law: bytes may change in what a way reaches and in the link word to it, and the rest of the tree stands round what is there now.
use Prim.Native.Nat.{ℕ, ◌+◌, ◌*◌, ◌≤◌, ◌<◌}
use native.Mathlib.Omega.{arith}
use native.Mathlib.Decide.{dec_lt, ℕ_discrete}
use mathlib.Core.Path.{◌≡◌, refl, sym, ◌∙◌}
use mathlib.Core.Logic.{◌≢◌}
use mathlib.Core.List.{List, [], ◌∷◌}
use lib.ListN.{length, get_or, set}
use lib.Seq.{get_or-set_same, get_or-set_other}
use Rattle.words.specs.Words.{little_at}
use Rattle.layout.specs.Layout.{word_size, node_size, byte_of, place_of, word_at, node_takes}
use Rattle.sound.specs.Tree.{Entry, Tree, leaf, node, link, inside, cover}
use Rattle.sound.specs.Sound.{node_words, NodeAt, TreeAt}
use Rattle.sound.specs.Ways.{Dir, to_left, to_below, to_right, toward, reached}
use Rattle.sound.specs.Links.{link_field}
use Rattle.sound.proofs.Inside.{inside-yes, inside-low, inside-high, inside-below, inside-above}
use Rattle.sound.proofs.Framing.{Keep, word-frame, text-frame, entry_frame, tree-frame}
use Rattle.sound.proofs.OnePath.{reached-cover}
use Rattle.growth.specs.Plug.{hang, plug, link_place}
use Rattle.growth.proofs.Cover.{aside, node-split, field-cover, link-inside, link-cover}

-- ---- what a way reaches stands in the area, and is linked
toward-at : (area : List ℕ) (dir : Dir) (at : ℕ) (name : List ℕ) (own : Entry) (left below right : Tree) → TreeAt area (node at name own left below right)
    → (word_at area at (link_field dir) ≡ link (toward dir (node at name own left below right))) × TreeAt area (toward dir (node at name own left below right))
unfolding TreeAt toward
toward-at area to_left at name own left below right h = (h.0.fields 2 (omega arith), h.2)
toward-at area to_below at name own left below right h = (h.0.fields 4 (omega arith), h.3)
toward-at area to_right at name own left below right h = (h.0.fields 3 (omega arith), h.4)

pub reached-at : (area : List ℕ) (way : List Dir) (place : ℕ) (tree : Tree) → little_at word_size area place ≡ link tree → TreeAt area tree
    → (little_at word_size area (link_place place tree way) ≡ link (reached tree way)) × TreeAt area (reached tree way)
unfolding link_place reached toward
reached-at area [] place tree e h = (e, h)
reached-at area (dir ∷ way) place leaf e h = reached-at area way place leaf e h
reached-at area (dir ∷ way) place (node at name own left below right) e h =
    let s = toward-at area dir at name own left below right h in
    reached-at area way (place_of at (link_field dir)) (toward dir (node at name own left below right)) s.0 s.1

hang-link : (dir : Dir) (at : ℕ) (name : List ℕ) (own : Entry) (left below right other : Tree) → at ≡ link (hang dir (node at name own left below right) other)
unfolding hang link
hang-link to_left at name own left below right other = refl
hang-link to_below at name own left below right other = refl
hang-link to_right at name own left below right other = refl

module _ (a b : List ℕ) where
  -- ---- one of a node's words changed
  pub node-set : (at : ℕ) (name words : List ℕ) (k v : ℕ) → k < 5 → length words ≡ 5
      → ((i : ℕ) → 1 ≤ inside (byte_of at) (node_takes (length name)) i → inside (place_of at (word_size * k)) word_size i ≡ 0 → get_or b i 0 ≡ get_or a i 0)
      → word_at b at (word_size * k) ≡ v → NodeAt a at name words → NodeAt b at name (set words k v)
  node-set at name words k v small five keep e h = record { fields = all; text = text-frame a b (place_of at node_size) name behind h.text }
    where
      within : (i : ℕ) → byte_of at ≤ i → i < place_of at node_size + (length name + 1) → 1 ≤ inside (byte_of at) (node_takes (length name)) i
      within i low high = omega (arith, inside-yes (byte_of at) (node_takes (length name)) i low (omega arith))

      behind : Keep a b (inside (place_of at node_size) (length name + 1))
      behind i one =
          let low = inside-low (place_of at node_size) (length name + 1) i one in
          keep i (within i (omega arith) (inside-high (place_of at node_size) (length name + 1) i one)) (inside-above (place_of at (word_size * k)) word_size i (omega arith))

      apart : (j : ℕ) → j ≢ k → (i : ℕ) → place_of at (word_size * j) ≤ i → i < place_of at (word_size * j) + word_size → inside (place_of at (word_size * k)) word_size i ≡ 0
      apart j differs i low high =
          elim (dec_lt i (place_of at (word_size * k))) [
            | yes q ↦ inside-below (place_of at (word_size * k)) word_size i q
            | no q ↦ inside-above (place_of at (word_size * k)) word_size i (omega arith)
          ]

      other : (j : ℕ) → j < 5 → j ≢ k → word_at b at (word_size * j) ≡ get_or (set words k v) j 0
      other j l differs =
          word-frame a b (place_of at (word_size * j)) (λ i one.
          let low = inside-low (place_of at (word_size * j)) word_size i one in
          let high = inside-high (place_of at (word_size * j)) word_size i one in
          keep i (within i (omega arith) (omega arith)) (apart j differs i low high))
          ∙ h.fields j l ∙ sym (get_or-set_other words k j v 0 differs)

      all : (j : ℕ) → j < 5 → word_at b at (word_size * j) ≡ get_or (set words k v) j 0
      all j l = elim (ℕ_discrete j k) [ yes q ↦ rw q (e ∙ sym (get_or-set_same words k v 0 (omega arith))) | no q ↦ other j l q ]

  -- ---- another tree hung from a node: its link word changed, the rest kept
  hang-at : (dir : Dir) (at : ℕ) (name : List ℕ) (own : Entry) (left below right other : Tree)
      → ((i : ℕ) → 1 ≤ inside (byte_of at) (node_takes (length name)) i → inside (place_of at (link_field dir)) word_size i ≡ 0 → get_or b i 0 ≡ get_or a i 0)
      → Keep a b (aside dir (node at name own left below right)) → TreeAt a (node at name own left below right)
      → word_at b at (link_field dir) ≡ link other → TreeAt b other → TreeAt b (hang dir (node at name own left below right) other)
  unfolding TreeAt hang aside
  hang-at to_left at name own left below right other keep rest h e g = (
    node-set at name (node_words name own left below right) 2 (link other) (omega arith) refl keep e h.0,
    entry_frame a b own (λ i k. rest i (omega arith)) h.1,
    g,
    tree-frame a b below (λ i k. rest i (omega arith)) h.3,
    tree-frame a b right (λ i k. rest i (omega arith)) h.4,
  )
  hang-at to_below at name own left below right other keep rest h e g = (
    node-set at name (node_words name own left below right) 4 (link other) (omega arith) refl keep e h.0,
    entry_frame a b own (λ i k. rest i (omega arith)) h.1,
    tree-frame a b left (λ i k. rest i (omega arith)) h.2,
    g,
    tree-frame a b right (λ i k. rest i (omega arith)) h.4,
  )
  hang-at to_right at name own left below right other keep rest h e g = (
    node-set at name (node_words name own left below right) 3 (link other) (omega arith) refl keep e h.0,
    entry_frame a b own (λ i k. rest i (omega arith)) h.1,
    tree-frame a b left (λ i k. rest i (omega arith)) h.2,
    tree-frame a b below (λ i k. rest i (omega arith)) h.3,
    g,
  )

  -- ---- the focus law
  pub focus : (way : List Dir) (place : ℕ) (tree other : Tree)
      → ((i : ℕ) → inside place word_size i + cover tree i ≤ 1)
      → ((i : ℕ) → 1 ≤ inside place word_size i + cover tree i → cover (reached tree way) i ≡ 0 → inside (link_place place tree way) word_size i ≡ 0 → get_or b i 0 ≡ get_or a i 0)
      → little_at word_size a place ≡ link tree → TreeAt a tree
      → little_at word_size b (link_place place tree way) ≡ link other → TreeAt b other
      → (little_at word_size b place ≡ link (plug tree way other)) × TreeAt b (plug tree way other)
  unfolding plug reached link_place hang toward link
  focus [] place tree other once keep e h f g = (f, g)
  focus (dir ∷ way) place leaf other once keep e h f g = focus way place leaf other once keep e h f g
  focus (dir ∷ way) place (node at name own left below right) other once keep e h f g =
      let next : ℕ = place_of at (link_field dir) in
      let sub : Tree = toward dir (node at name own left below right) in
      let field : (i : ℕ) → inside next word_size i ≤ inside (byte_of at) (node_takes (length name)) i = field-cover at name (link_field dir) (link-inside dir) in
      let split : (i : ℕ) → cover (node at name own left below right) i
      ≡ inside (byte_of at) (node_takes (length name)) i + cover sub i + aside dir (node at name own left below right) i = node-split dir at name own left below right in
      let ends : (i : ℕ) → inside (link_place next sub way) word_size i + cover (reached sub way) i ≤ inside next word_size i + cover sub i = link-cover way next sub in
      let part : (i : ℕ) → cover (reached sub way) i ≤ cover sub i = reached-cover way sub in
      let s = toward-at a dir at name own left below right h in
      let ih : (little_at word_size b next ≡ link (plug sub way other)) × TreeAt b (plug sub way other) =
      focus way next sub other (λ i. omega (arith, once i, field i, split i)) (λ i k. keep i (omega (arith, field i, split i))) s.0 s.1 f g in (
        word-frame a b place (λ i k. keep i (omega arith) (omega (arith, once i, split i, part i)) (omega (arith, once i, split i, field i, ends i)))
            ∙ e ∙ hang-link dir at name own left below right (plug sub way other),
        hang-at dir at name own left below right (plug sub way other)
            (λ i k z. keep i (omega (arith, split i)) (omega (arith, once i, split i, part i)) (omega (arith, once i, split i, ends i)))
            (λ i k. keep i (omega (arith, split i)) (omega (arith, once i, split i, part i)) (omega (arith, once i, split i, field i, ends i)))
            h ih.0 ih.1,
      )
