-- The used mark moved, and an entry hung at a node that had none: the area stays sound.
use Prim.Native.Nat.{ℕ, ◌+◌, ◌-◌, ◌%◌, ◌≤◌, ◌<◌}
use native.Mathlib.Omega.{arith}
use native.Mathlib.Decide.{dec_lt}
use mathlib.Core.Path.{◌≡◌, ◌∙◌}
use mathlib.Core.List.{List, [], ◌∷◌, ◌++◌}
use lib.ListN.{length, get_or}
use Rattle.words.specs.Stores.{run, word_store}
use Rattle.layout.specs.Layout.{word_size, word_max, used_field, magic_field, prop_field, children_field, root_at, first_free, data_size, byte_of, place_of, header_word, node_takes}
use Rattle.trie.proofs.HeaderLaws.{header-min, header-max}
use Rattle.sound.specs.Tree.{Entry, bare, Tree, node, entry_link, inside, entry_cover, cover}
use Rattle.sound.specs.Sound.{EntryAt, EntryRule, Front, Sound}
use Rattle.sound.specs.Ways.{Dir, reached}
use Rattle.sound.proofs.Inside.{inside-below, inside-above, inside-low, inside-high}
use Rattle.sound.proofs.Framing.{stamp_size, word-frame, entry_frame, tree-frame}
use Rattle.growth.specs.Plug.{plug, link_place}
use Rattle.growth.proofs.Rules.{prefix_at}
use Rattle.growth.proofs.SoundPut.{top_place, front-grown, sound-plug, sound-own}
use Rattle.finding.proofs.NodeReads.{Standing, stands-whole, node-lies}
use Rattle.finding.proofs.FindLook.{stands-reached}
use Rattle.history.proofs.Storing.{Changed}
use Rattle.history.proofs.NodeLaid.{WordSet, link_set}

module _ (area : List ℕ) (used : ℕ) (tree : Tree) (sound : Sound area used tree) where
  -- an offset in the area fits a word
  pub data-small : data_size area ≤ word_max
  data-small = omega (arith, header-max area sound.front.header)

  -- what is counted stands behind the root's first four words, and before the free bytes
  counted : (i : ℕ) → 1 ≤ inside top_place word_size i + cover tree i → (top_place ≤ i) × (i < byte_of used)
  counted i some = by (dec_lt i top_place) (dec_lt i (byte_of used))
    where
      by : Dec (i < top_place) → Dec (i < byte_of used) → (top_place ≤ i) × (i < byte_of used)
      by (yes p) q = absurd (omega (arith, inside-below top_place word_size i p, sound.room i, inside-below (byte_of first_free) (used - first_free) i (omega arith)))
      by (no p) (yes q) = (omega arith, q)
      by (no p) (no q) =
          absurd (omega (
            arith,
            sound.front.low,
            inside-above top_place word_size i (omega (arith, sound.front.low)),
            sound.room i,
            inside-above (byte_of first_free) (used - first_free) i (omega (arith, sound.front.low)),
          ))

  -- ---- another used mark, and bytes behind the root's fourth word
  front-moved : (b : List ℕ) (grown : ℕ) → used ≤ grown → grown ≤ data_size area → grown % word_size ≡ 0 → header_word b used_field ≡ grown → length b ≡ length area
      → ((i : ℕ) → magic_field ≤ i → i < top_place → get_or b i 0 ≡ get_or area i 0) → Front b grown
  front-moved b grown more high aligned mark size keep =
      front-grown area b used grown sound.front size mark more high aligned
      (λ i k. keep i (inside-low magic_field stamp_size i k) (omega (arith, inside-high magic_field stamp_size i k)))
      (λ i k. keep i (omega (arith, inside-low (byte_of root_at) children_field i k)) (inside-high (byte_of root_at) children_field i k))

  pub mark_set : (grown : ℕ) → grown ≤ data_size area → WordSet area used_field grown (run area (word_store used_field grown ∷ []))
  mark_set grown high = link_set area used_field grown (omega (arith, data-small)) (omega (arith, header-min area sound.front.header))

  -- ---- room that is given and not taken: the same tree
  pub mark-moved : (grown : ℕ) → used ≤ grown → grown ≤ data_size area → grown % word_size ≡ 0 → Sound (run area (word_store used_field grown ∷ [])) grown tree
  unfolding plug link_place
  mark-moved grown more high aligned =
      let set = mark_set grown high in
      let keep : (i : ℕ) → word_size ≤ i → get_or (run area (word_store used_field grown ∷ [])) i 0 ≡ get_or area i 0 =
      λ i low. set.rest.kept i (inside-above used_field word_size i (omega arith)) in
      sound-plug area (run area (word_store used_field grown ∷ [])) used grown tree [] tree sound
      (front-moved (run area (word_store used_field grown ∷ [])) grown more high aligned set.word set.rest.size (λ i l h. keep i (omega arith)))
      more (λ i k z y. keep i (omega (arith, counted i k)))
      (word-frame area (run area (word_store used_field grown ∷ [])) top_place (λ i k. keep i (omega (arith, inside-low top_place word_size i k))) ∙ sound.top)
      (tree-frame area (run area (word_store used_field grown ∷ [])) tree (λ i k. keep i (omega (arith, counted i (omega arith)))) sound.bytes)
      (λ i. unfold reached in omega arith) sound.rule

-- what stands where a way leads to a node
pub node-stands : (area : List ℕ) (used : ℕ) (tree : Tree) (way : List Dir) (at : ℕ) (name : List ℕ) (own : Entry) (left below right : Tree)
    → reached tree way ≡ node at name own left below right → Sound area used tree → (prefix : List ℕ) × Standing area used prefix (node at name own left below right)
node-stands area used tree way at name own left below right there sound =
    let stands = stands-reached way area used [] tree (stands-whole area used tree sound) in
    (stands.0, rw there at stands.1)

-- ---- an entry laid in the free bytes, then prop
module _ (area : List ℕ) (used : ℕ) (tree : Tree) (way : List Dir) (at : ℕ) (name : List ℕ) (left below right : Tree)
    (there : reached tree way ≡ node at name bare left below right) (sound : Sound area used tree) where
  node-between : (first_free ≤ at) × (at + node_takes (length name) ≤ used)
  node-between =
      let stands = node-stands area used tree way at name bare left below right there sound in
      node-lies area used stands.0 at name bare left below right stands.1

  module _ (laid : List ℕ) (size : ℕ) (new : Entry) (high : used + size ≤ data_size area) (aligned : (used + size) % word_size ≡ 0)
      (mark : header_word laid used_field ≡ used + size) (changed : Changed area laid (λ i. inside used_field word_size i + inside (byte_of used) size i)) where
    abbrev hung : List ℕ
    hung = run laid (word_store (place_of at prop_field) (entry_link new) ∷ [])

    pub entry-hung : entry_link new ≤ word_max → EntryAt laid new → ((i : ℕ) → entry_cover new i ≤ inside (byte_of used) size i)
        → EntryRule (prefix_at [] tree way ++ name) new
        → Sound (run laid (word_store (place_of at prop_field) (entry_link new) ∷ [])) (used + size) (plug tree way (node at name new left below right))
    entry-hung small stands within rule =
        sound-own area used tree way at name bare left below right there sound hung (used + size) new
        (front-moved area used tree sound hung (used + size) (omega arith) high aligned
        (word-frame laid hung used_field (λ i k. linked.rest.kept i (inside-below (place_of at prop_field) word_size i (omega (arith, inside-high used_field word_size i k)))) ∙ mark)
        (linked.rest.size ∙ changed.size)
        (λ i l h. keep i (omega arith) (omega (arith, sound.front.low)) (inside-below (place_of at prop_field) word_size i (omega (arith, node-between)))))
        (omega arith) (λ i k z y. let c = counted area used tree sound i k in keep i (omega (arith, c)) c.1 y)
        linked.word
        (entry_frame laid hung new (λ i k. linked.rest.kept i (inside-above (place_of at prop_field) word_size i
        (omega (arith, node-between, inside-low (byte_of used) size i (omega (arith, within i)))))) stands)
        (λ i. rw behind (omega (arith, within i))) rule
      where
        behind : used + size - used ≡ size
        behind = omega arith

        linked : WordSet laid (place_of at prop_field) (entry_link new) hung
        linked = link_set laid (place_of at prop_field) (entry_link new) small (omega (arith, changed.size, node-between, sound.front.high))

        keep : (i : ℕ) → word_size ≤ i → i < byte_of used → inside (place_of at prop_field) word_size i ≡ 0 → get_or hung i 0 ≡ get_or area i 0
        keep i low h z =
            linked.rest.kept i z ∙ changed.kept i (omega (arith, inside-above used_field word_size i (omega arith), inside-below (byte_of used) size i h))
