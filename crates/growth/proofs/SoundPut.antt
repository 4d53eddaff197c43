-- A sound area stays sound: another tree where a way leads, another entry at a node, another serial and value in a short entry's place.
use Prim.Native.Nat.{ℕ, ◌+◌, ◌-◌, ◌*◌, ◌%◌, ◌≤◌, ◌<◌}
use native.Mathlib.Omega.{arith}
use native.Mathlib.Decide.{dec_lt}
use mathlib.Core.Path.{◌≡◌, refl, ◌∙◌}
use mathlib.Core.List.{List, [], ◌++◌}
use lib.ListN.{length, get_or}
use Rattle.words.specs.Words.{little_at}
use Rattle.layout.specs.Layout.{word_size, used_field, magic_field, node_size, prop_field, children_field, entry_size, serial_field, root_at, backup_at, backup_size, first_free, data_size, byte_of, place_of, header_word, word_at, node_takes, entry_takes}
use Rattle.serials.specs.Serial.{long_in}
use Rattle.sound.specs.Tree.{Entry, entry, short, Tree, node, link, entry_link, inside, value_cover, entry_cover, cover}
use Rattle.sound.specs.Sound.{node_words, ValueAt, EntryAt, TreeAt, Has, ValueRule, EntryRule, TreeRule, Front, Room, Sound}
use Rattle.sound.specs.Ways.{Dir, reached}
use Rattle.sound.proofs.Inside.{inside-yes, inside-below, inside-above, inside-most, inside-low, inside-high, inside-part, inside-join}
use Rattle.sound.proofs.Framing.{Keep, stamp_size, keep-part, word-frame, text-frame, header-frame, front-frame, tree-frame}
use Rattle.sound.proofs.OnePath.{reached-cover}
use Rattle.growth.specs.Plug.{plug, link_place}
use Rattle.growth.proofs.Cover.{field-cover, link-cover, plug-cover}
use Rattle.growth.proofs.Focus.{node-set, reached-at, focus}
use Rattle.growth.proofs.Rules.{prefix_at, rule-there, rule-plug-own}

-- the byte place of the link to the whole tree
abbrev pub top_place : ℕ
top_place = place_of root_at children_field

-- ---- the front with another used mark; the root's children link is free to change
pub front-grown : (a b : List ℕ) (used grown : ℕ) → Front a used → length b ≡ length a → header_word b used_field ≡ grown → used ≤ grown → grown ≤ data_size a
    → grown % word_size ≡ 0 → Keep a b (inside magic_field stamp_size) → Keep a b (inside (byte_of root_at) children_field) → Front b grown
front-grown a b used grown h e mark more high aligned stamp root = record {
  header = header-frame a b e stamp ∙ h.header;
  mark = mark;
  low = omega (arith, h.low);
  high = omega arith;
  aligned = aligned;
  root = λ k l.
      word-frame a b (place_of root_at (word_size * k)) (keep-part a b (byte_of root_at) children_field (place_of root_at (word_size * k)) word_size (omega arith) (omega arith) root)
      ∙ h.root k l;
}

-- no byte is counted twice, the link to the tree included
pub top-once : (used : ℕ) (tree : Tree) → Room used tree → (i : ℕ) → inside top_place word_size i + cover tree i ≤ 1
top-once used tree room i =
    elim (dec_lt i (top_place + word_size)) as (λ _. inside top_place word_size i + cover tree i ≤ 1) [
      | yes h ↦ omega (arith, room i, inside-below (byte_of first_free) (used - first_free) i (omega arith), inside-most top_place word_size i)
      | no h ↦ omega (arith, room i, inside-most (byte_of first_free) (used - first_free) i, inside-above top_place word_size i (omega arith))
    ]

-- ---- another tree where a way leads: in the room of what stood there, and behind what was used
pub sound-plug : (a b : List ℕ) (used grown : ℕ) (tree : Tree) (way : List Dir) (other : Tree) → Sound a used tree → Front b grown → used ≤ grown
    → ((i : ℕ) → 1 ≤ inside top_place word_size i + cover tree i → cover (reached tree way) i ≡ 0 → inside (link_place top_place tree way) word_size i ≡ 0 → get_or b i 0 ≡ get_or a i 0)
    → little_at word_size b (link_place top_place tree way) ≡ link other → TreeAt b other
    → ((i : ℕ) → cover other i ≤ cover (reached tree way) i + inside (byte_of used) (grown - used) i)
    → TreeRule [] (plug tree way other) → Sound b grown (plug tree way other)
sound-plug a b used grown tree way other sound front more keep linked there within rule = record {
  front = front;
  top = put.0;
  room = room;
  bytes = put.1;
  rule = rule;
}
  where
    put : (little_at word_size b top_place ≡ link (plug tree way other)) × TreeAt b (plug tree way other)
    put = focus a b way top_place tree other (top-once used tree sound.room) keep sound.top sound.bytes linked there

    room : Room grown (plug tree way other)
    room i =
        let join = inside-join (byte_of first_free) (used - first_free) (grown - used) i in
        let from : byte_of first_free + (used - first_free) ≡ byte_of used = omega (arith, sound.front.low) in
        let size : used - first_free + (grown - used) ≡ grown - first_free = omega (arith, sound.front.low) in
        omega (arith, plug-cover tree way other i, within i, sound.room i, rw (from, size) at join)

-- ---- at a node that a way reaches
module _ (a : List ℕ) (used : ℕ) (tree : Tree) (way : List Dir) (at : ℕ) (name : List ℕ) (own : Entry) (left below right : Tree)
    (there : reached tree way ≡ node at name own left below right) (sound : Sound a used tree) where
  node-cover : (i : ℕ) → cover (reached tree way) i ≡ inside (byte_of at) (node_takes (length name)) i + entry_cover own i + cover left i + cover below i + cover right i
  unfolding cover
  node-cover i = rw there

  node_at : TreeAt a (node at name own left below right)
  node_at = rw there at (reached-at a way top_place tree sound.top sound.bytes).1

  node-link : little_at word_size a (link_place top_place tree way) ≡ at
  unfolding link
  node-link = rw there at (reached-at a way top_place tree sound.top sound.bytes).0

  -- its entry gives way to another: the prop word leads there
  pub sound-own : (b : List ℕ) (grown : ℕ) (new : Entry) → Front b grown → used ≤ grown
      → ((i : ℕ) → 1 ≤ inside top_place word_size i + cover tree i → entry_cover own i ≡ 0 → inside (place_of at prop_field) word_size i ≡ 0 → get_or b i 0 ≡ get_or a i 0)
      → word_at b at prop_field ≡ entry_link new → EntryAt b new
      → ((i : ℕ) → entry_cover new i ≤ entry_cover own i + inside (byte_of used) (grown - used) i)
      → EntryRule (prefix_at [] tree way ++ name) new → Sound b grown (plug tree way (node at name new left below right))
  unfolding TreeAt cover link
  sound-own b grown new front more keep prop stands within rule =
      sound-plug a b used grown tree way (node at name new left below right) sound front more
      (λ i k z y. keep i k (omega (arith, node-cover i)) (omega (arith, node-cover i, field i)))
      linked (
        node-set a b at name (node_words name own left below right) 1 (entry_link new) (omega arith) refl
            (λ i k z. keep i (omega (arith, whole i, node-cover i)) (omega (arith, once i, whole i, node-cover i)) z) prop node_at.0,
        stands,
        tree-frame a b left (λ i k. rest i (omega arith)) node_at.2,
        tree-frame a b below (λ i k. rest i (omega arith)) node_at.3,
        tree-frame a b right (λ i k. rest i (omega arith)) node_at.4,
      )
      (λ i. omega (arith, node-cover i, within i))
      (rule-plug-own way [] tree at name own left below right there sound.rule new rule)
    where
      field : (i : ℕ) → inside (place_of at prop_field) word_size i ≤ inside (byte_of at) (node_takes (length name)) i
      field = field-cover at name prop_field (omega arith)

      once : (i : ℕ) → inside top_place word_size i + cover tree i ≤ 1
      once = top-once used tree sound.room

      whole : (i : ℕ) → cover (reached tree way) i ≤ cover tree i
      whole = reached-cover way tree

      linked : little_at word_size b (link_place top_place tree way) ≡ at
      linked =
          word-frame a b (link_place top_place tree way)
          (λ i k. let ends = link-cover way top_place tree i in keep i (omega arith) (omega (arith, once i, node-cover i)) (omega (arith, once i, node-cover i, field i)))
          ∙ node-link

      rest : Keep a b (λ i. cover left i + cover below i + cover right i)
      rest i k = keep i (omega (arith, whole i, node-cover i)) (omega (arith, once i, whole i, node-cover i)) (omega (arith, once i, whole i, node-cover i, field i))

-- ---- the law behind update, power cut and repair: bytes change in a short entry's serial and slot, and in the backup slot, alone
module _ (a : List ℕ) (used : ℕ) (tree : Tree) (way : List Dir) (at : ℕ) (name : List ℕ) (far serial : ℕ) (full slot : List ℕ) (left below right : Tree)
    (there : reached tree way ≡ node at name (entry far serial full (short slot)) left below right) (sound : Sound a used tree) where
  own-cover : (i : ℕ) → inside (byte_of far) (entry_takes (length full)) i + inside (byte_of at) (node_takes (length name)) i ≤ cover tree i
  unfolding entry_cover value_cover
  own-cover i = omega (arith, reached-cover way tree i, node-cover a used tree way at name (entry far serial full (short slot)) left below right there sound i)

  -- the entry stands behind the backup slot
  entry-behind : first_free ≤ far
  entry-behind = omega (
    arith,
    inside-low (byte_of first_free) (used - first_free) (byte_of far)
        (omega (arith, sound.room (byte_of far), own-cover (byte_of far), inside-yes (byte_of far) (entry_takes (length full)) (byte_of far) (omega arith) (omega arith))),
  )

  pub sound-slot : (b : List ℕ) (new : ℕ) (fresh : List ℕ) → length b ≡ length a
      → ((i : ℕ) → inside (byte_of far) entry_size i ≡ 0 → inside (byte_of backup_at) backup_size i ≡ 0 → get_or b i 0 ≡ get_or a i 0)
      → word_at b far serial_field ≡ new → long_in new ≡ 0 → ValueAt b far (short fresh) → Has 0 fresh
      → Sound b used (plug tree way (node at name (entry far new full (short fresh)) left below right))
  unfolding TreeAt EntryAt EntryRule ValueRule TreeRule entry_link entry_cover value_cover
  sound-slot b new fresh same keep says plain value zero =
      sound-own a used tree way at name (entry far serial full (short slot)) left below right there sound b used (entry far new full (short fresh))
      (front-frame a b used same (before used_field word_size (omega arith)) (before magic_field stamp_size (omega arith)) (before (byte_of root_at) node_size (omega arith)) sound.front)
      (omega arith)
      (λ i k z y. outside i k (omega arith))
      (word-frame a b (place_of at prop_field) (λ i k. outside i (omega (arith, own-cover i, field i)) (omega (arith, own-cover i, field i, once i))) ∙ stood.0.fields 1 (omega arith))
      (says, text-frame a b (place_of far entry_size) full behind stood.1.1, value)
      (λ i. omega arith)
      (rule.1.0, rule.1.1, (plain, zero))
    where
      stood : TreeAt a (node at name (entry far serial full (short slot)) left below right)
      stood = node_at a used tree way at name (entry far serial full (short slot)) left below right there sound

      rule : TreeRule (prefix_at [] tree way) (node at name (entry far serial full (short slot)) left below right)
      rule = rule-there way [] tree at name (entry far serial full (short slot)) left below right there sound.rule

      once : (i : ℕ) → inside top_place word_size i + cover tree i ≤ 1
      once = top-once used tree sound.room

      field : (i : ℕ) → inside (place_of at prop_field) word_size i ≤ inside (byte_of at) (node_takes (length name)) i
      field = field-cover at name prop_field (omega arith)

      before : (from size : ℕ) → from + size ≤ byte_of backup_at → Keep a b (inside from size)
      before from size low i k =
          let high = inside-high from size i k in
          keep i (inside-below (byte_of far) entry_size i (omega (arith, entry-behind))) (inside-below (byte_of backup_at) backup_size i (omega arith))

      behind : Keep a b (inside (place_of far entry_size) (length full + 1))
      behind i k =
          let low = inside-low (place_of far entry_size) (length full + 1) i k in
          keep i (inside-above (byte_of far) entry_size i low) (inside-above (byte_of backup_at) backup_size i (omega (arith, entry-behind)))

      outside : (i : ℕ) → 1 ≤ inside top_place word_size i + cover tree i → inside (byte_of far) (entry_takes (length full)) i ≡ 0 → get_or b i 0 ≡ get_or a i 0
      outside i k z =
          keep i (omega (arith, inside-part (byte_of far) (entry_takes (length full)) (byte_of far) entry_size i (omega arith) (omega arith))) (apart (dec_lt i (top_place + word_size)))
        where
          apart : Dec (i < top_place + word_size) → inside (byte_of backup_at) backup_size i ≡ 0
          apart (yes p) = inside-below (byte_of backup_at) backup_size i (omega arith)
          apart (no p) =
              inside-above (byte_of backup_at) backup_size i
              (inside-low (byte_of first_free) (used - first_free) i (omega (arith, sound.room i, inside-above top_place word_size i (omega arith))))
