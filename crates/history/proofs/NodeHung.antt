-- A node hung where the search of its name ends: the area stays sound, with the node in its tree; or there is no room, and nothing is changed.
use Prim.Native.Nat.{ℕ, ◌+◌, ◌-◌, ◌%◌, ◌≤◌, ◌<◌}
use native.Mathlib.Omega.{arith}
use native.Mathlib.Decide.{dec_lt}
use mathlib.Core.Path.{◌≡◌, ◌∙◌}
use mathlib.Core.Bool.{true}
use mathlib.Core.List.{List, [], ◌∷◌, ◌++◌}
use lib.ListN.{length, get_or}
use Rattle.words.specs.Stores.{run, word_store}
use Rattle.words.proofs.StoreLaws.{run_length}
use Rattle.names.specs.Names.{dot}
use Rattle.layout.specs.Layout.{word_size, word_max, used_field, magic_field, node_size, children_field, root_at, first_free, data_size, byte_of, node_takes, node_ok}
use Rattle.layout.proofs.Promises.{touch-yes}
use Rattle.trie.proofs.HeaderLaws.{header-max}
use Rattle.allocation.specs.Steps.{goes, stops}
use Rattle.nodes.specs.Nodes.{node_stores, new_node, hang_node}
use Rattle.sound.specs.Tree.{bare, Tree, leaf, node, link, entry_link, inside, entry_cover, cover}
use Rattle.sound.specs.Sound.{node_words, EntryAt, TreeAt, Without, NodeRule, EntryRule, TreeRule, Front, Sound}
use Rattle.sound.specs.Ways.{Dir, reached}
use Rattle.sound.proofs.Inside.{inside-yes, inside-below, inside-above, inside-low, inside-high}
use Rattle.sound.proofs.Framing.{Keep, stamp_size, word-frame, node-frame}
use Rattle.growth.specs.Plug.{plug, link_place}
use Rattle.growth.proofs.Cover.{link-cover}
use Rattle.growth.proofs.Rules.{prefix_at, reached-rule, rule-hang}
use Rattle.growth.proofs.Joining.{plug-append}
use Rattle.growth.proofs.SoundPut.{top_place, front-grown, sound-plug}
use Rattle.finding.specs.Look.{spot}
use Rattle.history.proofs.NodeLaid.{WordSet, link_set, NodeLaid, node-laid}
use Rattle.history.proofs.Rooms.{full_number, room-given, room-full}
use Rattle.history.proofs.Hanging.{spot-placed}
use Rattle.history.proofs.Stood.{Stood, stood-rule}

-- what is asked of a node's name
pub record NameRule (name : List ℕ) : Type 0 where
  pub some : 1 ≤ length name
  pub whole : Without 0 name
  pub plain : Without dot name

pub node-rule : (at : ℕ) (name : List ℕ) → at % word_size ≡ 0 → NameRule name → NodeRule at name
node-rule at name aligned named = record { aligned = aligned; some = named.some; whole = named.whole; plain = named.plain }

-- the way from the whole tree to where a segment's node is, or would hang, among some siblings
abbrev pub spot_at : Tree → List Dir → List ℕ → List Dir
spot_at tree v segment = v ++ spot segment (reached tree v)

-- a node of that name hung there keeps all order and names
pub hang-rule : (tree : Tree) (v : List Dir) (parent at : ℕ) (segment : List ℕ) → Stood tree v parent → NodeRule at segment → TreeRule [] tree
    → TreeRule [] (plug tree (spot_at tree v segment) (node at segment bare leaf leaf leaf))
unfolding TreeRule EntryRule
hang-rule tree v parent at segment stood named rule =
    rw (plug-append v (spot segment (reached tree v)) tree (node at segment bare leaf leaf leaf))
    (stood-rule tree v parent stood rule (plug (reached tree v) (spot segment (reached tree v)) (node at segment bare leaf leaf leaf))
    (rule-hang (spot segment (reached tree v)) (prefix_at [] tree v) (reached tree v) at segment bare leaf (spot-placed segment (reached tree v)) named tt tt (reached-rule v [] tree rule)))

-- the bytes with the used mark moved; with a node laid down there; with a link to it
abbrev given_bytes : List ℕ → ℕ → List ℕ → List ℕ
given_bytes area used segment = run area (word_store used_field (used + node_takes (length segment)) ∷ [])

abbrev laid_bytes : List ℕ → ℕ → List ℕ → List ℕ
laid_bytes area used segment = run (given_bytes area used segment) (node_stores used segment)

unfoldable pub hung_bytes : List ℕ → ℕ → ℕ → List ℕ → List ℕ
hung_bytes area used l segment = run (laid_bytes area used segment) (word_store (byte_of l) used ∷ [])

pub hung-size : (area : List ℕ) (used l : ℕ) (segment : List ℕ) → length (hung_bytes area used l segment) ≡ length area
unfolding hung_bytes
hung-size area used l segment =
    run_length (laid_bytes area used segment) (word_store (byte_of l) used ∷ [])
    ∙ run_length (given_bytes area used segment) (node_stores used segment) ∙ run_length area (word_store used_field (used + node_takes (length segment)) ∷ [])

module _ (area : List ℕ) (used : ℕ) (tree : Tree) (sound : Sound area used tree) where
  -- a byte of the tree, or of the link to it
  counted-lies : (i : ℕ) → 1 ≤ inside top_place word_size i + cover tree i → (top_place ≤ i) × (i < byte_of used)
  counted-lies i h = by (dec_lt i top_place) (dec_lt i (byte_of used))
    where
      by : Dec (i < top_place) → Dec (i < byte_of used) → (top_place ≤ i) × (i < byte_of used)
      by (yes p) q = absurd (omega (arith, sound.room i, inside-below top_place word_size i p, inside-below (byte_of first_free) (used - first_free) i (omega arith)))
      by (no p) (yes q) = (omega arith, q)
      by (no p) (no q) =
          absurd (omega (
            arith,
            sound.front.low,
            sound.room i,
            inside-above top_place word_size i (omega (arith, sound.front.low)),
            inside-above (byte_of first_free) (used - first_free) i (omega (arith, sound.front.low)),
          ))

  -- every link word stands between the root's children link and used
  pub link-lies : (way : List Dir) → (top_place ≤ link_place top_place tree way) × (link_place top_place tree way + word_size ≤ byte_of used)
  link-lies way =
      let p : ℕ = link_place top_place tree way in
      let first = counted-lies p (omega (arith, link-cover way top_place tree p, inside-yes p word_size p (omega arith) (omega arith))) in
      let last = counted-lies (p + 3) (omega (arith, link-cover way top_place tree (p + 3), inside-yes p word_size (p + 3) (omega arith) (omega arith))) in
      (first.0, omega (arith, last.1))

  module _ (l : ℕ) (segment : List ℕ) where
    abbrev room : ℕ
    room = node_takes (length segment)

    pub hang-full : data_size area < used + node_takes (length segment) → hang_node area l segment ≡ stops (full_number (used + node_takes (length segment))) area []
    unfolding hang_node new_node
    hang-full full = rw (room-full area room used sound.front.mark full)

    module _ (fits : used + node_takes (length segment) ≤ data_size area) where
      abbrev given : List ℕ
      given = given_bytes area used segment

      abbrev laid : List ℕ
      laid = laid_bytes area used segment

      small : used + room ≤ word_max
      small = omega (arith, header-max area sound.front.header)

      given-size : length given ≡ length area
      given-size = run_length area (word_store used_field (used + room) ∷ [])

      touched : node_ok given used ≡ true
      touched = touch-yes given node_size used (omega (arith, given-size)) sound.front.aligned

      pub hang-goes : hang_node area l segment ≡ goes used (hung_bytes area used l segment) (node_takes (length segment) ∷ [])
      unfolding hang_node new_node hung_bytes
      hang-goes = rw (room-given area room used sound.front.mark (omega (arith, header-max area sound.front.header)) fits, touched)

      -- ---- what the bytes hold then, the link being the one at which the search of the segment ends
      module _ (named : NameRule segment) (v : List Dir) (parent : ℕ) (stood : Stood tree v parent) (place : byte_of l ≡ link_place top_place tree (spot_at tree v segment)) where
        abbrev hung : List ℕ
        hung = run laid (word_store (byte_of l) used ∷ [])

        abbrev hanged : Tree
        hanged = node used segment bare leaf leaf leaf

        lies : (top_place ≤ byte_of l) × (byte_of l + word_size ≤ byte_of used)
        lies = rw place (link-lies (spot_at tree v segment))

        marked : WordSet area used_field (used + room) given
        marked = link_set area used_field (used + room) small (omega arith)

        noded : NodeLaid given used segment laid
        noded = node-laid given used segment (omega (arith, given-size)) (omega (arith, small))

        linked : WordSet laid (byte_of l) used hung
        linked = link_set laid (byte_of l) used (omega (arith, small)) (omega (arith, noded.rest.size, given-size, lies))

        size : length hung ≡ length area
        unfolding hung_bytes
        size = hung-size area used l segment

        kept : (i : ℕ) → word_size ≤ i → i < byte_of used → inside (byte_of l) word_size i ≡ 0 → get_or hung i 0 ≡ get_or area i 0
        kept i low high z =
            linked.rest.kept i z ∙ noded.rest.kept i (inside-below (byte_of used) room i high) ∙ marked.rest.kept i (inside-above used_field word_size i low)

        -- before the link
        before : (from size : ℕ) → word_size ≤ from → from + size ≤ top_place → Keep area hung (inside from size)
        before from size low high i k =
            let first = inside-low from size i k in
            let last = inside-high from size i k in
            kept i (omega arith) (omega (arith, lies)) (inside-below (byte_of l) word_size i (omega (arith, lies)))

        front : Front hung (used + room)
        front =
            front-grown area hung used (used + room) sound.front size
            (word-frame laid hung used_field (λ i k. linked.rest.kept i (inside-below (byte_of l) word_size i (omega (arith, lies, inside-high used_field word_size i k))))
            ∙ word-frame given laid used_field (λ i k. noded.rest.kept i (inside-below (byte_of used) room i (omega (arith, inside-high used_field word_size i k))))
            ∙ marked.word)
            (omega arith) fits (omega (arith, sound.front.aligned))
            (before magic_field stamp_size (omega arith) (omega arith))
            (before (byte_of root_at) children_field (omega arith) (omega arith))

        stands : TreeAt hung (node used segment bare leaf leaf leaf)
        unfolding TreeAt EntryAt link entry_link
        stands = (
          node-frame laid hung used segment (node_words segment bare leaf leaf leaf)
              (λ i k. linked.rest.kept i (inside-above (byte_of l) word_size i (omega (arith, lies, inside-low (byte_of used) room i k)))) noded.node,
          tt,
          tt,
          tt,
          tt,
        )

        pub hang-sound : Sound (hung_bytes area used l segment) (used + node_takes (length segment)) (plug tree (spot_at tree v segment) (node used segment bare leaf leaf leaf))
        unfolding hung_bytes cover entry_cover link
        hang-sound =
            sound-plug area hung used (used + room) tree (spot_at tree v segment) hanged sound front (omega arith)
            (λ i k z y. let at = counted-lies i k in kept i (omega arith) at.1 (rw place y))
            (rw (← place) linked.word)
            stands
            (λ i. let e : used + room - used ≡ room = omega arith in rw e (omega arith))
            (hang-rule tree v parent used segment stood (node-rule used segment sound.front.aligned named) sound.rule)
