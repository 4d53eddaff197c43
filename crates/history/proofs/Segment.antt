-- One segment of an add, from where the walk stands: its node is found, or is hung where the search ended, or there is no room for it.
use Prim.Native.Nat.{ℕ, ◌+◌, ◌≤◌, ◌<◌}
use native.Mathlib.Nat.{add-zero}
use native.Mathlib.Omega.{arith}
use mathlib.Core.Path.{◌≡◌, refl, sym, ap, ◌∙◌}
use mathlib.Core.List.{List, [], ◌∷◌, ◌++◌, append-nil}
use lib.ListN.{length}
use borrow.Author.Tests.{ne_eqb}
use Rattle.words.specs.Words.{little_at}
use Rattle.words.proofs.Laws.{clash}
use Rattle.names.specs.Names.{segment_order}
use Rattle.std.specs.declared.cmp.Ordering.{Ordering}
use Rattle.std.specs.declared.cmp.Ordering.TheVariants.{Less, Equal, Greater}
use Rattle.names.proofs.Promises.{order-self}
use Rattle.layout.specs.Layout.{word_size, left_field, right_field, children_field, data_size, byte_of, place_of, word_at, node_takes}
use Rattle.trie.specs.Trie.{nodes_max, segment_steps}
use Rattle.allocation.specs.Steps.{goes, stops, and_then, total}
use Rattle.nodes.specs.Nodes.{hang_node, or_hang, add_node, add_segment}
use Rattle.sound.specs.Tree.{Entry, bare, Tree, leaf, node, link}
use Rattle.sound.specs.Sound.{Sound}
use Rattle.sound.specs.Ways.{Dir, to_left, to_below, to_right, toward, reached, nodes}
use Rattle.growth.specs.Plug.{plug, link_place}
use Rattle.growth.proofs.Focus.{reached-at}
use Rattle.growth.proofs.Joining.{reached-append, link-append, Along, along-reached, along-append, reached-plug}
use Rattle.growth.proofs.SoundPut.{top_place}
use Rattle.finding.specs.Look.{turn, spot, compares}
use Rattle.finding.proofs.NodeReads.{Standing, node-lies}
use Rattle.finding.proofs.Searching.{link_offset, ends_at, search_end, search-siblings, segment-siblings}
use Rattle.finding.proofs.LookWays.{spot-named}
use Rattle.history.proofs.Rooms.{full_number}
use Rattle.history.proofs.Hanging.{spot-along}
use Rattle.history.proofs.Stood.{Stood, at_node, stood-along, stood-place, stands_at, stood-touched, above, above-append, above-plug}
use Rattle.history.proofs.NodeHung.{NameRule, node-rule, spot_at, hung_bytes, hung-size, hang-full, hang-goes, hang-sound}
use Rattle.history.proofs.Hung.{Hung, same, more, nodes-hang}

-- ---- the offset and the byte place of the link to what a way reaches
link-leaf : (way : List Dir) (place : ℕ) → link_place place leaf way ≡ place
unfolding link_place toward
link-leaf [] place = refl
link-leaf (dir ∷ way) place = link-leaf way place

pub link-join : (way : List Dir) (offset place : ℕ) (tree : Tree) → byte_of offset ≡ place → byte_of (link_offset offset tree way) ≡ link_place place tree way
unfolding link_offset link_place toward
link-join [] offset place tree e = e
link-join (dir ∷ way) offset place leaf e = e ∙ sym (link-leaf way place)
link-join (to_left ∷ way) offset place (node at name own left below right) e = link-join way (at + left_field) (place_of at left_field) left (omega arith)
link-join (to_below ∷ way) offset place (node at name own left below right) e = link-join way (at + children_field) (place_of at children_field) below (omega arith)
link-join (to_right ∷ way) offset place (node at name own left below right) e = link-join way (at + right_field) (place_of at right_field) right (omega arith)

-- ---- a node is found at once where the search begins with it
found_first : (area : List ℕ) (used : ℕ) (prefix : List ℕ) (at : ℕ) (segment : List ℕ) (own : Entry) (left below right : Tree)
    → Standing area used prefix (node at segment own left below right) → add_node area segment at ≡ goes at area []
unfolding add_node link spot compares reached search_end ends_at
found_first area used prefix at segment own left below right stands =
    let lies = node-lies area used prefix at segment own left below right stands in
    let ends = search-siblings area used prefix segment (node at segment own left below right) (nodes_max area) at 0 0 stands (omega (arith, stands.few, stands.high)) in
    ap (or_hang area segment) (rw (ne_eqb at 0 (λ e. omega arith), order-self segment) at ends)

-- the names above do not grow among siblings
above-spot : (segment : List ℕ) (tree : Tree) → above tree (spot segment tree) ≡ []
unfolding above spot
above-spot segment leaf = refl
above-spot segment (node at name own left below right) = by (segment_order segment name) (above-spot segment left) (above-spot segment right)
  where
    by : (order : Ordering) → above left (spot segment left) ≡ [] → above right (spot segment right) ≡ []
        → above (node at name own left below right) (turn order [] (to_left ∷ spot segment left) (to_right ∷ spot segment right)) ≡ []
    by Equal l r = refl
    by Less l r = l
    by Greater l r = r

module _ (area : List ℕ) (used : ℕ) (tree : Tree) (v : List Dir) (parent : ℕ) (segment : List ℕ) where
  -- one segment further: so much room was taken, and the siblings there
  pub record Further (taken : ℕ) (siblings : Tree) : Type 0 where
    pub at : ℕ
    pub after : List ℕ
    pub rooms : List ℕ
    pub now : Tree
    pub is : add_segment area segment parent ≡ goes at after rooms
    pub adds : (others : List ℕ) → total (rooms ++ others) ≡ taken + total others
    pub size : length after ≡ length area
    pub sound : Sound after (used + taken) now
    pub hung : Hung tree now
    pub count : nodes now ≡ nodes tree + length rooms
    pub stood : Stood now (spot_at tree v segment ++ to_below ∷ []) at
    pub under : reached now (spot_at tree v segment ++ to_below ∷ []) ≡ siblings
    pub names : above now (spot_at tree v segment ++ to_below ∷ []) ≡ above tree v ++ segment ∷ []

  module _ (sound : Sound area used tree) (stood : Stood tree v parent) (named : NameRule segment) where
    abbrev way : List Dir
    way = spot_at tree v segment

    abbrev place : ℕ
    place = link_offset (parent + children_field) (reached tree v) (spot segment (reached tree v))

    along : Along tree way
    along = along-append v (spot segment (reached tree v)) tree (stood-along tree v parent stood) (spot-along segment (reached tree v))

    -- the link that the search ends at
    linked : byte_of place ≡ link_place top_place tree way
    linked =
        link-join (spot segment (reached tree v)) (parent + children_field) (link_place top_place tree v) (reached tree v) (omega (arith, stood-place tree v parent stood))
        ∙ sym (link-append v (spot segment (reached tree v)) top_place tree)

    children : word_at area parent children_field ≡ link (reached tree v)
    children = ap (little_at word_size area) (stood-place tree v parent stood) ∙ (reached-at area v top_place tree sound.top sound.bytes).0

    -- ---- the children link: zero, and a node is laid there; or it leads to siblings, and the search ends among them
    none_yet : reached tree v ≡ leaf → add_segment area segment parent ≡ and_then (hang_node area place segment) (λ at laid. add_node laid segment at)
    unfolding add_segment link link_offset spot
    none_yet is = rw (stood-touched area used tree sound v parent stood, children, is)

    some-there : (at : ℕ) (name : List ℕ) (own : Entry) (left below right : Tree) → reached tree v ≡ node at name own left below right
        → add_segment area segment parent ≡ or_hang area segment (ends_at (reached tree way) place (0 + compares segment (reached tree v)))
    unfolding add_segment add_node segment_steps search_end link
    some-there at name own left below right is =
        let stands : Standing area used (stands_at area used tree sound v).0 (reached tree v) = (stands_at area used tree sound v).1 in
        let lies = node-lies area used (stands_at area used tree sound v).0 at name own left below right (rw is at stands) in
        let touched = stood-touched area used tree sound v parent stood in
        let some : word_at area parent children_field ≡ 0 → ⊥ = λ e. let k : word_at area parent children_field ≡ at = children ∙ rw is in omega arith in
        let empty : length segment ≡ 0 → ⊥ = λ e. omega (arith, named.some) in
        let ends = segment-siblings area used (stands_at area used tree sound v).0 segment (reached tree v) parent stands touched children empty in
        rw (touched, ne_eqb (word_at area parent children_field) 0 some, reached-append v (spot segment (reached tree v)) tree)
        (ap (or_hang area segment) (rw (ne_eqb (length segment) 0 empty, touched, ne_eqb (word_at area parent children_field) 0 some) at ends))

    -- the names above the siblings there
    further-names : (now : Tree) (at : ℕ) (name : List ℕ) (own : Entry) (left below right : Tree) → above now way ≡ above tree way
        → reached now way ≡ node at name own left below right → segment ≡ name → above now (way ++ to_below ∷ []) ≡ above tree v ++ segment ∷ []
    unfolding above
    further-names now at name own left below right alike there same_name =
        above-append way (to_below ∷ []) now (along-reached way now at name own left below right there)
        ∙ rw (alike, there, above-append v (spot segment (reached tree v)) tree (stood-along tree v parent stood), above-spot segment (reached tree v), append-nil (above tree v), same_name)

    -- ---- the node is there
    module _ (at : ℕ) (name : List ℕ) (own : Entry) (left below right : Tree) (there : reached tree way ≡ node at name own left below right) where
      goes-there : (siblings : Tree) → reached tree v ≡ siblings → add_segment area segment parent ≡ goes at area []
      unfolding ends_at spot reached
      goes-there leaf e =
          let k : leaf ≡ node at name own left below right = rw (reached-append v (spot segment (reached tree v)) tree, e) at there in
          clash cc
      goes-there (node first other with l b r) e = some-there first other with l b r e ∙ rw there

      pub further-there : Further 0 below
      unfolding reached toward
      further-there = record {
        at = at;
        after = area;
        rooms = [];
        now = tree;
        is = goes-there (reached tree v) refl;
        adds = λ others. omega arith;
        size = refl;
        sound = rw (add-zero used) sound;
        hung = same tree;
        count = omega arith;
        stood = at_node way at name own left below right there;
        under = reached-append way (to_below ∷ []) tree ∙ rw there;
        names = further-names tree at name own left below right refl there
            (rw (← reached-append v (spot segment (reached tree v)) tree, there) at (spot-named segment (reached tree v)));
      }

    -- ---- it is missing
    module _ (free : reached tree way ≡ leaf) where
      -- there is no room for it
      pub segment-full : data_size area < used + node_takes (length segment) → add_segment area segment parent ≡ stops (full_number (used + node_takes (length segment))) area []
      segment-full full = by (reached tree v) refl
        where
          by : (siblings : Tree) → reached tree v ≡ siblings → add_segment area segment parent ≡ stops (full_number (used + node_takes (length segment))) area []
          by leaf e = none_yet e ∙ rw (hang-full area used tree sound place segment full)
          by (node first other with l b r) e = some-there first other with l b r e ∙ unfold ends_at in rw free (hang-full area used tree sound place segment full)

      -- there is room, and it is hung
      module _ (fits : used + node_takes (length segment) ≤ data_size area) where
        abbrev laid : List ℕ
        laid = hung_bytes area used place segment

        abbrev grown : Tree
        grown = plug tree way (node used segment bare leaf leaf leaf)

        laid-sound : Sound laid (used + node_takes (length segment)) grown
        laid-sound = hang-sound area used tree sound place segment fits named v parent stood linked

        there-now : reached grown way ≡ node used segment bare leaf leaf leaf
        there-now = reached-plug way tree (node used segment bare leaf leaf leaf) along

        -- searched from, it is found
        again : add_node laid segment used ≡ goes used laid []
        again =
            let stands = stands_at laid (used + node_takes (length segment)) grown laid-sound way in
            found_first laid (used + node_takes (length segment)) stands.0 used segment bare leaf leaf leaf (rw there-now at stands.1)

        goes_on : (siblings : Tree) → reached tree v ≡ siblings → add_segment area segment parent ≡ goes used laid (node_takes (length segment) ∷ [])
        unfolding ends_at
        goes_on leaf e = none_yet e ∙ rw (hang-goes area used tree sound place segment fits, again)
        goes_on (node first other with l b r) e = some-there first other with l b r e ∙ rw free (hang-goes area used tree sound place segment fits)

        pub further-hung : Further (node_takes (length segment)) leaf
        unfolding reached toward
        further-hung = record {
          at = used;
          after = laid;
          rooms = node_takes (length segment) ∷ [];
          now = grown;
          is = goes_on (reached tree v) refl;
          adds = λ others. refl;
          size = hung-size area used place segment;
          sound = laid-sound;
          hung = more tree grown v parent used segment stood free (node-rule used segment sound.front.aligned named) (same grown);
          count = nodes-hang way tree used segment free;
          stood = at_node way used segment bare leaf leaf leaf there-now;
          under = reached-append way (to_below ∷ []) grown ∙ rw there-now;
          names = further-names grown used segment bare leaf leaf leaf (above-plug way tree (node used segment bare leaf leaf leaf) along) there-now refl;
        }
