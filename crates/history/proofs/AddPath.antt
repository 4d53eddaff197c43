-- The walk of an add over a sound area: it goes on if there is room for all nodes that the path lacks, else it stops for want of room. The area stays sound.
use Prim.Native.Nat.{ℕ, ◌+◌, ◌≤◌, ◌<◌}
use native.Mathlib.Nat.{add-zero}
use native.Mathlib.Omega.{arith}
use native.Mathlib.Decide.{dec_lt}
use mathlib.Core.Path.{◌≡◌, refl, sym, ap, ◌∙◌}
use mathlib.Core.List.{List, [], ◌∷◌, ◌++◌, append-nil, append_assoc}
use lib.ListN.{length, length-append}
use Rattle.words.proofs.Laws.{clash}
use Rattle.layout.specs.Layout.{data_size, node_takes}
use Rattle.allocation.specs.Steps.{goes, stops, total}
use Rattle.nodes.specs.Nodes.{add_path}
use Rattle.sound.specs.Tree.{Entry, Tree, leaf, node}
use Rattle.sound.specs.Sound.{Sound}
use Rattle.sound.specs.Ways.{Dir, to_below, reached, nodes}
use Rattle.growth.proofs.Joining.{reached-append}
use Rattle.finding.specs.Look.{spot, by_node}
use Rattle.finding.proofs.Spelling.{names_to}
use Rattle.history.specs.Lack.{missing}
use Rattle.history.proofs.Rooms.{full_number}
use Rattle.history.proofs.Stood.{Stood, at_root, at_node, above, above-names}
use Rattle.history.proofs.NodeHung.{NameRule, spot_at}
use Rattle.history.proofs.Hung.{Hung, same, hung-then}
use Rattle.history.proofs.Segment.{Further, further-there, segment-full, further-hung}

abbrev pub AllNamed : List (List ℕ) → Type 0
AllNamed [] = Unit {0}
AllNamed (segment ∷ rest) = NameRule segment × AllNamed rest

module _ (area : List ℕ) (used : ℕ) (tree : Tree) (v : List Dir) (parent : ℕ) (segs : List (List ℕ)) where
  -- the walk went on to its end, and stands there
  pub record Went : Type 0 where
    pub at : ℕ
    pub after : List ℕ
    pub rooms : List ℕ
    pub now : Tree
    pub way : List Dir
    pub is : add_path area segs parent ≡ goes at after rooms
    pub given : total rooms ≡ missing segs (reached tree v)
    pub size : length after ≡ length area
    pub sound : Sound after (used + total rooms) now
    pub hung : Hung tree now
    pub count : nodes now ≡ nodes tree + length rooms
    pub stood : Stood now way at
    pub names : above now way ≡ above tree v ++ segs

  -- the walk stopped at a node that wanted more room than there was, with some segments left
  pub record Halted : Type 0 where
    pub number : ℕ
    pub after : List ℕ
    pub rooms : List ℕ
    pub now : Tree
    pub wanted : ℕ
    pub at : ℕ
    pub way : List Dir
    pub left : List (List ℕ)
    pub is : add_path area segs parent ≡ stops number after rooms
    pub why : number ≡ full_number (used + total rooms + wanted)
    pub full : data_size area < used + total rooms + wanted
    pub within : total rooms + wanted ≤ missing segs (reached tree v)
    pub size : length after ≡ length area
    pub sound : Sound after (used + total rooms) now
    pub hung : Hung tree now
    pub count : nodes now ≡ nodes tree + length rooms
    pub stood : Stood now way at
    pub names : above now way ++ left ≡ above tree v ++ segs
    pub still : total rooms + missing left (reached now way) ≡ missing segs (reached tree v)

-- ---- one segment, and the rest from there
module _ (area : List ℕ) (used : ℕ) (tree : Tree) (v : List Dir) (parent : ℕ) (segment : List ℕ) (rest : List (List ℕ)) (taken : ℕ) (siblings : Tree)
    (f : Further area used tree v parent segment taken siblings) where
  counted : (now : Tree) (rooms : List ℕ) → nodes now ≡ nodes f.now + length rooms → nodes now ≡ nodes tree + length (f.rooms ++ rooms)
  counted now rooms e = omega (arith, e, f.count, length-append f.rooms rooms)

  went_then : taken + missing rest siblings ≡ missing (segment ∷ rest) (reached tree v)
      → Went f.after (used + taken) f.now (spot_at tree v segment ++ to_below ∷ []) f.at rest → Went area used tree v parent (segment ∷ rest)
  unfolding add_path
  went_then lacks w =
      let e : used + total (f.rooms ++ w.rooms) ≡ used + taken + total w.rooms = omega (arith, f.adds w.rooms) in
      let all : total w.rooms ≡ missing rest siblings = w.given ∙ ap (missing rest) f.under in
      record {
        at = w.at;
        after = w.after;
        rooms = f.rooms ++ w.rooms;
        now = w.now;
        way = w.way;
        is = rw (f.is, w.is);
        given = omega (arith, f.adds w.rooms);
        size = w.size ∙ f.size;
        sound = rw e w.sound;
        hung = hung-then tree f.now w.now f.hung w.hung;
        count = counted w.now w.rooms w.count;
        stood = w.stood;
        names = w.names ∙ ap (λ (t : List (List ℕ)). t ++ rest) f.names ∙ append_assoc (above tree v) (segment ∷ []) rest;
      }

  halted-then : taken + missing rest siblings ≡ missing (segment ∷ rest) (reached tree v) → Halted f.after (used + taken) f.now (spot_at tree v segment ++ to_below ∷ []) f.at rest → Halted area used tree v parent (segment ∷ rest)
  unfolding add_path
  halted-then lacks w =
      let e : used + total (f.rooms ++ w.rooms) ≡ used + taken + total w.rooms = omega (arith, f.adds w.rooms) in
      record {
        number = w.number;
        after = w.after;
        rooms = f.rooms ++ w.rooms;
        now = w.now;
        wanted = w.wanted;
        at = w.at;
        way = w.way;
        left = w.left;
        is = rw (f.is, w.is);
        why = rw e w.why;
        full = omega (arith, f.size, w.full);
        within = omega (arith, f.adds w.rooms, w.within, ap (missing rest) f.under);
        size = w.size ∙ f.size;
        sound = rw e w.sound;
        hung = hung-then tree f.now w.now f.hung w.hung;
        count = counted w.now w.rooms w.count;
        stood = w.stood;
        names = w.names ∙ ap (λ (t : List (List ℕ)). t ++ rest) f.names ∙ append_assoc (above tree v) (segment ∷ []) rest;
        still = omega (arith, f.adds w.rooms, w.still, ap (missing rest) f.under);
      }

-- ---- the first segment, where its node is there or has room
module _ (area : List ℕ) (used : ℕ) (tree : Tree) (v : List Dir) (parent : ℕ) (segment : List ℕ) (rest : List (List ℕ)) where
  -- what is missing, by where the search of it ends
  missing-by : (end : Tree) → reached tree (spot_at tree v segment) ≡ end
      → by_node end (node_takes (length segment) + missing rest leaf) (λ own below. missing rest below) ≡ missing (segment ∷ rest) (reached tree v)
  unfolding missing
  missing-by end e = rw (← e, reached-append v (spot segment (reached tree v)) tree)

  first_goes : (end : Tree) → reached tree (spot_at tree v segment) ≡ end → Sound area used tree → Stood tree v parent → NameRule segment
      → (reached tree (spot_at tree v segment) ≡ leaf → used + node_takes (length segment) ≤ data_size area)
      → (taken : ℕ) × (siblings : Tree) × Further area used tree v parent segment taken siblings × (taken + missing rest siblings ≡ missing (segment ∷ rest) (reached tree v))
  first_goes leaf e sound stood named fits =
      (node_takes (length segment), leaf, further-hung area used tree v parent segment sound stood named e (fits e), missing-by leaf e)
  first_goes (node at name own left below right) e sound stood named fits =
      let lacks = missing-by (node at name own left below right) e in
      (0, below, further-there area used tree v parent segment sound stood named at name own left below right e, omega arith)

-- ---- there is room for all: it goes on
pub path-goes : (segs : List (List ℕ)) (area : List ℕ) (used : ℕ) (tree : Tree) (v : List Dir) (parent : ℕ) → Sound area used tree → Stood tree v parent → AllNamed segs
    → used + missing segs (reached tree v) ≤ data_size area → Went area used tree v parent segs
unfolding add_path missing
path-goes [] area used tree v parent sound stood named fits = record {
  at = parent;
  after = area;
  rooms = [];
  now = tree;
  way = v;
  is = refl;
  given = refl;
  size = refl;
  sound = rw (add-zero used) sound;
  hung = same tree;
  count = omega arith;
  stood = stood;
  names = sym (append-nil (above tree v));
}
path-goes (segment ∷ rest) area used tree v parent sound stood named fits =
    let first = first_goes area used tree v parent segment rest (reached tree (spot_at tree v segment)) refl sound stood named.0
    (λ e. omega (arith, missing-by area used tree v parent segment rest leaf e)) in
    let f = first.2 in
    went_then area used tree v parent segment rest first.0 first.1 f first.3
    (path-goes rest f.after (used + first.0) f.now (spot_at tree v segment ++ to_below ∷ []) f.at f.sound f.stood named.1
    (omega (arith, first.3, f.size, ap (missing rest) f.under)))

-- ---- there is not: it stops
pub path-halts : (segs : List (List ℕ)) (area : List ℕ) (used : ℕ) (tree : Tree) (v : List Dir) (parent : ℕ) → Sound area used tree → Stood tree v parent → AllNamed segs
    → data_size area < used + missing segs (reached tree v) → Halted area used tree v parent segs
unfolding add_path missing
path-halts [] area used tree v parent sound stood named full = absurd (omega (arith, sound.front.high))
path-halts (segment ∷ rest) area used tree v parent sound stood named full =
    by (reached tree (spot_at tree v segment)) refl (dec_lt (data_size area) (used + node_takes (length segment))) (λ fits.
    let first = first_goes area used tree v parent segment rest (reached tree (spot_at tree v segment)) refl sound stood named.0 fits in
    let f = first.2 in
    halted-then area used tree v parent segment rest first.0 first.1 f first.3
    (path-halts rest f.after (used + first.0) f.now (spot_at tree v segment ++ to_below ∷ []) f.at f.sound f.stood named.1
    (omega (arith, first.3, f.size, ap (missing rest) f.under))))
  where
    by : (end : Tree) → reached tree (spot_at tree v segment) ≡ end → Dec (data_size area < used + node_takes (length segment))
        → ((reached tree (spot_at tree v segment) ≡ leaf → used + node_takes (length segment) ≤ data_size area) → Halted area used tree v parent (segment ∷ rest))
        → Halted area used tree v parent (segment ∷ rest)
    by leaf e (yes over) on = record {
      number = full_number (used + node_takes (length segment));
      after = area;
      rooms = [];
      now = tree;
      wanted = node_takes (length segment);
      at = parent;
      way = v;
      left = segment ∷ rest;
      is = rw (segment-full area used tree v parent segment sound stood named.0 e over);
      why = rw (add-zero used);
      full = omega arith;
      within = omega (arith, missing-by area used tree v parent segment rest leaf e);
      size = refl;
      sound = rw (add-zero used) sound;
      hung = same tree;
      count = omega arith;
      stood = stood;
      names = refl;
      still = omega arith;
    }
    by leaf e (no fits) on = on (λ k. omega arith)
    by (node at name own left below right) e fits on = on (λ k. let q : node at name own left below right ≡ leaf = sym e ∙ k in clash cc)

-- ---- where it stands after some segments, there is a node, and its path is these
pub record NodeThere (tree : Tree) (at : ℕ) (segs : List (List ℕ)) : Type 0 where
  pub way : List Dir
  pub name : List ℕ
  pub own : Entry
  pub left : Tree
  pub below : Tree
  pub right : Tree
  pub there : reached tree way ≡ node at name own left below right
  pub names : names_to tree way ≡ segs

pub stood-node : (tree : Tree) (v : List Dir) (at : ℕ) (segs : List (List ℕ)) → Stood tree v at → above tree v ≡ segs → (segs ≡ [] → ⊥) → NodeThere tree at segs
unfolding above
stood-node tree v at segs at_root e some = absurd (some (sym e))
stood-node tree v at segs (at_node way place name own left below right there) e some = record {
  way = way;
  name = name;
  own = own;
  left = left;
  below = below;
  right = right;
  there = there;
  names = sym (above-names way tree) ∙ e;
}
