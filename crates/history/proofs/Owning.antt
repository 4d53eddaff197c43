-- Another entry at a node: the names along the way there find it, and all other names find what they found.
use Prim.Native.Nat.{ℕ}
use mathlib.Core.Path.{◌≡◌, refl, sym, ap, ◌∙◌}
use mathlib.Core.Logic.{◌≢◌}
use mathlib.Core.List.{List, [], ◌∷◌, ◌++◌}
use Rattle.words.proofs.Laws.{clash}
use Rattle.names.specs.Names.{dot, segment_order}
use Rattle.std.specs.declared.cmp.Ordering.{Ordering}
use Rattle.std.specs.declared.cmp.Ordering.TheVariants.{Less, Greater}
use Rattle.names.proofs.Promises.{order-self}
use Rattle.sound.specs.Tree.{Entry, Tree, leaf, node}
use Rattle.sound.specs.Sound.{Side, TreeRule}
use Rattle.sound.specs.Ways.{Dir, to_left, to_below, to_right, toward, reached}
use Rattle.growth.specs.Plug.{hang, plug}
use Rattle.finding.proofs.Spelling.{names_to}
use Rattle.history.specs.Lack.{seek}
use Rattle.history.proofs.Seeking.{seek-node}
use Rattle.history.proofs.Hanging.{seek-alike}

-- ---- one node of the search of some names, by the order of the first
module _ (segs : List (List ℕ)) (segment : List ℕ) (rest : List (List ℕ)) (is : segs ≡ segment ∷ rest)
    (above : Entry) (at : ℕ) (name : List ℕ) (own : Entry) (left below right : Tree) where
  seek-here : segment ≡ name → seek segs above (node at name own left below right) ≡ seek rest own below
  seek-here same = rw (is, same) (seek-node name rest above at name own left below right ∙ rw (order-self name))

  seek-left : segment_order segment name ≡ Less → seek segs above (node at name own left below right) ≡ seek segs above left
  seek-left less = rw is (seek-node segment rest above at name own left below right ∙ rw less)

  seek-right : segment_order segment name ≡ Greater → seek segs above (node at name own left below right) ≡ seek segs above right
  seek-right greater = rw is (seek-node segment rest above at name own left below right ∙ rw greater)

-- what stands there, put there, changes nothing
plug-own : (way : List Dir) (tree : Tree) → plug tree way (reached tree way) ≡ tree
unfolding plug hang reached toward
plug-own [] tree = refl
plug-own (dir ∷ way) leaf = plug-own way leaf
plug-own (to_left ∷ way) (node at name own left below right) = rw (plug-own way left)
plug-own (to_below ∷ way) (node at name own left below right) = rw (plug-own way below)
plug-own (to_right ∷ way) (node at name own left below right) = rw (plug-own way right)

module _ (at : ℕ) (name : List ℕ) (own : Entry) (left below right : Tree) where
  -- ---- on a side, the first name along a way to a node is ordered as the side is
  pub side-first : (way : List Dir) (order : Ordering) (full : List ℕ) (tree : Tree) → Side order full tree → reached tree way ≡ node at name own left below right
      → (segment : List ℕ) × (rest : List (List ℕ)) × (names_to tree way ≡ segment ∷ rest) × (segment_order segment full ≡ order)
  unfolding reached toward names_to Side
  side-first [] order full leaf side is = clash cc
  side-first (dir ∷ way) order full leaf side is = side-first way order full leaf side is
  side-first [] order full (node place other next l b r) side is = (other, [], refl, side.0)
  side-first (to_left ∷ way) order full (node place other next l b r) side is = side-first way order full l side.1 is
  side-first (to_below ∷ way) order full (node place other next l b r) side is = (other, names_to b way, refl, side.0)
  side-first (to_right ∷ way) order full (node place other next l b r) side is = side-first way order full r side.2 is

  module _ (new : Entry) where
    -- ---- the names along the way find it
    pub seek-new : (way : List Dir) (prefix : List ℕ) (tree : Tree) (above : Entry) → TreeRule prefix tree → reached tree way ≡ node at name own left below right
        → seek (names_to tree way) above (plug tree way (node at name new left below right)) ≡ new
    unfolding reached toward plug hang names_to TreeRule
    seek-new [] prefix leaf above rule is = clash cc
    seek-new (dir ∷ way) prefix leaf above rule is = seek-new way prefix leaf above rule is
    seek-new [] prefix (node place other next l b r) above rule is =
        let same : other ≡ name = cc in
        seek-here (other ∷ []) other [] refl above at name new left below right same ∙ unfold seek in refl
    seek-new (to_below ∷ way) prefix (node place other next l b r) above rule is =
        seek-here (other ∷ names_to b way) other (names_to b way) refl above place other next l (plug b way (node at name new left below right)) r refl
        ∙ seek-new way (prefix ++ other ++ dot ∷ []) b next rule.5 is
    seek-new (to_left ∷ way) prefix (node place other next l b r) above rule is =
        let first = side-first way Less other l rule.2 is in
        seek-left (names_to l way) first.0 first.1 first.2 above place other next (plug l way (node at name new left below right)) b r first.3
        ∙ seek-new way prefix l above rule.4 is
    seek-new (to_right ∷ way) prefix (node place other next l b r) above rule is =
        let first = side-first way Greater other r rule.3 is in
        seek-right (names_to r way) first.0 first.1 first.2 above place other next l b (plug r way (node at name new left below right)) first.3
        ∙ seek-new way prefix r above rule.6 is

    -- ---- other names find what they found
    other-here : (segs : List (List ℕ)) (above : Entry) → segs ≢ name ∷ []
        → seek segs above (node at name new left below right) ≡ seek segs above (node at name own left below right)
    unfolding seek
    other-here [] above differs = refl
    other-here (segment ∷ []) above differs =
        seek-alike segment [] above at name own new left left below below right right refl (λ same. absurd (differs (rw same))) refl
    other-here (segment ∷ next ∷ rest) above differs =
        seek-alike segment (next ∷ rest) above at name own new left left below below right right refl (λ same. refl) refl

    pub seek-others : (way : List Dir) (tree : Tree) (segs : List (List ℕ)) (above : Entry) → reached tree way ≡ node at name own left below right
        → segs ≢ names_to tree way → seek segs above (plug tree way (node at name new left below right)) ≡ seek segs above tree
    unfolding reached toward plug hang names_to
    seek-others [] tree segs above is differs = rw is (other-here segs above (rw is at differs))
    seek-others (dir ∷ way) leaf segs above is differs = seek-others way leaf segs above is differs
    seek-others (dir ∷ way) (node place other next l b r) [] above is differs = unfold seek in refl
    seek-others (to_left ∷ way) (node place other next l b r) (segment ∷ rest) above is differs =
        seek-alike segment rest above place other next next l (plug l way (node at name new left below right)) b b r r
        (seek-others way l (segment ∷ rest) above is differs) (λ same. refl) refl
    seek-others (to_below ∷ way) (node place other next l b r) (segment ∷ rest) above is differs =
        seek-alike segment rest above place other next next l l b (plug b way (node at name new left below right)) r r
        refl (λ same. seek-others way b rest next is (λ e. differs (cc))) refl
    seek-others (to_right ∷ way) (node place other next l b r) (segment ∷ rest) above is differs =
        seek-alike segment rest above place other next next l l b b r (plug r way (node at name new left below right))
        refl (λ same. refl) (seek-others way r (segment ∷ rest) above is differs)

  -- ---- and before, they find its own
  pub seek-own : (way : List Dir) (prefix : List ℕ) (tree : Tree) (above : Entry) → TreeRule prefix tree → reached tree way ≡ node at name own left below right
      → seek (names_to tree way) above tree ≡ own
  seek-own way prefix tree above rule is =
      let same : plug tree way (node at name own left below right) ≡ tree = ap (plug tree way) (sym is) ∙ plug-own way tree in
      rw same at (seek-new own way prefix tree above rule is)
