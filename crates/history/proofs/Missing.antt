-- What a path of segments lacks in a tree: from where a way with their first names leads, only what the others lack there.
use Prim.Native.Nat.{ℕ, ◌+◌, ◌<◌}
use native.Mathlib.Omega.{arith}
use mathlib.Core.Path.{◌≡◌, refl, sym, ap, ◌∙◌}
use mathlib.Core.List.{List, [], ◌∷◌, ◌++◌, append-nil}
use lib.ListN.{length}
use Rattle.words.proofs.Laws.{clash}
use Rattle.names.specs.Names.{dot, segments, segment_order}
use Rattle.std.specs.declared.cmp.Ordering.{Ordering}
use Rattle.std.specs.declared.cmp.Ordering.TheVariants.{Less, Equal, Greater}
use Rattle.names.proofs.Promises.{order-self}
use Rattle.layout.specs.Layout.{node_takes}
use Rattle.sound.specs.Tree.{Entry, bare, entry, Tree, leaf, node}
use Rattle.sound.specs.Sound.{TreeRule}
use Rattle.sound.specs.Ways.{Dir, to_left, to_below, to_right, toward, reached}
use Rattle.growth.proofs.Joining.{reached-append}
use Rattle.finding.specs.Look.{turn, spot, by_node}
use Rattle.finding.proofs.Spelling.{names_to}
use Rattle.history.specs.Lack.{entry_of, missing}
use Rattle.history.proofs.Owning.{side-first}
use Rattle.history.proofs.Leading.{seek-leads}
use Rattle.history.proofs.Stood.{Stood, at_root, at_node, above, above-names}

-- one node of the search
missing-node : (segment : List ℕ) (rest : List (List ℕ)) (at : ℕ) (name : List ℕ) (own : Entry) (left below right : Tree)
    → missing (segment ∷ rest) (node at name own left below right) ≡ turn (segment_order segment name) (missing rest below) (missing (segment ∷ rest) left) (missing (segment ∷ rest) right)
unfolding missing spot reached toward
missing-node segment rest at name own left below right = by (segment_order segment name)
  where
    on : Tree → ℕ
    on end = by_node end (node_takes (length segment) + missing rest leaf) (λ next under. missing rest under)

    by : (order : Ordering)
        → on (reached (node at name own left below right) (turn order [] (to_left ∷ spot segment left) (to_right ∷ spot segment right)))
        ≡ turn order (missing rest below) (on (reached left (spot segment left))) (on (reached right (spot segment right)))
    by Equal = refl
    by Less = refl
    by Greater = refl

module _ (segs : List (List ℕ)) (segment : List ℕ) (rest : List (List ℕ)) (is : segs ≡ segment ∷ rest) (at : ℕ) (name : List ℕ) (own : Entry) (left below right : Tree) where
  missing-here : segment ≡ name → missing segs (node at name own left below right) ≡ missing rest below
  missing-here same = rw (is, same) (missing-node name rest at name own left below right ∙ rw (order-self name))

  missing-left : segment_order segment name ≡ Less → missing segs (node at name own left below right) ≡ missing segs left
  missing-left less = rw is (missing-node segment rest at name own left below right ∙ rw less)

  missing-right : segment_order segment name ≡ Greater → missing segs (node at name own left below right) ≡ missing segs right
  missing-right greater = rw is (missing-node segment rest at name own left below right ∙ rw greater)

-- ---- the names along a way to a node are there
module _ (at : ℕ) (name : List ℕ) (own : Entry) (left below right : Tree) (rest : List (List ℕ)) where
  pub missing-behind : (way : List Dir) (prefix : List ℕ) (tree : Tree) → TreeRule prefix tree → reached tree way ≡ node at name own left below right
      → missing (names_to tree way ++ rest) tree ≡ missing rest below
  unfolding reached toward names_to TreeRule
  missing-behind [] prefix leaf rule is = clash cc
  missing-behind (dir ∷ way) prefix leaf rule is = missing-behind way prefix leaf rule is
  missing-behind [] prefix (node place other next l b r) rule is =
      let under : b ≡ below = cc in
      missing-here (other ∷ rest) other rest refl place other next l b r refl ∙ ap (missing rest) under
  missing-behind (to_below ∷ way) prefix (node place other next l b r) rule is =
      missing-here (other ∷ names_to b way ++ rest) other (names_to b way ++ rest) refl place other next l b r refl
      ∙ missing-behind way (prefix ++ other ++ dot ∷ []) b rule.5 is
  missing-behind (to_left ∷ way) prefix (node place other next l b r) rule is =
      let first = side-first at name own left below right way Less other l rule.2 is in
      missing-left (names_to l way ++ rest) first.0 (first.1 ++ rest) (ap (λ (s : List (List ℕ)). s ++ rest) first.2) place other next l b r first.3
      ∙ missing-behind way prefix l rule.4 is
  missing-behind (to_right ∷ way) prefix (node place other next l b r) rule is =
      let first = side-first at name own left below right way Greater other r rule.3 is in
      missing-right (names_to r way ++ rest) first.0 (first.1 ++ rest) (ap (λ (s : List (List ℕ)). s ++ rest) first.2) place other next l b r first.3
      ∙ missing-behind way prefix r rule.6 is

-- ---- where the walk of an add stands, it lacks what the rest of its path lacks
pub missing-stood : (tree : Tree) (v : List Dir) (parent : ℕ) (rest : List (List ℕ)) → TreeRule [] tree → Stood tree v parent → missing (above tree v ++ rest) tree ≡ missing rest (reached tree v)
unfolding above reached toward
missing-stood tree v parent rest rule at_root = refl
missing-stood tree v parent rest rule (at_node way at name own left below right there) =
    ap (λ (s : List (List ℕ)). missing (s ++ rest) tree) (above-names way tree) ∙ missing-behind at name own left below right rest way [] tree rule there
    ∙ ap (missing rest) (sym (reached-append way (to_below ∷ []) tree ∙ rw there))

-- ---- a name that lacks a node has no entry
pub missing-bare : (tree : Tree) (name : List ℕ) → TreeRule [] tree → 0 < missing (segments name) tree → entry_of tree name ≡ bare
missing-bare tree name rule some = by (entry_of tree name) refl
  where
    by : (own : Entry) → entry_of tree name ≡ own → own ≡ bare
    by bare e = refl
    by (entry at serial full v) e =
        let there = seek-leads at serial full v (segments name) tree e in
        let none : missing (segments name) tree ≡ 0
        = ap (λ (s : List (List ℕ)). missing s tree) (sym (append-nil (names_to tree there.way) ∙ there.names))
        ∙ missing-behind there.at there.name (entry at serial full v) there.left there.below there.right [] there.way [] tree rule there.is ∙ unfold missing in refl in
        absurd (omega (arith, none))
