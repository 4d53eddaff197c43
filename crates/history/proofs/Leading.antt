-- Names and ways: what a name finds stands at the end of a way with its segments, and has that name; and the laws of another entry, over whole names.
use Prim.Native.Nat.{ℕ}
use native.Mathlib.Omega.{arith}
use mathlib.Core.Path.{◌≡◌, refl, sym, ap, ◌∙◌}
use mathlib.Core.Logic.{◌≢◌}
use mathlib.Core.List.{List, [], ◌∷◌, ◌++◌}
use Rattle.words.proofs.Laws.{clash}
use Rattle.names.specs.Names.{segments, segment_order}
use Rattle.std.specs.declared.cmp.Ordering.{Ordering}
use Rattle.std.specs.declared.cmp.Ordering.TheVariants.{Less, Equal, Greater}
use Rattle.names.proofs.Promises.{order-equal}
use Rattle.sound.specs.Tree.{Value, short, Entry, bare, entry, Tree, leaf, node}
use Rattle.sound.specs.Sound.{ValueRule, EntryRule, TreeRule}
use Rattle.sound.specs.Ways.{Dir, to_left, to_below, to_right, toward, reached}
use Rattle.growth.specs.Plug.{hang, plug}
use Rattle.growth.proofs.Rules.{prefix_at, rule-plug-own}
use Rattle.growth.proofs.Joining.{Along, along-reached, reached-plug}
use Rattle.finding.specs.Look.{turn, spot}
use Rattle.finding.proofs.Spelling.{own_of, names_to, one_name, spells}
use Rattle.history.specs.Lack.{seek}
use Rattle.history.proofs.Seeking.{seek-node}
use Rattle.history.proofs.Owning.{seek-new, seek-others, seek-own}

-- ---- a node with its entry, at the end of a way with these names
pub record Leads (tree : Tree) (segs : List (List ℕ)) (own : Entry) : Type 0 where
  pub way : List Dir
  pub at : ℕ
  pub name : List ℕ
  pub left : Tree
  pub below : Tree
  pub right : Tree
  pub is : reached tree way ≡ node at name own left below right
  pub names : names_to tree way ≡ segs

module _ (place : ℕ) (full : List ℕ) (next : Entry) (l b r : Tree) (own : Entry) where
  leads-left : (segs : List (List ℕ)) → Leads l segs own → Leads (node place full next l b r) segs own
  unfolding reached toward names_to
  leads-left segs h = record { way = to_left ∷ h.way; at = h.at; name = h.name; left = h.left; below = h.below; right = h.right; is = h.is; names = h.names }

  leads-right : (segs : List (List ℕ)) → Leads r segs own → Leads (node place full next l b r) segs own
  unfolding reached toward names_to
  leads-right segs h = record { way = to_right ∷ h.way; at = h.at; name = h.name; left = h.left; below = h.below; right = h.right; is = h.is; names = h.names }

  leads-below : (segment : List ℕ) (rest : List (List ℕ)) → segment ≡ full → Leads b rest own → Leads (node place full next l b r) (segment ∷ rest) own
  unfolding reached toward names_to
  leads-below segment rest same h = record {
    way = to_below ∷ h.way;
    at = h.at;
    name = h.name;
    left = h.left;
    below = h.below;
    right = h.right;
    is = h.is;
    names = rw (same, h.names);
  }

  leads-here : (segment : List ℕ) → segment ≡ full → next ≡ own → Leads (node place full next l b r) (segment ∷ []) own
  unfolding reached names_to
  leads-here segment same e = record { way = []; at = place; name = full; left = l; below = b; right = r; is = rw e; names = rw same }

-- ---- what a name finds
module _ (at serial : ℕ) (name : List ℕ) (value : Value) where
  leads-from : (tree : Tree) (segment : List ℕ) (rest : List (List ℕ)) (above : Entry)
      → seek (segment ∷ rest) above tree ≡ entry at serial name value → Leads tree (segment ∷ rest) (entry at serial name value)
  unfolding seek
  leads-from leaf segment rest above e =
      let none : bare ≡ entry at serial name value = unfold spot reached in e in
      clash cc
  leads-from (node place full next l b r) segment rest above e =
      by (segment_order segment full) refl rest (sym (seek-node segment rest above place full next l b r) ∙ e)
      (leads-from l segment rest above) (leads-from r segment rest above) (λ first more. leads-from b first more next)
    where
      by : (order : Ordering) → segment_order segment full ≡ order → (rest : List (List ℕ))
          → turn order (seek rest next b) (seek (segment ∷ rest) above l) (seek (segment ∷ rest) above r) ≡ entry at serial name value
          → (seek (segment ∷ rest) above l ≡ entry at serial name value → Leads l (segment ∷ rest) (entry at serial name value))
          → (seek (segment ∷ rest) above r ≡ entry at serial name value → Leads r (segment ∷ rest) (entry at serial name value))
          → ((first : List ℕ) (more : List (List ℕ)) → seek (first ∷ more) next b ≡ entry at serial name value → Leads b (first ∷ more) (entry at serial name value))
          → Leads (node place full next l b r) (segment ∷ rest) (entry at serial name value)
      by Less is rest e on_left on_right on_below = leads-left place full next l b r (entry at serial name value) (segment ∷ rest) (on_left e)
      by Greater is rest e on_left on_right on_below = leads-right place full next l b r (entry at serial name value) (segment ∷ rest) (on_right e)
      by Equal is [] e on_left on_right on_below = leads-here place full next l b r (entry at serial name value) segment (order-equal segment full is) e
      by Equal is (first ∷ more) e on_left on_right on_below =
          leads-below place full next l b r (entry at serial name value) segment (first ∷ more) (order-equal segment full is) (on_below first more e)

  pub seek-leads : (segs : List (List ℕ)) (tree : Tree) → seek segs bare tree ≡ entry at serial name value → Leads tree segs (entry at serial name value)
  unfolding seek
  seek-leads [] tree e = clash cc
  seek-leads (segment ∷ rest) tree e = leads-from tree segment rest bare e

  pub seek-name : (segs : List (List ℕ)) (tree : Tree) → TreeRule [] tree → seek segs bare tree ≡ entry at serial name value → segments name ≡ segs
  seek-name segs tree rule e =
      let there = seek-leads segs tree e in
      spells tree there.way at serial name value rule (ap own_of there.is) ∙ there.names

-- ---- a way to a node, and on among its children
-- ---- at a node that a way reaches
module _ (at : ℕ) (name : List ℕ) (own : Entry) (left below right : Tree) where
  pub names-plug : (way : List Dir) (tree : Tree) (new : Entry) (under : Tree) → reached tree way ≡ node at name own left below right
      → names_to (plug tree way (node at name new left under right)) way ≡ names_to tree way
  unfolding reached toward plug hang names_to Along
  names-plug [] tree new under is = rw is
  names-plug (dir ∷ way) leaf new under is = absurd (along-reached (dir ∷ way) leaf at name own left below right is)
  names-plug (to_left ∷ way) (node place other next l b r) new under is = names-plug way l new under is
  names-plug (to_below ∷ way) (node place other next l b r) new under is = rw (names-plug way b new under is)
  names-plug (to_right ∷ way) (node place other next l b r) new under is = names-plug way r new under is

  module _ (way : List Dir) (tree : Tree) (is : reached tree way ≡ node at name own left below right) (rule : TreeRule [] tree) where
    -- the name that its entry has or would have: it is spelled by the names along the way, as it would be with some entry there
    abbrev pub full_name : List ℕ
    full_name = prefix_at [] tree way ++ name

    abbrev some : Entry
    some = entry 0 0 full_name (short (0 ∷ []))

    pub names-spelled : segments full_name ≡ names_to tree way
    unfolding EntryRule ValueRule
    names-spelled =
        spells (plug tree way (node at name some left below right)) way 0 0 full_name (short (0 ∷ []))
        (rule-plug-own way [] tree at name own left below right is rule some (refl, refl, (refl, (0, omega arith, refl))))
        (ap own_of (reached-plug way tree (node at name some left below right) (along-reached way tree at name own left below right is)))
        ∙ names-plug way tree some below is

    pub finds-own : seek (segments full_name) bare tree ≡ own
    finds-own = rw names-spelled (seek-own at name own left below right way [] tree bare rule is)

    pub finds-new : (new : Entry) → seek (segments full_name) bare (plug tree way (node at name new left below right)) ≡ new
    finds-new new = rw names-spelled (seek-new at name own left below right new way [] tree bare rule is)

    pub finds-others : (new : Entry) (other : List ℕ) → other ≢ full_name
        → seek (segments other) bare (plug tree way (node at name new left below right)) ≡ seek (segments other) bare tree
    finds-others new other differs =
        seek-others at name own left below right new way tree (segments other) bare is (λ e. differs (one_name other full_name (e ∙ sym names-spelled)))
