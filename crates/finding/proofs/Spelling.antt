-- The names along a way, one below the other, are the segments of the name of the entry that it reaches.
use Prim.Native.Nat.{ℕ, suc}
use native.Mathlib.Omega.{arith}
use mathlib.Core.Path.{◌≡◌, refl, sym, ◌∙◌}
use mathlib.Core.List.{List, [], ◌∷◌, ◌++◌, append_assoc}
use borrow.Author.Tests.{ne_eqb}
use Rattle.words.proofs.Laws.{clash}
use Rattle.names.specs.Names.{dot, segments}
use Rattle.names.proofs.Promises.{segments-name}
use Rattle.sound.specs.Tree.{Value, Entry, bare, entry, Tree, leaf, node}
use Rattle.sound.specs.Sound.{Without, EntryRule, TreeRule}
use Rattle.sound.specs.Ways.{Dir, to_left, to_below, to_right, toward, reached}

-- the entry of a tree's top node
abbrev pub own_of : Tree → Entry
own_of leaf = bare
own_of (node at name own left below right) = own

-- the names of the nodes below which a way goes on, and of the one that it reaches
unfoldable pub names_to : Tree → List Dir → List (List ℕ)
names_to leaf way = []
names_to (node at name own left below right) [] = name ∷ []
names_to (node at name own left below right) (to_left ∷ way) = names_to left way
names_to (node at name own left below right) (to_below ∷ way) = name ∷ names_to below way
names_to (node at name own left below right) (to_right ∷ way) = names_to right way

-- ---- segments of names without dots, joined by dots
segments-plain : (s : List ℕ) → Without dot s → segments s ≡ s ∷ []
unfolding segments
segments-plain [] plain = refl
segments-plain (x ∷ s) plain = rw (ne_eqb x dot (plain 0 (omega arith)), segments-plain s (λ k l. plain (suc k) (omega arith)))

segments-dot : (s rest : List ℕ) → Without dot s → segments (s ++ dot ∷ rest) ≡ s ∷ segments rest
unfolding segments
segments-dot [] rest plain = refl
segments-dot (x ∷ s) rest plain = rw (ne_eqb x dot (plain 0 (omega arith)), segments-dot s rest (λ k l. plain (suc k) (omega arith)))

-- segments tell the name
pub one_name : (a b : List ℕ) → segments a ≡ segments b → a ≡ b
one_name a b e = sym (rw e at (segments-name a)) ∙ segments-name b

-- ---- an entry's name is the prefix, and what the names along the way spell
pub spelled : (way : List Dir) (prefix : List ℕ) (tree : Tree) (at serial : ℕ) (name : List ℕ) (value : Value) → TreeRule prefix tree
    → own_of (reached tree way) ≡ entry at serial name value → (rest : List ℕ) × (name ≡ prefix ++ rest) × (segments rest ≡ names_to tree way)
unfolding reached toward names_to TreeRule EntryRule
spelled [] prefix leaf at serial name value rule is = clash cc
spelled (dir ∷ way) prefix leaf at serial name value rule is = spelled way prefix leaf at serial name value rule is
spelled [] prefix (node place segment own left below right) at serial name value rule is =
    let named : EntryRule (prefix ++ segment) (entry at serial name value) = rw is at rule.1 in
    (segment, named.0, segments-plain segment rule.0.plain)
spelled (to_left ∷ way) prefix (node place segment own left below right) at serial name value rule is = spelled way prefix left at serial name value rule.4 is
spelled (to_right ∷ way) prefix (node place segment own left below right) at serial name value rule is = spelled way prefix right at serial name value rule.6 is
spelled (to_below ∷ way) prefix (node place segment own left below right) at serial name value rule is =
    let s = spelled way (prefix ++ segment ++ dot ∷ []) below at serial name value rule.5 is in (
      segment ++ dot ∷ s.0,
      s.1 ∙ append_assoc (prefix ++ segment) (dot ∷ []) s.0 ∙ append_assoc prefix segment (dot ∷ s.0),
      segments-dot segment s.0 rule.0.plain ∙ rw s.2,
    )

-- in a whole tree, they are its segments
pub spells : (tree : Tree) (way : List Dir) (at serial : ℕ) (name : List ℕ) (value : Value) → TreeRule [] tree
    → own_of (reached tree way) ≡ entry at serial name value → segments name ≡ names_to tree way
spells tree way at serial name value rule is =
    let s = spelled way [] tree at serial name value rule is in
    rw s.1 s.2
