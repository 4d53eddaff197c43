-- Order and names are kept: another entry or other children at a node, a new node where the search of its name ends.
use Prim.Native.Nat.{ℕ}
use mathlib.Core.Path.{◌≡◌}
use mathlib.Core.List.{List, [], ◌∷◌, ◌++◌}
use Rattle.names.specs.Names.{dot, segment_order}
use Rattle.std.specs.declared.cmp.Ordering.{Ordering}
use Rattle.std.specs.declared.cmp.Ordering.TheVariants.{Less, Greater}
use Rattle.sound.specs.Tree.{Entry, Tree, leaf, node}
use Rattle.sound.specs.Sound.{NodeRule, EntryRule, Side, TreeRule}
use Rattle.sound.specs.Ways.{Dir, to_left, to_below, to_right, toward, reached}
use Rattle.growth.specs.Plug.{hang, plug}

-- ---- the dotted prefix of the siblings at the end of a way
abbrev pub prefix_toward : List ℕ → Dir → Tree → List ℕ
prefix_toward prefix dir leaf = prefix
prefix_toward prefix to_left (node at name own left below right) = prefix
prefix_toward prefix to_below (node at name own left below right) = prefix ++ name ++ dot ∷ []
prefix_toward prefix to_right (node at name own left below right) = prefix

unfoldable pub prefix_at : List ℕ → Tree → List Dir → List ℕ
prefix_at prefix tree [] = prefix
prefix_at prefix tree (dir ∷ way) = prefix_at (prefix_toward prefix dir tree) (toward dir tree) way

pub reached-rule : (way : List Dir) (prefix : List ℕ) (tree : Tree) → TreeRule prefix tree → TreeRule (prefix_at prefix tree way) (reached tree way)
unfolding prefix_at reached toward TreeRule
reached-rule [] prefix tree h = h
reached-rule (dir ∷ way) prefix leaf h = reached-rule way prefix leaf h
reached-rule (to_left ∷ way) prefix (node at name own left below right) h = reached-rule way prefix left h.4
reached-rule (to_below ∷ way) prefix (node at name own left below right) h = reached-rule way (prefix ++ name ++ dot ∷ []) below h.5
reached-rule (to_right ∷ way) prefix (node at name own left below right) h = reached-rule way prefix right h.6

-- ---- what is put somewhere keeps a side, if it does so in the place of what stood there
side-plug : (order : Ordering) (name : List ℕ) (way : List Dir) (tree other : Tree)
    → (Side order name (reached tree way) → Side order name other) → Side order name tree → Side order name (plug tree way other)
unfolding plug hang reached toward Side
side-plug order name [] tree other fits h = fits h
side-plug order name (dir ∷ way) leaf other fits h = side-plug order name way leaf other fits h
side-plug order name (to_left ∷ way) (node at with own left below right) other fits h = (h.0, side-plug order name way left other fits h.1, h.2)
side-plug order name (to_below ∷ way) (node at with own left below right) other fits h = h
side-plug order name (to_right ∷ way) (node at with own left below right) other fits h = (h.0, h.1, side-plug order name way right other fits h.2)

-- ---- where it keeps all sides
rule-plug : (way : List Dir) (prefix : List ℕ) (tree other : Tree) → ((order : Ordering) (name : List ℕ) → Side order name (reached tree way) → Side order name other)
    → TreeRule (prefix_at prefix tree way) other → TreeRule prefix tree → TreeRule prefix (plug tree way other)
unfolding plug hang reached toward prefix_at TreeRule
rule-plug [] prefix tree other fits g h = g
rule-plug (dir ∷ way) prefix leaf other fits g h = rule-plug way prefix leaf other fits g h
rule-plug (to_left ∷ way) prefix (node at name own left below right) other fits g h =
    (h.0, h.1, side-plug Less name way left other (fits Less name) h.2, h.3, rule-plug way prefix left other fits g h.4, h.5, h.6)
rule-plug (to_below ∷ way) prefix (node at name own left below right) other fits g h =
    (h.0, h.1, h.2, h.3, h.4, rule-plug way (prefix ++ name ++ dot ∷ []) below other fits g h.5, h.6)
rule-plug (to_right ∷ way) prefix (node at name own left below right) other fits g h =
    (h.0, h.1, h.2, side-plug Greater name way right other (fits Greater name) h.3, h.4, h.5, rule-plug way prefix right other fits g h.6)

module _ (way : List Dir) (prefix : List ℕ) (tree : Tree) (at : ℕ) (name : List ℕ) (own : Entry) (left below right : Tree)
    (there : reached tree way ≡ node at name own left below right) (rule : TreeRule prefix tree) where
  pub rule-there : TreeRule (prefix_at prefix tree way) (node at name own left below right)
  rule-there = rw there at (reached-rule way prefix tree rule)

  -- a node with the same name and sides keeps all sides
  alike : (new : Entry) (under : Tree) (order : Ordering) (other : List ℕ) → Side order other (reached tree way) → Side order other (node at name new left under right)
  unfolding Side
  alike new under order other h = let s : Side order other (node at name own left below right) = rw there at h in s

  pub rule-plug-below : (under : Tree) → TreeRule (prefix_at prefix tree way ++ name ++ dot ∷ []) under → TreeRule prefix (plug tree way (node at name own left under right))
  unfolding TreeRule
  rule-plug-below under g =
      let h = rule-there in
      rule-plug way prefix tree (node at name own left under right) (alike own under) (h.0, h.1, h.2, h.3, h.4, g, h.6) rule

  pub rule-plug-own : (new : Entry) → EntryRule (prefix_at prefix tree way ++ name) new → TreeRule prefix (plug tree way (node at name new left below right))
  unfolding TreeRule
  rule-plug-own new g =
      let h = rule-there in
      rule-plug way prefix tree (node at name new left below right) (alike new below) (h.0, g, h.2, h.3, h.4, h.5, h.6) rule

-- ---- a way goes where the search of a segment among siblings goes: left where it is less, right where greater, to a leaf or the node of that name
unfoldable pub Placed : List ℕ → Tree → List Dir → Type 0
Placed segment leaf [] = Unit {0}
Placed segment (node at name own left below right) [] = name ≡ segment
Placed segment leaf (dir ∷ way) = ⊥
Placed segment (node at name own left below right) (to_left ∷ way) = (segment_order segment name ≡ Less) × Placed segment left way
Placed segment (node at name own left below right) (to_below ∷ way) = ⊥
Placed segment (node at name own left below right) (to_right ∷ way) = (segment_order segment name ≡ Greater) × Placed segment right way

-- what stands where the search of a segment ends has the order that the segment has, if it is of that name alone
rule-placed : (way : List Dir) (segment prefix : List ℕ) (tree other : Tree) → Placed segment tree way
    → ((order : Ordering) (name : List ℕ) → segment_order segment name ≡ order → Side order name other) → TreeRule prefix other → TreeRule prefix tree → TreeRule prefix (plug tree way other)
unfolding plug hang toward Placed TreeRule
rule-placed [] segment prefix tree other placed fits g h = g
rule-placed (dir ∷ way) segment prefix leaf other placed fits g h = absurd placed
rule-placed (to_left ∷ way) segment prefix (node at name own left below right) other placed fits g h = (
  h.0,
  h.1,
  side-plug Less name way left other (λ s. fits Less name placed.0) h.2,
  h.3,
  rule-placed way segment prefix left other placed.1 fits g h.4,
  h.5,
  h.6,
)
rule-placed (to_below ∷ way) segment prefix (node at name own left below right) other placed fits g h = absurd placed
rule-placed (to_right ∷ way) segment prefix (node at name own left below right) other placed fits g h = (
  h.0,
  h.1,
  h.2,
  side-plug Greater name way right other (λ s. fits Greater name placed.0) h.3,
  h.4,
  h.5,
  rule-placed way segment prefix right other placed.1 fits g h.6,
)

-- a node with no siblings of its own is hung where the search of its name ends
pub rule-hang : (way : List Dir) (prefix : List ℕ) (tree : Tree) (at : ℕ) (name : List ℕ) (own : Entry) (below : Tree) → Placed name tree way
    → NodeRule at name → EntryRule (prefix ++ name) own → TreeRule (prefix ++ name ++ dot ∷ []) below → TreeRule prefix tree
    → TreeRule prefix (plug tree way (node at name own leaf below leaf))
unfolding TreeRule Side
rule-hang way prefix tree at name own below placed n e b h =
    rule-placed way name prefix tree (node at name own leaf below leaf) placed (λ order other k. (k, tt, tt)) (n, e, tt, tt, tt, b, tt) h
