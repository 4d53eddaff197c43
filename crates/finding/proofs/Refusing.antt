-- The only refusals of a search in a tree: missing (3) and an empty segment (2).
use Prim.Native.Nat.{ℕ, ◌+◌}
use mathlib.Core.Path.{◌≡◌, refl}
use mathlib.Core.Logic.{◌⊎◌, inl, inr}
use mathlib.Core.List.{List, [], ◌∷◌}
use lib.Dec.{eqb}
use lib.ListN.{length}
use Rattle.words.proofs.Laws.{bool_cases}
use Rattle.layout.specs.declared.refusal.Refusal.{Refusal}
use Rattle.layout.specs.Refusals.{Answer, accepted, refused, refuse, number_of}
use Rattle.property_area.specs.Find.{Hit}
use Rattle.sound.specs.Tree.{Entry, bare, entry, Tree, leaf, node}
use Rattle.sound.specs.Ways.{reached}
use Rattle.finding.specs.Look.{spot, compares, own_answer, by_node, look}

abbrev pub Refuses : Answer Hit → Type 0
Refuses (accepted found) = Unit {0}
Refuses (refused number) = (number ≡ number_of Refusal.Missing) ⊎ (number ≡ number_of Refusal.EmptySegment)

own-refuses : (own : Entry) (compared : ℕ) → Refuses (own_answer own compared)
unfolding own_answer
own-refuses bare compared = inl refl
own-refuses (entry at serial name value) compared = tt

pub look-refuses : (segs : List (List ℕ)) (own : Entry) (below : Tree) (compared : ℕ) → Refuses (look segs own below compared)
unfolding look
look-refuses [] own below compared = own-refuses own compared
look-refuses (segment ∷ rest) own below compared =
    bool_cases (eqb (length segment) 0)
    (λ t. rw t (inr refl))
    (λ t. rw t (by (reached below (spot segment below)) (look-refuses rest)))
  where
    by : (end : Tree) → ((own : Entry) (below : Tree) (compared : ℕ) → Refuses (look rest own below compared))
        → Refuses (by_node end (refuse Refusal.Missing) (λ next under. look rest next under (compared + compares segment below)))
    by leaf on = inl refl
    by (node at name next left under right) on = on next under (compared + compares segment below)
