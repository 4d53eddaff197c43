-- Laws that the papers name and that no proof here needs any more.
use mathlib.Core.Path.{◌≡◌, refl, sym, ◌∙◌}
use mathlib.Core.List.{List, ◌∷◌}
use Prim.Native.Nat.{ℕ, ◌+◌, ◌%◌}
use Rattle.layout.specs.declared.refusal.Refusal.{Refusal}
use Rattle.layout.specs.Refusals.{Answer, refuse}
use Rattle.std.specs.Prelude.{Result, Ok, Err}
use Rattle.trie.specs.declared.trie.Searched.{Searched}
use Rattle.trie.specs.Trie.{segment_steps}
use Rattle.property_area.specs.Find.{Hit, count_limit, by_search, find_from}

-- the refusal of a search that names no node
abbrev refusal_of : Result Searched Refusal → Refusal
refusal_of (Ok found) = Refusal.Missing
refusal_of (Err why) = why

-- ---- a search that names no node
pub stopped : (s : Result Searched Refusal) → ((m k : ℕ) → s ≡ Ok (Searched.Named m k) → ⊥) → (on : ℕ → ℕ → Answer Hit) → refuse (refusal_of s) ≡ by_search s on
stopped (Ok (Searched.Named m k)) o on = absurd (o m k refl)
stopped (Ok (Searched.Absent l k)) o on = refl
stopped (Err why) o on = refl

-- ---- a turn of find: s is what the search for the next segment found
module _ (area : List ℕ) (segs : List (List ℕ)) (node n : ℕ) (seg : List ℕ) (rest : List (List ℕ)) (h : segs ≡ seg ∷ rest) (s : Result Searched Refusal) (e : s ≡ segment_steps area seg node) where
  turn : find_from area segs node n ≡ by_search s (λ m k. find_from area rest m ((n + k) % count_limit))
  unfolding find_from
  turn = rw (h, e)

  pub find-stop : ((m k : ℕ) → s ≡ Ok (Searched.Named m k) → ⊥) → refuse (refusal_of s) ≡ find_from area segs node n
  find-stop o = stopped s o (λ m k. find_from area rest m ((n + k) % count_limit)) ∙ sym turn
