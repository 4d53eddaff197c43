-- How many nodes a search compares, on any bytes: the bound, the answer where another would be needed, and the count that is told.
use mathlib.Core.List.{List, ◌∷◌}
use mathlib.Core.Path.{◌≡◌, refl, ap}
use mathlib.Core.Logic.{◌⊎◌, inl, inr}
use Prim.Native.Nat.{ℕ, zero, suc, ◌+◌, ◌≤◌, ◌<◌}
use native.Mathlib.Omega.{arith}
use lib.Dec.{eqb}
use lib.ListN.{length}
use Rattle.words.proofs.Laws.{bool_cases}
use Rattle.std.specs.Prelude.{Option, Some, None, Result, Ok, Err}
use Rattle.layout.specs.declared.refusal.Refusal.{Refusal}
use Rattle.layout.specs.declared.text.Span.{Span}
use Rattle.layout.specs.Layout.{children_field, node_ok, word_at}
use Rattle.trie.specs.declared.trie.Visited.{Visited}
use Rattle.trie.specs.declared.trie.Searched.{Searched}
use Rattle.trie.specs.Trie.{node_name, by_name, visit_node, named, absent, by_visit, nodes_max, search_from, segment_steps}
use Rattle.trie.specs.Visits.{by_next, visits_from, visits}

-- a search that ends at a node or at a zero link tells this count
abbrev Tells : ℕ → Result Searched Refusal → Type 0
Tells count (Ok (Searched.Named node compared)) = compared ≡ count
Tells count (Ok (Searched.Absent link compared)) = compared ≡ count
Tells count (Err why) = Unit {0}

-- what no comparison finds is damage
abbrev pub Damage : Result Visited Refusal → Type 0
Damage (Ok seen) = Unit {0}
Damage (Err why) = why ≡ Refusal.Damaged

pub visit_damage : (area segment : List ℕ) (at : ℕ) → Damage (visit_node area segment at)
unfolding visit_node
visit_damage area segment at = bool_cases (node_ok area at) (λ t. rw t (by (node_name area at))) (λ t. rw t refl)
  where
    by : (name : Option Span) → Damage (by_name area segment at name)
    by (Some name) = tt
    by None = refl

module _ (area segment : List ℕ) where
  from-bound : (more node : ℕ) → length (visits_from area segment more node) ≤ more
  unfolding visits_from
  from-bound zero node = omega arith
  from-bound (suc more) node = by (visit_node area segment node) (from-bound more)
    where
      by : (v : Result Visited Refusal) → ((next : ℕ) → length (visits_from area segment more next) ≤ more) → suc (length (by_next v (visits_from area segment more))) ≤ suc more
      by (Ok Visited.Same) on = omega arith
      by (Ok (Visited.Next next)) on = omega (arith, on next)
      by (Ok (Visited.Stop link)) on = omega arith
      by (Err why) on = omega arith

  from-another : (more most node n : ℕ) → more < length (visits_from area segment most node) → search_from area segment more node n ≡ Err Refusal.Damaged
  unfolding visits_from search_from
  from-another zero most node n h = refl
  from-another (suc more) zero node n h = absurd (omega arith)
  from-another (suc more) (suc most) node n h = by (visit_node area segment node) (visit_damage area segment node) h (λ next. from-another more most next (n + 1))
    where
      by : (v : Result Visited Refusal) → Damage v → suc more < suc (length (by_next v (visits_from area segment most)))
          → ((next : ℕ) → more < length (visits_from area segment most next) → search_from area segment more next (n + 1) ≡ Err Refusal.Damaged)
          → by_visit v node (n + 1) (λ next. search_from area segment more next (n + 1)) ≡ Err Refusal.Damaged
      by (Ok Visited.Same) d k on = absurd (omega arith)
      by (Ok (Visited.Next next)) d k on = on next (omega arith)
      by (Ok (Visited.Stop link)) d k on = absurd (omega arith)
      by (Err why) d k on = ap Err d

  from-whole : (more most node : ℕ) → more ≤ most → length (visits_from area segment most node) ≤ more → visits_from area segment most node ≡ visits_from area segment more node
  unfolding visits_from
  from-whole zero zero node l h = refl
  from-whole zero (suc most) node l h = absurd (omega arith)
  from-whole (suc more) zero node l h = absurd (omega arith)
  from-whole (suc more) (suc most) node l h = ap (λ (rest : List ℕ). node ∷ rest) (by (visit_node area segment node) h (λ next. from-whole more most next (omega arith)))
    where
      by : (v : Result Visited Refusal) → suc (length (by_next v (visits_from area segment most))) ≤ suc more
          → ((next : ℕ) → length (visits_from area segment most next) ≤ more → visits_from area segment most next ≡ visits_from area segment more next)
          → by_next v (visits_from area segment most) ≡ by_next v (visits_from area segment more)
      by (Ok Visited.Same) k on = refl
      by (Ok (Visited.Next next)) k on = on next (omega arith)
      by (Ok (Visited.Stop link)) k on = refl
      by (Err why) k on = refl

  from-tells : (more node n count : ℕ) → n + length (visits_from area segment more node) ≡ count → Tells count (search_from area segment more node n)
  unfolding visits_from search_from
  from-tells zero node n count e = tt
  from-tells (suc more) node n count e = by (visit_node area segment node) e (λ next. from-tells more next (n + 1) count)
    where
      by : (v : Result Visited Refusal) → n + suc (length (by_next v (visits_from area segment more))) ≡ count
          → ((next : ℕ) → n + 1 + length (visits_from area segment more next) ≡ count → Tells count (search_from area segment more next (n + 1)))
          → Tells count (by_visit v node (n + 1) (λ next. search_from area segment more next (n + 1)))
      by (Ok Visited.Same) k on = omega arith
      by (Ok (Visited.Next next)) k on = on next (omega arith)
      by (Ok (Visited.Stop link)) k on = omega arith
      by (Err why) k on = tt

  module _ (parent : ℕ) where
    abbrev first : ℕ
    first = word_at area parent children_field

    -- one segment compares at most data size / 20 + 1 nodes
    pub segment-bound : length (visits (nodes_max area) area segment parent) ≤ nodes_max area
    unfolding visits
    segment-bound =
        bool_cases (eqb (length segment) 0)
        (λ e. rw e (omega arith))
        (λ e. bool_cases (node_ok area parent)
        (λ t. bool_cases (eqb first 0) (λ z. rw (e, t, z) (omega arith)) (λ z. rw (e, t, z) (from-bound (nodes_max area) first)))
        (λ t. rw (e, t) (omega arith)))

    module _ (most : ℕ) where
      -- needing another is 5
      pub segment-another : nodes_max area < length (visits most area segment parent) → segment_steps area segment parent ≡ Err Refusal.Damaged
      unfolding visits segment_steps
      segment-another h =
          bool_cases (eqb (length segment) 0)
          (λ e. absurd (omega (arith, rw e at h)))
          (λ e. bool_cases (node_ok area parent)
          (λ t. bool_cases (eqb first 0)
          (λ z. absurd (omega (arith, rw (e, t, z) at h)))
          (λ z. rw (e, t, z) (from-another (nodes_max area) most first 0 (rw (e, t, z) at h))))
          (λ t. rw (e, t)))

      -- if not, a wider limit changes nothing
      pub segment-whole : nodes_max area ≤ most → length (visits most area segment parent) ≤ nodes_max area → visits most area segment parent ≡ visits (nodes_max area) area segment parent
      unfolding visits
      segment-whole l h =
          bool_cases (eqb (length segment) 0)
          (λ e. rw e)
          (λ e. bool_cases (node_ok area parent)
          (λ t. bool_cases (eqb first 0) (λ z. rw (e, t, z)) (λ z. rw (e, t, z) (from-whole (nodes_max area) most first l (rw (e, t, z) at h))))
          (λ t. rw (e, t)))

    tells : Tells (length (visits (nodes_max area) area segment parent)) (segment_steps area segment parent)
    unfolding visits segment_steps
    tells =
        bool_cases (eqb (length segment) 0)
        (λ e. rw e tt)
        (λ e. bool_cases (node_ok area parent)
        (λ t. bool_cases (eqb first 0) (λ z. rw (e, t, z) refl) (λ z. rw (e, t, z) (from-tells (nodes_max area) first 0 _ (omega arith))))
        (λ t. rw (e, t) tt))

    -- the count that is told is the count of these nodes
    pub segment-counts : (at compared : ℕ) → (segment_steps area segment parent ≡ named at compared) ⊎ (segment_steps area segment parent ≡ absent at compared)
        → compared ≡ length (visits (nodes_max area) area segment parent)
    segment-counts at compared (inl e) = rw e at tells
    segment-counts at compared (inr e) = rw e at tells
