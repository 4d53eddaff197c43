-- Laws of specs/Trie.antt: a turn of the search, and an empty segment.
use mathlib.Core.Path.{◌≡◌}
use mathlib.Core.List.{List}
use Prim.Native.Nat.{ℕ, suc, ◌+◌, ◌-◌, ◌<◌}
use native.Mathlib.Omega.{arith}
use borrow.Author.Tests.{eq-eqb}
use lib.ListN.{length}
use Rattle.layout.specs.declared.refusal.Refusal.{Refusal}
use Rattle.std.specs.Prelude.{Err}
use Rattle.trie.specs.Trie.{visit_node, by_visit, search_from, segment_steps}

-- ---- a turn of the search: n of at most `most` nodes are compared
pub search_turn : (area segment : List ℕ) (most node n : ℕ) → n < most
    → search_from area segment (most - n) node n ≡ by_visit (visit_node area segment node) node (n + 1) (λ next. search_from area segment (most - (n + 1)) next (n + 1))
unfolding search_from
search_turn area segment most node n h = let e : most - n ≡ suc (most - (n + 1)) = omega arith in rw e

-- ---- an empty segment
pub segment-empty : (area segment : List ℕ) (parent : ℕ) → length segment ≡ 0 → Err Refusal.EmptySegment ≡ segment_steps area segment parent
unfolding segment_steps
segment-empty area segment parent h = rw (eq-eqb (length segment) 0 h)
