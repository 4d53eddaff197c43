-- Where the search ends without a node: the zero link that it names lies in the area.
use mathlib.Core.Path.{◌≡◌}
use mathlib.Core.List.{List}
use Prim.Native.Nat.{ℕ, zero, suc, ◌+◌}
use native.Mathlib.Omega.{arith}
use lib.Dec.{eqb}
use Rattle.words.specs.Words.{part}
use Rattle.words.proofs.Laws.{bool_cases}
use Rattle.names.specs.Names.{segment_order}
use Rattle.std.specs.declared.cmp.Ordering.{Ordering}
use Rattle.std.specs.Prelude.{Option, Some, None, Result, Ok, Err, IfOk}
use Rattle.layout.specs.declared.refusal.Refusal.{Refusal}
use Rattle.layout.specs.declared.text.Span.{Span}
use Rattle.layout.specs.Layout.{word_size, node_size, left_field, right_field, Within, NodeIn, node_ok, word_at}
use Rattle.layout.proofs.Laws.{touch-in}
use Rattle.trie.specs.declared.trie.Visited.{Visited}
use Rattle.trie.specs.declared.trie.Searched.{Searched}
use Rattle.trie.specs.Trie.{node_name, absent, follow, by_order, by_name, visit_node, by_visit, search_from}

abbrev stops-in : List ℕ → Visited → Type 0
stops-in area (Visited.Stop link) = Within area word_size link
stops-in area Visited.Same = Unit {0}
stops-in area (Visited.Next node) = Unit {0}

follow-in : (area : List ℕ) (link at : ℕ) → Within area word_size at → stops-in area (follow link at)
follow-in area link at h = bool_cases (eqb link 0) (λ e. rw e h) (λ e. rw e tt)

order-in : (area : List ℕ) (at : ℕ) (o : Ordering) → NodeIn area at → stops-in area (by_order area at o)
order-in area at Ordering.Less h = follow-in area (word_at area at left_field) (at + left_field) (omega arith)
order-in area at Ordering.Equal h = tt
order-in area at Ordering.Greater h = follow-in area (word_at area at right_field) (at + right_field) (omega arith)

name_in : (area segment : List ℕ) (at : ℕ) (name : Option Span) → NodeIn area at → IfOk (by_name area segment at name) (stops-in area)
name_in area segment at (Some name) h = order-in area at (segment_order segment (part area name.from name.to)) h
name_in area segment at None h = tt

visit-in : (area segment : List ℕ) (at : ℕ) → IfOk (visit_node area segment at) (stops-in area)
unfolding visit_node
visit-in area segment at =
    bool_cases (node_ok area at)
    (λ e. rw e (name_in area segment at (node_name area at) (touch-in area node_size at e)))
    (λ e. rw e tt)

abbrev ends-in : List ℕ → Result Searched Refusal → Type 0
ends-in area (Ok (Searched.Absent link n)) = Within area word_size link
ends-in area (Ok (Searched.Named node n)) = Unit {0}
ends-in area (Err why) = Unit {0}

turn_in : (area : List ℕ) (v : Result Visited Refusal) (node n : ℕ) (on : ℕ → Result Searched Refusal) → IfOk v (stops-in area) → ((m : ℕ) → ends-in area (on m)) → ends-in area (by_visit v node n on)
turn_in area (Ok Visited.Same) node n on s f = tt
turn_in area (Ok (Visited.Next m)) node n on s f = f m
turn_in area (Ok (Visited.Stop l)) node n on s f = s
turn_in area (Err why) node n on s f = tt

search-in : (more : ℕ) (area segment : List ℕ) (node n : ℕ) → ends-in area (search_from area segment more node n)
unfolding search_from
search-in zero area segment node n = tt
search-in (suc more) area segment node n =
    turn_in area (visit_node area segment node) node (n + 1) _ (visit-in area segment node) (λ m. search-in more area segment m (n + 1))

pub absent-in : (area segment : List ℕ) (more node n link m : ℕ) → search_from area segment more node n ≡ absent link m → Within area word_size link
absent-in area segment more node n link m h = rw h at (search-in more area segment node n)
