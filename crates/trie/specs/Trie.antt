-- A node's name, the search and its bound (RULES 3.5 to 3.7, 4.1): a segment against a node, then over left and right, then below a node.
use Rattle.std.specs.Prelude.{ℕ, zero, suc, ◌+◌, ◌/◌, cond, List, length, eqb, Option, Some, None, Result, Ok, Err}
use Rattle.words.specs.Words.{part}
use Rattle.names.specs.Names.{segment_order}
use Rattle.std.specs.declared.cmp.Ordering.{Ordering}
use Rattle.layout.specs.declared.refusal.Refusal.{Refusal}
use Rattle.layout.specs.declared.text.Span.{Span}
use Rattle.layout.specs.Refusals.{guard}
use Rattle.layout.specs.Layout.{node_size, namelen_field, left_field, right_field, children_field, data_size, place_of, word_at, node_ok, text_in}
use Rattle.trie.specs.declared.trie.Visited.{Visited}
use Rattle.trie.specs.declared.trie.Searched.{Searched}

-- RULES 3.5: a node's name
abbrev pub node_name : List ℕ → ℕ → Option Span
node_name area at = text_in area (place_of at node_size) (word_at area at namelen_field + 1)

-- a zero link stops the search at the link's own offset, another leads on
abbrev pub follow : ℕ → ℕ → Visited
follow link at = cond (eqb link 0) (Visited.Stop at) (Visited.Next link)

-- equal ends it, less goes left, greater right
abbrev pub by_order : List ℕ → ℕ → Ordering → Visited
by_order area at Ordering.Equal = Visited.Same
by_order area at Ordering.Less = follow (word_at area at left_field) (at + left_field)
by_order area at Ordering.Greater = follow (word_at area at right_field) (at + right_field)

-- no name is damage
abbrev pub by_name : List ℕ → List ℕ → ℕ → Option Span → Result Visited Refusal
by_name area segment at (Some name) = Ok (by_order area at (segment_order segment (part area name.from name.to)))
by_name area segment at None = Err Refusal.Damaged

-- a segment compared with the node at an offset
unfoldable pub visit_node : List ℕ → List ℕ → ℕ → Result Visited Refusal
visit_node area segment at = guard (node_ok area at) (Err Refusal.Damaged) (by_name area segment at (node_name area at))

-- one segment compares at most data size / 20 + 1 nodes
abbrev pub nodes_max : List ℕ → ℕ
nodes_max area = data_size area / node_size + 1

-- the search ends at a node of that name, or at the zero link where it would hang, with the count of nodes compared
abbrev pub named : ℕ → ℕ → Result Searched Refusal
named node compared = Ok (Searched.Named node compared)

abbrev pub absent : ℕ → ℕ → Result Searched Refusal
absent link compared = Ok (Searched.Absent link compared)

-- what a comparison makes of the search, with the count that includes it and the search from the next node
abbrev pub by_visit : Result Visited Refusal → ℕ → ℕ → (ℕ → Result Searched Refusal) → Result Searched Refusal
by_visit (Ok Visited.Same) node compared on = named node compared
by_visit (Ok (Visited.Next next)) node compared on = on next
by_visit (Ok (Visited.Stop link)) node compared on = absent link compared
by_visit (Err why) node compared on = Err why

-- the search over left and right, with so many comparisons left; needing another is 5
unfoldable pub search_from : List ℕ → List ℕ → ℕ → ℕ → ℕ → Result Searched Refusal
search_from area segment zero node compared = Err Refusal.Damaged
search_from area segment (suc more) node compared =
    by_visit (visit_node area segment node) node (compared + 1) (λ next. search_from area segment more next (compared + 1))

-- the children link of a node, and the search from there
abbrev pub child_steps : List ℕ → List ℕ → ℕ → ℕ → Result Searched Refusal
child_steps area segment parent first =
    cond (eqb first 0) (absent (parent + children_field) 0) (search_from area segment (nodes_max area) first 0)

-- for each segment: empty is 2; the node is touched; a zero children link names no node; then the search
unfoldable pub segment_steps : List ℕ → List ℕ → ℕ → Result Searched Refusal
segment_steps area segment parent =
    cond (eqb (length segment) 0) (Err Refusal.EmptySegment)
    (guard (node_ok area parent) (Err Refusal.Damaged)
    (child_steps area segment parent (word_at area parent children_field)))
