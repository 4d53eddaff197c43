-- For promises: the nodes that a search compares, in their order, whatever it answers.
use Rattle.std.specs.Prelude.{ℕ, zero, suc, cond, List, [], ◌∷◌, length, eqb, Result, Ok, Err}
use Rattle.layout.specs.declared.refusal.Refusal.{Refusal}
use Rattle.layout.specs.Refusals.{guard}
use Rattle.layout.specs.Layout.{children_field, word_at, node_ok}
use Rattle.trie.specs.declared.trie.Visited.{Visited}
use Rattle.trie.specs.Trie.{visit_node}

-- a comparison that leads on, and what follows from there
abbrev pub by_next : Result Visited Refusal → (ℕ → List ℕ) → List ℕ
by_next (Ok Visited.Same) on = []
by_next (Ok (Visited.Next next)) on = on next
by_next (Ok (Visited.Stop link)) on = []
by_next (Err why) on = []

-- over left and right, from a node on, if so many may be compared
unfoldable pub visits_from : List ℕ → List ℕ → ℕ → ℕ → List ℕ
visits_from area segment zero node = []
visits_from area segment (suc more) node = node ∷ by_next (visit_node area segment node) (visits_from area segment more)

-- for a segment, below a node: none where the segment is empty, the node cannot be touched, or its children link is zero
unfoldable pub visits : ℕ → List ℕ → List ℕ → ℕ → List ℕ
visits most area segment parent =
    cond (eqb (length segment) 0) []
    (guard (node_ok area parent) []
    (cond (eqb (word_at area parent children_field) 0) [] (visits_from area segment most (word_at area parent children_field))))
