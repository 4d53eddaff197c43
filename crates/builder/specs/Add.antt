-- Add (RULES 5.2 to 5.5).
use Rattle.std.specs.Prelude.{ℕ, Bool, false, cond, ◌||◌, List, [], ◌∷◌, length, eqb}
use Rattle.words.specs.Words.{has_zero}
use Rattle.names.specs.Names.{segments}
use Rattle.layout.specs.declared.refusal.Refusal.{Refusal}
use Rattle.layout.specs.Layout.{root_at}
use Rattle.layout.specs.Refusals.{guard, Verdict, pass, fail, by_verdict}
use Rattle.trie.specs.Header.{header_ok}
use Rattle.allocation.specs.Steps.{Step, stop_by, and_then}
use Rattle.nodes.specs.Nodes.{add_path}
use Rattle.entries.specs.Entries.{add_entry}

-- some segment is empty
unfoldable pub any_empty : List (List ℕ) → Bool
any_empty [] = false
any_empty (segment ∷ rest) = eqb (length segment) 0 || any_empty rest

-- RULES 5.2: zero bytes first (1), empty segments next (2)
unfoldable pub name_verdict : List ℕ → Verdict
name_verdict name =
    cond (has_zero name) (fail Refusal.ZeroByte)
    (cond (any_empty (segments name)) (fail Refusal.EmptySegment)
    pass)

-- 8; the name's tests; the walk; the entry
unfoldable pub add_steps : List ℕ → List ℕ → List ℕ → Step
add_steps area name value =
    guard (header_ok area) (stop_by area Refusal.BadHeader)
    (by_verdict (name_verdict name) (stop_by area)
    (and_then (add_path area (segments name) root_at) (λ node after. add_entry after name value node)))
