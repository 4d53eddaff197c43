-- Find (RULES 4.1, 4.2).
use Rattle.std.specs.Prelude.{ℕ, ◌+◌, ◌%◌, ◌^◌, cond, List, [], ◌∷◌, ◌==◌, Result, Ok, Err}
use Rattle.names.specs.Names.{segments}
use Rattle.layout.specs.declared.refusal.Refusal.{Refusal}
use Rattle.layout.specs.Refusals.{Answer, accepted, refused, refuse, answered, guard}
use Rattle.layout.specs.Layout.{root_at, prop_field, word_at, node_ok, entry_ok}
use Rattle.trie.specs.Header.{header_ok}
use Rattle.trie.specs.Trie.{segment_steps}
use Rattle.trie.specs.declared.trie.Searched.{Searched}
use Rattle.property_area.specs.declared.descent.Found.{Found}

-- the entry's offset and the count of nodes compared over all segments
pub data Hit : Type 0 where
  hit : (offset compared : ℕ) → Hit

-- the count is kept in 64 bits
abbrev pub count_limit : ℕ
count_limit = 2 ^ 64

-- what follows find: for the entry's offset, or for the refusal's number
abbrev pub by_hit : {A : Type 0} → (ℕ → A) → (ℕ → A) → Answer Hit → A
by_hit refusing on (accepted (hit offset compared)) = on offset
by_hit refusing on (refused number) = refusing number

-- what each case of the answer means
abbrev pub found_answer : Result Found Refusal → Answer Hit
found_answer = answered (λ (found : Found). hit found.offset found.compared)

-- unless the search names a node, its refusal: no such node is 3
abbrev pub by_search : Result Searched Refusal → (ℕ → ℕ → Answer Hit) → Answer Hit
by_search (Ok (Searched.Named node compared)) on = on node compared
by_search (Ok (Searched.Absent link compared)) on = refuse Refusal.Missing
by_search (Err why) on = refuse why

-- RULES 4.2: no entry there (3), else it is touched
abbrev pub entry_steps : List ℕ → ℕ → ℕ → Answer Hit
entry_steps area offset compared =
    cond (offset == 0) (refuse Refusal.Missing) (guard (entry_ok area offset) (refuse Refusal.Damaged) (accepted (hit offset compared)))

-- the node is touched before its prop is read
unfoldable pub prop_steps : List ℕ → ℕ → ℕ → Answer Hit
prop_steps area node compared = guard (node_ok area node) (refuse Refusal.Damaged) (entry_steps area (word_at area node prop_field) compared)

-- the segments below a node, one below the other
unfoldable pub find_from : List ℕ → List (List ℕ) → ℕ → ℕ → Answer Hit
find_from area [] node compared = prop_steps area node compared
find_from area (segment ∷ rest) node compared =
    by_search (segment_steps area segment node) (λ named more. find_from area rest named ((compared + more) % count_limit))

-- 8 first; then the root's children
unfoldable pub find_steps : List ℕ → List ℕ → Answer Hit
find_steps area name = guard (header_ok area) (refuse Refusal.BadHeader) (find_from area (segments name) root_at 0)
