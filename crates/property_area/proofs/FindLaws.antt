-- A turn of find: what the cursor's step leads to.
use Rattle.std.proofs.Common.{◌≡◌, ℕ, ◌+◌, ◌%◌, List, refl}
use Rattle.names.specs.declared.Segment.{Segment}
use Rattle.names.specs.Names.{step_from}
use Rattle.names.proofs.Laws.{segments_from, segments-whole, step-done, step-segment}
use Rattle.words.specs.Words.{part}
use Rattle.layout.specs.Refusals.{Answer}
use Rattle.std.specs.Prelude.{Option, Some, None}
use Rattle.trie.specs.Trie.{segment_steps}
use Rattle.property_area.specs.Find.{Hit, count_limit, prop_steps, by_search, find_from}

-- behind the last segment the node's entry, else a search
abbrev by_step : List ℕ → List ℕ → Option Segment → ℕ → ℕ → Answer Hit
by_step area name (Some segment) node n =
    by_search (segment_steps area (part name segment.from segment.to) node) (λ named more. find_from area (segments_from name segment.next.at) named ((n + more) % count_limit))
by_step area name None node n = prop_steps area node n

pub find-turn : (area name : List ℕ) (at node n : ℕ) → find_from area (segments_from name at) node n ≡ by_step area name (step_from name at) node n
unfolding find_from
find-turn area name at node n = by (step_from name at) refl
  where
    by : (s : Option Segment) → step_from name at ≡ s → find_from area (segments_from name at) node n ≡ by_step area name s node n
    by (Some segment) e = rw (step-segment name at segment.from segment.to segment.next e).parts
    by None e = rw (step-done name at e)

pub ruleset find_laws = (find-turn, segments-whole)
