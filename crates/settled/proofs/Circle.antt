-- Where the bound on nodes bites, computed from the definitions: node "b" at 112, whose left link leads to itself, in an area of 264 bytes (data size 136). A search
-- for "a" compares 136 / 20 + 1 = 7 nodes, would need another, and is refused with 5.
use mathlib.Core.Path.{◌≡◌, refl}
use mathlib.Core.List.{List, []}
use Prim.Native.Nat.{ℕ, suc}
use lib.ListN.{length, replicate}
use Rattle.words.specs.Words.{little_at, little_bytes, first_in, same_bytes, put}
use Rattle.words.specs.Stores.{run, byte_stores}
use Rattle.names.specs.Names.{segments, segment_order, byte_order}
use Rattle.layout.specs.Layout.{root_at, left_field, place_of, touch, text_in}
use Rattle.layout.specs.Refusals.{refused, bytes_in}
use Rattle.trie.specs.Header.{header_ok}
use Rattle.trie.specs.Trie.{nodes_max, visit_node, search_from, segment_steps}
use Rattle.trie.specs.Visits.{visits_from, visits}
use Rattle.property_area.specs.Find.{find_from, find_steps}
use Rattle.property_area.specs.Walked.{walked_from, walked}
use Rattle.allocation.specs.Steps.{outcome}
use Rattle.allocation.specs.Allocate.{allocate}
use Rattle.builder.specs.Fresh.{fresh}
use Rattle.nodes.specs.Nodes.{node_stores, new_node, hang_node, add_node, add_segment, add_path}
use Rattle.entries.specs.Entries.{lay_entry, new_entry, add_entry}
use Rattle.builder.specs.Add.{any_empty, name_verdict, add_steps}
use Rattle.settled.proofs.Settled.{a, b}

-- the node has room, its entry has not (4); then its left link is set
abbrev circle : List ℕ
circle = put (bytes_in (outcome (add_steps (fresh 264) b []))) (place_of 112 left_field) (little_bytes 4 112)

pub record Circle : Type 0 where
  pub most : nodes_max circle ≡ 7
  pub compared : visits (nodes_max circle) circle a root_at ≡ replicate 7 112
  pub another : length (visits (suc (nodes_max circle)) circle a root_at) ≡ 8
  pub answer : find_steps circle a ≡ refused 5
  pub nodes : walked circle a ≡ replicate 7 112

pub bitten : Circle
unfolding little_at little_bytes first_in same_bytes put run byte_stores segments segment_order byte_order touch text_in header_ok visit_node search_from segment_steps visits_from visits find_from find_steps walked_from walked fresh allocate node_stores new_node hang_node add_node add_segment add_path lay_entry new_entry add_entry any_empty name_verdict add_steps
bitten = record { most = refl; compared = refl; another = refl; answer = refl; nodes = refl }
