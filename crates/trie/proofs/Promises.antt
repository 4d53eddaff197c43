-- What the search promises of any bytes: the bound on the nodes compared, counted along the search's own steps (`visits`), whatever it answers.
use mathlib.Core.List.{List}
use mathlib.Core.Path.{◌≡◌}
use mathlib.Core.Logic.{◌⊎◌}
use Prim.Native.Nat.{ℕ, ◌≤◌, ◌<◌}
use lib.ListN.{length}
use Rattle.layout.specs.declared.refusal.Refusal.{Refusal}
use Rattle.std.specs.Prelude.{Err}
use Rattle.trie.specs.Trie.{nodes_max, named, absent, segment_steps}
use Rattle.trie.specs.Visits.{visits}
use Rattle.trie.proofs.Bounds as bounds

module _ (area segment : List ℕ) (parent : ℕ) where
  -- ---- one segment compares at most data size / 20 + 1 nodes: that is the limit of its own walk,
  pub segment-bound : length (visits (nodes_max area) area segment parent) ≤ nodes_max area
  segment-bound = bounds.segment-bound area segment parent

  -- ---- and where another would be needed, whatever the limit were, the answer is 5;
  pub segment-another : (most : ℕ) → nodes_max area < length (visits most area segment parent) → segment_steps area segment parent ≡ Err Refusal.Damaged
  segment-another = bounds.segment-another area segment parent

  -- ---- where none is, a wider limit would compare the same nodes
  pub segment-whole : (most : ℕ) → nodes_max area ≤ most → length (visits most area segment parent) ≤ nodes_max area → visits most area segment parent ≡ visits (nodes_max area) area segment parent
  segment-whole = bounds.segment-whole area segment parent

  -- ---- a search that ends at a node or at a zero link tells how many it compared
  pub segment-counts : (at compared : ℕ) → (segment_steps area segment parent ≡ named at compared) ⊎ (segment_steps area segment parent ≡ absent at compared)
      → compared ≡ length (visits (nodes_max area) area segment parent)
  segment-counts = bounds.segment-counts area segment parent
