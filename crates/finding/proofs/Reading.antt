-- What find reads in a sound area: the nodes that it compares, which share no byte.
use Prim.Native.Nat.{ℕ, ◌-◌, ◌*◌, ◌≤◌}
use native.Mathlib.Omega.{arith}
use mathlib.Core.Path.{◌≡◌}
use mathlib.Core.List.{List}
use lib.ListN.{length}
use Rattle.names.specs.Names.{segments}
use Rattle.layout.specs.Layout.{namelen_field, first_free, byte_of, word_at, node_takes}
use Rattle.property_area.specs.Walked.{walked}
use Rattle.sound.specs.Tree.{Tree, leaf, node, inside, cover}
use Rattle.sound.specs.Sound.{TreeAt, Sound}
use Rattle.sound.proofs.Inside.{inside-part}
use Rattle.sound.proofs.Counting.{taken, taken-few, nodes-few}
use Rattle.finding.specs.Look.{node_bytes, node_cover, summed}
use Rattle.finding.proofs.Measures.{whole, length-summed, nodes-whole}
use Rattle.finding.proofs.Passing.{walked-passed, passed-few}

module _ (area : List ℕ) where
  -- they are bytes of the node as it is padded
  nodes-cover : (i : ℕ) (tree : Tree) → TreeAt area tree → whole (node_cover area i) tree ≤ cover tree i
  unfolding whole cover TreeAt
  nodes-cover i leaf bytes = omega arith
  nodes-cover i (node at name own left below right) bytes =
      let size : word_at area at namelen_field ≡ length name = bytes.0.fields 0 (omega arith) in
      omega (
        arith,
        inside-part (byte_of at) (node_takes (length name)) (byte_of at) (node_bytes area at) i (omega arith) (omega (arith, size)),
        nodes-cover i left bytes.2,
        nodes-cover i below bytes.3,
        nodes-cover i right bytes.4,
      )

  nodes-taken : (tree : Tree) → TreeAt area tree → whole (node_bytes area) tree ≤ taken tree
  unfolding whole taken TreeAt
  nodes-taken leaf bytes = omega arith
  nodes-taken (node at name own left below right) bytes =
      let size : word_at area at namelen_field ≡ length name = bytes.0.fields 0 (omega arith) in
      omega (arith, size, nodes-taken left bytes.2, nodes-taken below bytes.3, nodes-taken right bytes.4)

  module _ (used : ℕ) (tree : Tree) (sound : Sound area used tree) (name : List ℕ) where
    -- whatever is measured of nodes, those that are compared have no more of it than all
    walked-few : (measure : ℕ → ℕ) → summed measure (walked area name) ≤ whole measure tree
    walked-few measure = rw (walked-passed area name used tree sound) (passed-few measure (segments name) tree)

    pub walk-bound : 24 * length (walked area name) ≤ used - first_free
    walk-bound = omega (arith, length-summed (walked area name), walked-few (λ _. 1), nodes-whole tree, nodes-few area used tree sound)

    pub walk-apart : (i : ℕ) → summed (node_cover area i) (walked area name) ≤ inside (byte_of first_free) (used - first_free) i
    walk-apart i = omega (arith, walked-few (node_cover area i), nodes-cover i tree sound.bytes, sound.room i)

    pub walk-reads : summed (node_bytes area) (walked area name) ≤ used - first_free
    walk-reads = omega (arith, walked-few (node_bytes area), nodes-taken tree sound.bytes, taken-few area used tree sound)
