-- `find_prop_trie_node` finds what `search_from` says. The loop's invariant: the search from the first node and the search from here, with the
-- comparisons that are left, agree. Assumes nothing.
use Prim.Native.Nat.{◌-◌}
use mathlib.Core.Path.{◌≡◌}
use Rattle.trie.specs.Trie.{nodes_max, search_from}
use Rattle.trie.proofs.trie.find_prop_trie_node.Given as goal

abbrev pub invariant-loop-earlier : goal.invariant-loop-earlier
invariant-loop-earlier l = search_from l.area l.segment (nodes_max l.area) l.first 0 ≡ search_from l.area l.segment (nodes_max l.area - l.earlier) l.node l.earlier
