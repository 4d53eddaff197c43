-- The link of a missing node lies in the area. Assumes nothing.
use mathlib.Core.Path.{◌≡◌, sym, ap, ◌∙◌}
use Rattle.std.specs.Prelude.{Ok}
use Rattle.trie.specs.declared.trie.Searched.{Searched}
use Rattle.trie.proofs.LinkLaws.{absent-in}
use Rattle.nodes.proofs.add_prop_trie_node.Goals as goal

pub hang_node-requires : goal.hang_node-requires
hang_node-requires c =
    let own = c.in-Ok-Absent in
    let absent : own.field-0 ≡ Searched.Absent own.link own.field-0-1 = rw own.is at own.field-0-is in
    absent-in _ _ _ _ _ _ _ (sym c.find_prop_trie_node-searched.ensures ∙ own.is ∙ ap Ok absent)
