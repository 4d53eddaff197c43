use mathlib.Core.Path.{sym, ◌∙◌}
use native.Mathlib.Omega.{arith}
use Rattle.works.proofs.PathLaws.{step-on, path-turn}
use Rattle.works.proofs.paths.is_path.Goals as goal

pub loop-preserved : goal.loop-preserved
loop-preserved c = (
  omega arith,
  omega arith,
  c.loop.invariant.2 ∙ path-turn _ _ _ _ _ _ _ c.loop-test.true
      ∙ step-on _ _ _ _ _ _ _ c.field-size.ensures c.if-end-from.false (sym (rw c.name_from.ensures at c.same_at.ensures) ∙ c.if-not-same_at.false)
      _ c.owner-node.ensures c.if-node-eq0.false c.loop.invariant.0 c.if-end-from-2.false _ c.byte_or_zero.ensures c.if-byte_or_zero-ne46.false,
)
