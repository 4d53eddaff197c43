use mathlib.Core.Path.{sym, ap, ◌∙◌}
use native.Mathlib.Omega.{arith}
use Rattle.walk.specs.Model.{is_less}
use Rattle.works.proofs.OrderLaws.{names-sized, names-begin, names-differ, names-on, names-end}
use Rattle.works.proofs.siblings.less.Goals as goal

pub returns-then-size-other : goal.returns-then-size-other
returns-then-size-other c = names-sized _ _ _ _ _ c.field-size.ensures c.field-other.ensures c.if-size-other.true

pub loop-i-init : goal.loop-i-init
loop-i-init c = names-begin _ _ _ _ _ c.field-size.ensures c.field-other.ensures c.if-size-other.false

pub returns-then-x-y : goal.returns-then-x-y
returns-then-x-y c =
    names-differ _ _ _ c.loop-i.i (omega arith) (omega arith) _ _ (rw c.name_from-a.ensures at c.byte_or_zero-x.ensures) (rw c.name_from-b.ensures at c.byte_or_zero-y.ensures) c.if-x-y.true ∙ ap is_less (sym c.loop-i.invariant)

pub loop-i-preserved : goal.loop-i-preserved
loop-i-preserved c = c.loop-i.invariant ∙ names-on _ _ _ c.loop-i.i (omega arith) (omega arith) _ _ (rw c.name_from-a.ensures at c.byte_or_zero-x.ensures) (rw c.name_from-b.ensures at c.byte_or_zero-y.ensures) c.if-x-y.false

pub returns : goal.returns
returns c = ap is_less (sym (c.loop-i.invariant ∙ names-end _ _ _ c.loop-i.i (omega arith)))
