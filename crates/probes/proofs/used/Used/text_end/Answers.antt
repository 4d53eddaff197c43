-- `text_end` gives the place of the text's zero, or none, as `text_end` says. Assumes nothing.
use mathlib.Core.Path.{sym, ◌∙◌}
use Prim.Native.Nat.{◌-◌}
use native.Mathlib.Omega.{arith}
use Rattle.words.proofs.Laws.{first-low, first-high}
use Rattle.layout.specs.Layout.{byte_of}
use Rattle.probes.proofs.ProbeLaws.{text-past, text-ends}
use Rattle.probes.proofs.used.Used.text_end.Goals as goal

pub returns-then-end-from-clause-says : goal.returns-then-end-from-clause-says
returns-then-end-from-clause-says c = text-past _ _ _ _ (sym c.can_begin.ensures ∙ c.if-not-can_begin.false) c.if-end-from.true

pub returns-clause-says : goal.returns-clause-says
returns-clause-says c = text-ends _ _ _ _ (sym c.can_begin.ensures ∙ c.if-not-can_begin.false) _ c.first-zero.ensures c.if-end-from.false c.if-zero-end.false

pub returns-clause-within : goal.returns-clause-within
returns-clause-within c =
    let a = c.args in (
      omega (arith, c.first-zero.ensures, first-low 0 a.self.area.now a.from (byte_of a.self.mark - a.from)),
      omega (arith, c.first-zero.ensures, first-high 0 a.self.area.now a.from (byte_of a.self.mark - a.from)),
    )
