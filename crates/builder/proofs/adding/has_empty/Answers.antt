use mathlib.Core.Path.{sym, ◌∙◌}
use Prim.Native.Nat.{◌-◌}
use native.Mathlib.Omega.{arith}
use borrow.Author.Tests.{eq-eqb, ne_eqb}
use Rattle.words.proofs.Laws.{part_length}
use Rattle.names.proofs.Laws.{segments-whole, step-done, step-segment, Stepped}
use Rattle.builder.specs.Add.{any_empty}
use Rattle.builder.proofs.adding.has_empty.Goals as goal
use Rattle.builder.proofs.adding.has_empty.Goals.{In-Some}

pub loop-from-init : goal.loop-from-init
loop-from-init c = rw (c.start-cursor.ensures, segments-whole)

pub returns : goal.returns
unfolding any_empty
returns c = rw (c.loop-from.invariant, step-done _ _ (sym c.step.ensures ∙ c.in_default.is))

-- what the cursor's step says of the segment
stepped : (c : In-Some)
    → Stepped c.args.name.now c.loop-from.cursor.at c.in-Some.field-0.from c.in-Some.field-0.to c.in-Some.field-0.next
stepped c = step-segment _ _ _ _ _ (sym c.step.ensures ∙ c.in-Some.is)

pub returns-then-from-to : goal.returns-then-from-to
unfolding any_empty
returns-then-from-to c =
    let s = stepped (goal.at.returns-then-from-to c).In-Some in
    rw (c.loop-from.invariant, s.parts, part_length _ _ _ s.low s.high, eq-eqb (c.in-Some.field-0.to - c.in-Some.field-0.from) 0 (omega (arith, c.if-from-to.true)))

pub loop-from-smaller : goal.loop-from-smaller
loop-from-smaller c =
    let s = stepped (goal.at.loop-from-smaller c).In-Some in
    omega (arith, s.more, s.begins, s.low, s.behind)

pub loop-from-preserved : goal.loop-from-preserved
unfolding any_empty
loop-from-preserved c =
    let s = stepped (goal.at.loop-from-preserved c).In-Some in
    rw (c.loop-from.invariant, s.parts, part_length _ _ _ s.low s.high, ne_eqb (c.in-Some.field-0.to - c.in-Some.field-0.from) 0 (λ z. c.if-from-to.false (omega (arith, s.low, z))))
