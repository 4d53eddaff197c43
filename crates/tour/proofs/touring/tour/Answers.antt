use mathlib.Core.Path.{◌≡◌, ap, ◌∙◌}
use mathlib.Core.Bool.{false}
use Prim.Native.Nat.{ℕ, ◌/◌}
use native.Mathlib.Omega.{arith}
use borrow.Author.Rules.{rules}
use Rattle.std.specs.Prelude.{[], Ok, is_ok}
use Rattle.tour.proofs.TourLaws.{going-begins, go-damaged, going_on, step-damaged, tour-ends}
use Rattle.tour.proofs.touring.tour.Goals as goal

pub returns-in_err-w-clause-ends : goal.returns-in_err-w-clause-ends
returns-in_err-w-clause-ends c =
    let err : is_ok c.from_residual.result ≡ false = search rules in
    err ∙ go-damaged _ _ _ _ c.go.new.marks c.in_err-w.ensures

pub loop-init : goal.loop-init
loop-init c = going-begins _ _ _ _ _ _ _ (c.in_ok-w.ensures []) (search rules)

pub returns-then-w-eq0-clause-ends : goal.returns-then-w-eq0-clause-ends
returns-then-w-eq0-clause-ends c = (tour-ends _ _ _ _ _ _ _ _ _ _ c.loop.invariant c.if-w-eq0.true).0

pub returns-then-w-eq0-clause-notes : goal.returns-then-w-eq0-clause-notes
returns-then-w-eq0-clause-notes c = (tour-ends _ _ _ _ _ _ _ _ _ _ c.loop.invariant c.if-w-eq0.true).1

pub returns-in_err-next-clause-ends : goal.returns-in_err-next-clause-ends
returns-in_err-next-clause-ends c =
    let err : is_ok c.from_residual-in_err-next.result ≡ false = search rules in
    err ∙ step-damaged _ _ _ _ _ _ _ _ _ _ c.loop.invariant (omega (arith, c.loop-test.true, ap (λ (k : ℕ). k / 6) c.data_size-end.ensures)) _ c.step.new.marks c.in_err-next.ensures.says

pub loop-preserved : goal.loop-preserved
loop-preserved c =
    going_on _ _ _ _ _ _ _ _ _ _ c.loop.invariant (omega (arith, c.loop-test.true, ap (λ (k : ℕ). k / 6) c.data_size-end.ensures))
    (Ok (_, _)) _ _ _ (search rules) (search rules) c.in_ok-next.ensures.says c.note-entries.ensures.0 c.note-entries.ensures.1
