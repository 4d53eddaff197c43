use mathlib.Core.Path.{refl}
use native.Mathlib.Omega.{arith}
use lib.ListN.{length-set}
use Rattle.texts.proofs.NumberLaws.{digits-start, digits-turn, digits-left, digits-fit}
use borrow.Author.Rules.{rules}
use Rattle.texts.proofs.Page.say_number.Goals as goal

pub loop-rest-init : goal.loop-rest-init
loop-rest-init c = (refl, omega arith, search rules, digits-start _ _ c.last_digit.ensures)

pub loop-rest-preserved : goal.loop-rest-preserved
loop-rest-preserved c =
    let inv = c.loop-rest.invariant in
    let some = digits-left _ _ inv.2 (omega arith) in (
      rw length-set inv.0,
      omega arith,
      digits-fit _ _ inv.2 (omega arith),
      digits-turn _ _ _ _ inv.3 (omega arith) (omega arith) some _ c.last_digit-in-loop-rest.ensures,
    )
