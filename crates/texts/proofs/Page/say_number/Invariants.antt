-- `say_number` leaves what `said` says of the number in decimal. The loop's invariant: the digits found stand behind those of what is left.
-- The measure is what is left. Assumes nothing.
use Prim.Native.Nat.{suc, ◌^◌, ◌<◌}
use mathlib.Core.Path.{◌≡◌}
use mathlib.Core.List.{◌++◌}
use lib.ListN.{length, drop}
use Rattle.texts.specs.Text.{digits_max, decimal}
use Rattle.texts.proofs.NumberLaws.{above}
use Rattle.texts.proofs.Page.say_number.Given as goal

abbrev pub invariant-loop-rest : goal.invariant-loop-rest
invariant-loop-rest l =
    (length l.digits ≡ digits_max) × (l.from < digits_max) × (l.rest < 10 ^ suc l.from) × (decimal l.n ≡ above l.from l.rest ++ drop l.from l.digits)

abbrev pub decreases-loop-rest : goal.decreases-loop-rest
decreases-loop-rest l = l.rest
