-- Laws that the papers name and that no proof here needs any more.
use Prim.Native.Nat.{ℕ}
use mathlib.Core.Path.{◌≡◌}
use mathlib.Core.Bool.{Bool, false}
use mathlib.Core.List.{List}
use Rattle.texts.specs.Text.{saying, fed, feed}
use Rattle.answers.specs.Lines.{turned, turn_steps}

-- ---- a turn whose line goes on
pub turn_on : (area input : List ℕ) (from : ℕ) (line : List ℕ) (have : ℕ) (out : List ℕ) (at : ℕ) (has next : ℕ) (ended : Bool) (grown : List ℕ)
    → fed (saying has grown) next ended ≡ feed input from line have → ended ≡ false → turned has next grown (saying at out) ≡ turn_steps area input from line have out at
unfolding turn_steps
turn_on area input from line have out at has next ended grown e f = rw (← e, f)
