-- What building promises of any bytes: no second outcome, what 0 says, which bytes a refusal leaves, and how far the used mark moves.
use mathlib.Core.Path.{◌≡◌}
use mathlib.Core.List.{List}
use Prim.Native.Nat.{ℕ}
use lib.ListN.{length}
use Rattle.layout.specs.Refusals.{Verdict, verdict_number, leaves, accept_leaving}
use Rattle.layout.proofs.Promises.{one-outcome}
use Rattle.allocation.specs.Steps.{goes, outcome}
use Rattle.allocation.specs.Allocate.{allocate}
use Rattle.builder.specs.Fresh.{fresh, format_steps}
use Rattle.builder.specs.Add.{add_steps}
use Rattle.builder.proofs.Keeping.{StopKeeps, EarlyKeeps}
use Rattle.builder.proofs.Keeping as keeping
use Rattle.builder.proofs.Used.{Moved}
use Rattle.builder.proofs.Used as used

-- ---- no second verdict, and no other bytes, satisfy the contract of format
pub one_format : (area : List ℕ) (v w : Verdict) (a b : List ℕ) → leaves (verdict_number v) a ≡ format_steps area → leaves (verdict_number w) b ≡ format_steps area → (v ≡ w) × (a ≡ b)
one_format area v w a b p q = one-outcome (format_steps area) v w a b p q

-- ---- nor that of add
pub one-add : (area name value : List ℕ) (v w : Verdict) (a b : List ℕ)
    → leaves (verdict_number v) a ≡ outcome (add_steps area name value) → leaves (verdict_number w) b ≡ outcome (add_steps area name value) → (v ≡ w) × (a ≡ b)
one-add area name value v w a b p q = one-outcome (outcome (add_steps area name value)) v w a b p q

-- ---- a format that answers 0 made a fresh area
pub format-tells : (area after : List ℕ) → accept_leaving after ≡ format_steps area → after ≡ fresh (length area)
format-tells = keeping.format-tells

-- ---- an add that answers 0 is not refused: it made all its steps, to an entry's offset
pub add-tells : (area name value after : List ℕ) → accept_leaving after ≡ outcome (add_steps area name value) → (prop : ℕ) × (rooms : List ℕ) × (add_steps area name value ≡ goes prop after rooms)
add-tells = keeping.add-tells

-- ---- a refused allocation changes no byte and gives no room
pub allocate-keeps : (area : List ℕ) (room : ℕ) → StopKeeps area (allocate area room)
allocate-keeps area room = keeping.allocate-keeps area room

-- ---- an add that is refused neither for room (4, 9) nor for damage (5) changes no byte and gives no room
pub add-keeps : (area name value : List ℕ) → EarlyKeeps area (add_steps area name value)
add-keeps area name value = keeping.add-keeps area name value

-- ---- an add, accepted or refused, keeps the area's length and moves the used mark by the rooms that it gave
pub used-moves : (area name value : List ℕ) → Moved area (add_steps area name value)
used-moves area name value = used.used-moves area name value
