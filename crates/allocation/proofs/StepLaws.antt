-- Laws of specs/Steps.antt: what is seen of one step after another.
use mathlib.Core.Path.{◌≡◌, refl, ◌∙◌}
use mathlib.Core.List.{List, []}
use Prim.Native.Nat.{ℕ}
use Rattle.words.proofs.Laws.{clash}
use Rattle.layout.specs.declared.refusal.Refusal.{Refusal}
use Rattle.std.specs.Prelude.{Result, Ok}
use Rattle.allocation.specs.Steps.{Step, goes, stops, with_rooms, and_then}
use Rattle.allocation.specs.View.{seen, placed_step}

pub rooms-unseen : (given : List ℕ) (s : Step) → seen (with_rooms given s) ≡ seen s
unfolding seen
rooms-unseen given (goes at area rooms) = refl
rooms-unseen given (stops number area rooms) = refl

-- a step that went on went on in both its parts
pub record Through (s : Step) (on : ℕ → List ℕ → Step) (at : ℕ) (area : List ℕ) : Type 0 where
  pub mid : ℕ
  pub between : List ℕ
  pub first : goes mid between [] ≡ seen s
  pub second : goes at area [] ≡ seen (on mid between)

pub then-through : (s : Step) (on : ℕ → List ℕ → Step) (at : ℕ) (area : List ℕ) → goes at area [] ≡ seen (and_then s on) → Through s on at area
unfolding seen
then-through (goes a b rooms) on at area e = record { mid = a; between = b; first = refl; second = e ∙ rooms-unseen rooms (on a b) }
then-through (stops n b rooms) on at area e = clash cc

-- ---- what code has in hand: r is its answer, area its bytes
pub placed_at : (s : Step) (r : Result ℕ Refusal) (area : List ℕ) → placed_step r area ≡ seen s → (at : ℕ) → r ≡ Ok at → goes at area [] ≡ seen s
placed_at s r area e at f = rw f at e
