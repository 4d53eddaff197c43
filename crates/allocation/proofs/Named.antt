-- Laws that the papers name and that no proof here needs any more.
use mathlib.Core.Path.{◌≡◌, refl, sym}
use mathlib.Core.List.{List, []}
use Prim.Native.Nat.{ℕ}
use Rattle.words.proofs.Laws.{clash}
use Rattle.layout.specs.declared.refusal.Refusal.{Refusal}
use Rattle.std.specs.Prelude.{Result, Ok}
use Rattle.allocation.specs.Steps.{Step, goes, stops, and_then, outcome}
use Rattle.allocation.specs.View.{seen, placed_step}
use Rattle.allocation.proofs.StepLaws.{rooms-unseen}

-- ---- where the first step goes on, the second decides: r is the first's answer, area its bytes
pub then-goes : (s : Step) (on : ℕ → List ℕ → Step) (at : ℕ) (area : List ℕ) → goes at area [] ≡ seen s → seen (on at area) ≡ seen (and_then s on)
unfolding seen
then-goes (goes a b rooms) on at area e =
    let p : at ≡ a = cc in
    let q : area ≡ b = cc in
    rw (p, q) (sym (rooms-unseen rooms (on a b)))
then-goes (stops n b rooms) on at area e = clash cc

pub placed_on : (s : Step) (r : Result ℕ Refusal) (area : List ℕ) → placed_step r area ≡ seen s → (on : ℕ → List ℕ → Step) (at : ℕ) → r ≡ Ok at → seen (on at area) ≡ seen (and_then s on)
placed_on s r area e on at f = then-goes s on at area (rw f at e)

-- ---- the answer of a call that ends with a step is told by what is seen of it
pub outcome-seen : (s : Step) → outcome (seen s) ≡ outcome s
unfolding seen
outcome-seen (goes at area rooms) = refl
outcome-seen (stops number area rooms) = refl
