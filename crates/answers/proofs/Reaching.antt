-- Places and lengths after the calls: the next place lies within the output, and no buffer's length changes.
use Prim.Native.Nat.{ℕ, ◌≤◌, ◌<◌}
use native.Mathlib.Omega.{arith}
use mathlib.Core.Path.{◌≡◌, refl, sym}
use mathlib.Core.Bool.{Bool, true, false}
use mathlib.Core.List.{List}
use lib.Dec.{eqb}
use lib.ListN.{length, take}
use Rattle.words.proofs.Laws.{bool_cases}
use Rattle.texts.specs.Text.{Fed, fed, feed, saying}
use Rattle.texts.proofs.Laws.{said-within}
use Rattle.texts.proofs.Promises.{feed-fits, next-moves}
use Rattle.answers.specs.Answers.{answer_text}
use Rattle.answers.specs.Lines.{turned, turn_fed, turn_steps, end_steps}

pub record Fits (out after : List ℕ) (next : ℕ) : Type 0 where
  pub place : next ≤ length after
  pub size : length after ≡ length out

pub end-within : (area held out : List ℕ) (at next : ℕ) (after : List ℕ) → at ≤ length out → saying next after ≡ end_steps area held out at → Fits out after next
unfolding end_steps
end-within area held out at next after h e =
    bool_cases (eqb (length held) 0)
    (λ t.
    let q : saying next after ≡ saying at out = rw t at e in
    let n : next ≡ at = cc in
    let a : after ≡ out = cc in
    record { place = rw (n, a) h; size = rw a })
    (λ t. let w = said-within out at (answer_text area held) next after (rw t at e) in record { place = w.0; size = w.1 })

-- a turn also leaves the line its length, holds no more than it, and the input goes on behind where it was
module _ (area input : List ℕ) (from : ℕ) (line : List ℕ) (have : ℕ) (out : List ℕ) (at has next : ℕ) (grown : List ℕ) (told : ℕ) (after : List ℕ)
    (e : turned has next grown (saying told after) ≡ turn_steps area input from line have out at) where
  pub record TurnFits : Type 0 where
    pub output : Fits out after told
    pub held : has ≤ length grown
    pub size : length grown ≡ length line
    pub goes : from < length input → from < next
    pub input-left : next ≤ length input

  pub turn-within : at ≤ length out → have ≤ length line → from ≤ length input → TurnFits
  unfolding turn_steps
  turn-within a h f = by (feed input from line have) refl e
    where
      rest : (k n : ℕ) (ended : Bool) (l : List ℕ) → feed input from line have ≡ fed (saying k l) n ended → next ≡ n → grown ≡ l → has ≤ k → Fits out after told → TurnFits
      rest k n ended l is m g z w =
          let fits = feed-fits input from line have k n ended l (sym is) in
          record {
            output = w;
            held = rw g (omega (arith, fits.0, z));
            size = rw g fits.1;
            goes = λ more. rw m (next-moves input from line have k n ended l (sym is) f h more);
            input-left = rw m fits.2;
          }

      by : (state : Fed) → feed input from line have ≡ state → turned has next grown (saying told after) ≡ turn_fed area out at state → TurnFits
      by (fed (saying k l) n true) is q =
          let z : has ≡ 0 = cc in
          let w = said-within out at (answer_text area (take k l)) told after (cc) in
          rest k n true l is (cc) (cc) (omega arith) (record { place = w.0; size = w.1 })
      by (fed (saying k l) n false) is q =
          let z : has ≡ k = cc in
          let t : told ≡ at = cc in
          let o : after ≡ out = cc in
          rest k n false l is (cc) (cc) (omega arith) (record { place = rw (t, o) a; size = rw o })
