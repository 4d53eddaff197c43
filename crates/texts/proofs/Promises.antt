-- What texts promise: a text escaped, how long texts are, what the digits of a number mean, where a text then stands, what a line has, no second outcome.
-- The proofs stand in Laws, NumberLaws and Feeding.
use Prim.Native.Nat.{ℕ, ◌+◌, ◌-◌, ◌*◌, ◌^◌, ◌≤◌, ◌<◌}
use mathlib.Core.Path.{◌≡◌, sym, ◌∙◌}
use mathlib.Core.Bool.{Bool, true, false}
use mathlib.Core.List.{List, ◌++◌}
use native.Mathlib.Omega.{arith}
use Rattle.std.specs.Prelude.{Option}
use lib.ListN.{length, get_or, take}
use Rattle.words.specs.Words.{part}
use Rattle.words.proofs.Laws.{first-low}
use Rattle.texts.specs.Text.{escaped, digit, decimal_in, saying, said, line_feed, piece_end, fed, feed, fed_answer}
use Rattle.texts.proofs.Laws as laws
use laws.{said-within, fed-parts}
use Rattle.texts.proofs.NumberLaws as numbers
use numbers.{read_from, IsDigit}
use Rattle.texts.proofs.Feeding.{fit-front, line-ended, input-ended, same-answer, same-line}

-- ---- a text escaped piece by piece is the text escaped
pub escaped-append : (a b : List ℕ) → escaped (a ++ b) ≡ escaped a ++ escaped b
escaped-append = laws.escaped-append

-- ---- a byte escapes to at most four, and a number has no more digits than it is given
pub escaped-few : (text : List ℕ) → length (escaped text) ≤ 4 * length text
escaped-few = laws.escaped-few

pub decimal-few : (k n : ℕ) → length (decimal_in k n) ≤ k
decimal-few = numbers.decimal-few

-- ---- the digits, read as a number, are the number; each is one of 0 to 9, and no zero stands in front
pub decimal-reads : (k n : ℕ) → n < 10 ^ k → read_from 0 (decimal_in k n) ≡ n
decimal-reads = numbers.decimal-reads

pub decimal-digits : (k n i : ℕ) → i < length (decimal_in k n) → IsDigit (get_or (decimal_in k n) i 0)
decimal-digits = numbers.decimal-digits

pub decimal-leads : (k n : ℕ) → n < 10 ^ k → 1 ≤ n → (1 ≤ length (decimal_in k n)) × (digit 0 < get_or (decimal_in k n) 0 0)
decimal-leads = numbers.decimal-leads

-- ---- a text in a buffer: where it fits it stands there whole, behind what stood before it; another text goes on from there (`said-append`)
pub said-stands : (out : List ℕ) (at : ℕ) (text : List ℕ) (next : ℕ) (after : List ℕ) → saying next after ≡ said out at text → at + length text ≤ length out
    → (next ≡ at + length text) × (take next after ≡ take at out ++ text)
said-stands = laws.said-stands

-- ---- no second outcome of a text said
pub one-said : (out : List ℕ) (at : ℕ) (text : List ℕ) (r s : ℕ) (a b : List ℕ) → saying r a ≡ said out at text → saying s b ≡ said out at text → (r ≡ s) × (a ≡ b)
one-said out at text r s a b p q = let e : saying r a ≡ saying s b = p ∙ sym q in ((cc), (cc))

module _ (input : List ℕ) (from : ℕ) (line : List ℕ) (have : ℕ) where
  module _ (has next : ℕ) (ended : Bool) (out : List ℕ) (e : fed (saying has out) next ended ≡ feed input from line have) where
    -- ---- a line has no more than its length, which stays, and the input goes on within itself
    pub feed-fits : (has ≤ length out) × (length out ≡ length line) × (next ≤ length input)
    feed-fits =
        let w = said-within line have (part input from (piece_end input from)) has out (fed-parts input from line have e).0 in
        (w.0, w.1, omega (arith, (fed-parts input from line have e).1))

    module _ (f : from ≤ length input) (h : have ≤ length line) where
      -- ---- what a line has is what it had and the piece, as far as they fit
      pub line-says : take has out ≡ take (length line) (take have line ++ part input from (piece_end input from))
      line-says = fit-front line have (part input from (piece_end input from)) has out h (fed-parts input from line have e).0

      -- ---- the input goes on behind the piece
      pub next-moves : from < length input → from < next
      next-moves more = omega (arith, (fed-parts input from line have e).1, first-low line_feed input from (length input - from))

      -- ---- an ended line ended at a line feed, another at the input's end
      pub ended-says : (ended ≡ true → get_or input (piece_end input from) 0 ≡ line_feed) × (ended ≡ false → piece_end input from ≡ length input)
      ended-says = (line-ended input from line have has next ended out e, input-ended input from line have has next ended out e f)

  -- ---- no second outcome of a piece fed
  pub one-fed : (r s : Option ℕ) (h k : ℕ) (a b : List ℕ) → fed_answer input (saying h a) r ≡ feed input from line have
      → fed_answer input (saying k b) s ≡ feed input from line have → (h ≡ k) × (r ≡ s) × (a ≡ b)
  one-fed r s h k a b p q =
      let e : fed_answer input (saying h a) r ≡ fed_answer input (saying k b) s = p ∙ sym q in
      let l : saying h a ≡ saying k b = same-line input (saying h a) (saying k b) r s e in
      ((cc), same-answer input (saying h a) (saying k b) r s e, (cc))
