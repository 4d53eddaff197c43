-- What the programs print and read (RULES 8): bytes escaped, numbers, a text put into a buffer, a line put together from pieces.
use Rattle.std.specs.Prelude.{ℕ, zero, suc, ◌≡◌, ◌+◌, ◌-◌, ◌/◌, ◌%◌, min, Bool, true, false, cond, not, ◌&&◌, List, [], ◌∷◌, ◌++◌, length, eqb, leb, ltb, Option, Some, None}
use Rattle.words.specs.Words.{part, first_in, put}
use Rattle.texts.specs.declared.Page.{Page}

-- ---- RULES 8.1: a byte that prints as itself, and one that does not
abbrev pub backslash : ℕ
backslash = 92

abbrev pub prints_as_is : ℕ → Bool
prints_as_is b = leb 0x20 b && leb b 0x7e && not (eqb b backslash)

-- 0 to 9
abbrev pub digit : ℕ → ℕ
digit d = 48 + d

-- then a to f
abbrev pub hex_digit : ℕ → ℕ
hex_digit d = cond (ltb d 10) (digit d) (87 + d)

unfoldable pub escaped_byte : ℕ → List ℕ
escaped_byte b = cond (prints_as_is b) (b ∷ []) (backslash ∷ 120 ∷ hex_digit (b / 16) ∷ hex_digit (b % 16) ∷ [])

unfoldable pub escaped : List ℕ → List ℕ
escaped [] = []
escaped (b ∷ bs) = escaped_byte b ++ escaped bs

-- ---- numbers of 64 bits print in decimal, with no zero in front
-- in so many digits at most
unfoldable pub decimal_in : ℕ → ℕ → List ℕ
decimal_in zero n = []
decimal_in (suc more) n = cond (ltb n 10) (digit n ∷ []) (decimal_in more (n / 10) ++ digit (n % 10) ∷ [])

-- they need no more
abbrev pub digits_max : ℕ
digits_max = 20

abbrev pub decimal : ℕ → List ℕ
decimal n = decimal_in digits_max n

-- ---- a text goes into a buffer from a place on; what would stand behind the buffer's end is dropped: the next place, the buffer
pub data Said : Type 0 where
  saying : (next : ℕ) (buffer : List ℕ) → Said

unfoldable pub said : List ℕ → ℕ → List ℕ → Said
said out at text = saying (min (at + length text) (length out)) (put out at text)

-- a page afterwards: the text is said from its place on, in the same buffer
pub record Says (before after : Page) (text : List ℕ) : Type 0 where
  pub same_buffer : after.out.ghost_name ≡ before.out.ghost_name
  pub said : saying after.at after.out.now ≡ said before.out.now before.at text

-- ---- names stand one per line: from a place of the input on, a piece goes up to a line feed or to the input's end
abbrev pub line_feed : ℕ
line_feed = 10

abbrev pub piece_end : List ℕ → ℕ → ℕ
piece_end input from = first_in line_feed input from (length input - from)

-- what the line then has, where the input goes on, whether the line has ended
pub data Fed : Type 0 where
  fed : (line : Said) (next : ℕ) (ended : Bool) → Fed

-- the piece is said behind what the line has; what does not fit is dropped, and the line is then full
unfoldable pub feed : List ℕ → ℕ → List ℕ → ℕ → Fed
feed input from line have =
    fed (said line have (part input from (piece_end input from))) (min (piece_end input from + 1) (length input)) (ltb (piece_end input from) (length input))

-- what each case of the code's answer means: a line that has ended, or an input that has
abbrev pub fed_answer : List ℕ → Said → Option ℕ → Fed
fed_answer input line (Some next) = fed line next true
fed_answer input line None = fed line (length input) false
