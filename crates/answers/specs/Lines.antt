-- The lookup's input (RULES 8.6): names one per line, answered as they come in.
use Rattle.std.specs.Prelude.{ℕ, true, false, cond, List, [], ◌∷◌, ◌++◌, length, take, eqb}
use Rattle.names.specs.Names.{on_first}
use Rattle.texts.specs.Text.{Said, saying, said, line_feed, Fed, fed, feed}
use Rattle.answers.specs.Answers.{answer_text}

-- ---- RULES 8.6: an empty line asks for the empty name; the last line may lack its line feed; behind the input's last line feed there is no name
unfoldable pub names_in : List ℕ → List (List ℕ)
names_in [] = []
names_in (b ∷ bs) = cond (eqb b line_feed) ([] ∷ names_in bs) (on_first b (names_in bs))

-- what the lookup prints for all of an input
unfoldable pub answers_text : List ℕ → List (List ℕ) → List ℕ
answers_text area [] = []
answers_text area (name ∷ names) = answer_text area name ++ answers_text area names

abbrev pub lookup_text : List ℕ → List ℕ → List ℕ
lookup_text area input = answers_text area (names_in input)

-- ---- a turn over a piece of the input: bytes that the line has, where the input goes on, the line, the text said
pub data Turned : Type 0 where
  turned : (have next : ℕ) (line : List ℕ) (text : Said) → Turned

-- a line that has ended is a name, and the next begins
abbrev pub turn_fed : List ℕ → List ℕ → ℕ → Fed → Turned
turn_fed area out at (fed (saying have line) next true) = turned 0 next line (said out at (answer_text area (take have line)))
turn_fed area out at (fed (saying have line) next false) = turned have next line (saying at out)

unfoldable pub turn_steps : (area input : List ℕ) → ℕ → List ℕ → ℕ → List ℕ → ℕ → Turned
turn_steps area input from line have out at = turn_fed area out at (feed input from line have)

-- at the input's end: what a line has is a name, unless it has nothing
unfoldable pub end_steps : (area held out : List ℕ) → ℕ → Said
end_steps area held out at = cond (eqb (length held) 0) (saying at out) (said out at (answer_text area held))
