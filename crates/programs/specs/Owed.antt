-- The lookup between two steps: what it holds of a line, and what it then owes.
use Rattle.std.specs.Prelude.{ℕ, ◌≤◌, ◌<◌, ◌≡◌, List, ◌++◌, length, take, drop}
use Rattle.sound.specs.Sound.{Without}
use Rattle.texts.specs.Text.{line_feed}
use Rattle.answers.specs.Answers.{name_max, text_max}
use Rattle.answers.specs.Lines.{lookup_text}

-- a line's first bytes are held: they are there, and none is a line feed
abbrev pub Held : List ℕ → ℕ → Type 0
Held line have = (have ≤ length line) × Without line_feed (take have line)

-- besides, the line is longer than any name, and any text has room in the output
abbrev pub Ready : List ℕ → ℕ → List ℕ → Type 0
Ready line have out = (name_max < length line) × (text_max ≤ length out) × Held line have

-- with whatever comes later: what is owed for what is held and for a rest of the input is a text, and then what is owed for what is held and left afterwards
abbrev pub Owes : (area held rest text kept left : List ℕ) → Type 0
Owes area held rest text kept left = (later : List ℕ) → lookup_text area (held ++ (rest ++ later)) ≡ text ++ lookup_text area (kept ++ (left ++ later))

-- the same within a piece of the input, from one place to another
abbrev pub OwesIn : (area input held : List ℕ) → ℕ → (text kept : List ℕ) → ℕ → Type 0
OwesIn area input held from text kept next = Owes area held (drop from input) text kept (drop next input)
