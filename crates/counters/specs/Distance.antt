-- Update distance (RULES 5.10).
use Rattle.std.specs.Prelude.{ℕ, ◌+◌, ◌-◌, ◌%◌, List, [], ◌∷◌}
use Rattle.serials.specs.Serial.{updated_serial, positions, position}

-- the difference of positions mod 32,768
abbrev pub distance : ℕ → ℕ → ℕ
distance earlier later = (position later + positions - position earlier) % positions

-- the serial after updates with values of these lengths, in order
unfoldable pub serial_after : ℕ → List ℕ → ℕ
serial_after serial [] = serial
serial_after serial (size ∷ sizes) = serial_after (updated_serial serial size) sizes
