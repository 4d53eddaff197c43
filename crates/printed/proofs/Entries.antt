-- How many entries a file can have.
use Rattle.std.specs.Prelude.{ℕ}

-- no file has more entries: 124 * entries ≤ 65,536 - 128 - 112
abbrev pub entries_max : ℕ
entries_max = 526
