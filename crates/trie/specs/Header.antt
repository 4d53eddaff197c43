-- Refusal 8 (RULES 3.1): length under 128 or over 131,072, magic, version.
use Rattle.std.specs.Prelude.{ℕ, ◌+◌, Bool, ◌&&◌, List, length, eqb, leb}
use Rattle.words.specs.Words.{part, same_bytes}
use Rattle.layout.specs.Layout.{area_min, area_max, magic_field, version_field, magic_size, magic, version, header_word}

unfoldable pub header_ok : List ℕ → Bool
header_ok area =
    leb area_min (length area)
    && leb (length area) area_max
    && same_bytes (part area magic_field (magic_field + magic_size)) magic
    && eqb (header_word area version_field) version
