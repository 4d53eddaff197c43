-- For proofs alone: where the link to what hangs in a direction stands.
use Rattle.std.specs.Prelude.{ℕ}
use Rattle.layout.specs.Layout.{left_field, right_field, children_field}
use Rattle.sound.specs.Ways.{Dir, to_left, to_below, to_right}

-- the field of that link
abbrev pub link_field : Dir → ℕ
link_field to_left = left_field
link_field to_below = children_field
link_field to_right = right_field
