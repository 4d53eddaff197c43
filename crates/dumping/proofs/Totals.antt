-- How long texts are: the totals of the lengths of their parts.
use Prim.Native.Nat.{ℕ}
use mathlib.Core.Path.{◌≡◌, refl}
use mathlib.Core.List.{List}
use lib.ListN.{length, length-append}
use Rattle.std.specs.List.{sum_by}
use Rattle.std.proofs.lemmas.List.Recursion.{is_sum_by}
use Rattle.texts.specs.Text.{escaped_byte, escaped}
use Rattle.dumping.specs.Dump.{entry_line, entry_lines}

abbrev pub byte_size : ℕ → ℕ
byte_size b = length (escaped_byte b)

pub text-total : (text : List ℕ) → length (escaped text) ≡ sum_by byte_size text
unfolding escaped
text-total text = is_sum_by (λ t. length (escaped t)) byte_size refl (λ b bs. length-append (escaped_byte b) (escaped bs)) text

pub ruleset texts = (text-total)

abbrev pub line_size : List ℕ → ℕ → ℕ
line_size area at = length (entry_line area at)

pub lines-total : (area offsets : List ℕ) → length (entry_lines area offsets) ≡ sum_by (line_size area) offsets
unfolding entry_lines
lines-total area offsets = is_sum_by (λ l. length (entry_lines area l)) (line_size area) refl (λ at rest. length-append (entry_line area at) (entry_lines area rest)) offsets
