-- `print_answers` lends the lookup a line that is longer than any name, and an output of twice the longest answer. Assumes nothing.
use Prim.Native.Nat.{ℕ, ◌+◌, ◌*◌, ◌≤◌, ◌<◌}
use mathlib.Core.Path.{refl, sym}
use lib.ListN.{length-replicate}
use native.Mathlib.Omega.{arith}
use Rattle.answers.specs.Answers.{name_max, text_max}
use Rattle.programs.proofs.Laws.{lends}
use Rattle.programs.proofs.print_answers.Goals as goal

pub serve_all-requires : goal.serve_all-requires
serve_all-requires g c = (lends (λ (n : ℕ). name_max < n) (name_max + 1) (omega arith), lends (λ (n : ℕ). text_max ≤ n) (2 * text_max) (omega arith))

pub slice_bounds-serve_all-end : goal.slice_bounds-serve_all-end
slice_bounds-serve_all-end g c = refl

pub slice_bounds-serve_all-end-2 : goal.slice_bounds-serve_all-end-2
slice_bounds-serve_all-end-2 g c = sym (length-replicate {A = ℕ} (2 * text_max) 0)
