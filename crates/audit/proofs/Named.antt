-- Laws that the papers name and that no proof here needs any more.
use Prim.Native.Nat.{ℕ, ◌<◌, ◌%◌}
use mathlib.Core.Path.{◌≡◌, refl}
use mathlib.Core.Bool.{false}
use mathlib.Core.List.{List}
use borrow.Author.Tests.{lt-leb, eq-eqb}
use Rattle.layout.specs.Layout.{word_size, first_free}
use Rattle.walk.specs.Model.{front_ok}

-- ---- the used mark
module _ (area : List ℕ) (used : ℕ) (even : used % word_size ≡ 0) where
  pub front_low : used < first_free → false ≡ front_ok area used
  unfolding front_ok
  front_low h = rw (eq-eqb (used % word_size) 0 even, lt-leb first_free used h) refl
