-- One law for each way out of `probe`: a plain byte, the words of a node, where a text ends.
use Prim.Native.Nat.{ℕ, ◌-◌, ◌≤◌, ◌<◌}
use mathlib.Core.Path.{◌≡◌, sym}
use mathlib.Core.Bool.{Bool, true, not, ◌&&◌}
use mathlib.Core.List.{List}
use native.Mathlib.Omega.{arith}
use borrow.Author.Tests.{lt-ltb, le-ltb}
use lib.Dec.{eqb}
use Rattle.words.proofs.Laws.{first-end, first-high}
use Rattle.names.specs.Names.{dot}
use Rattle.layout.specs.Layout.{byte_of}
use Rattle.probes.specs.Limits.{can_begin}
use Rattle.walk.specs.Model.{end_of, text_end}

-- ---- a byte that is neither zero nor dot
abbrev pub plain_byte : ℕ → Bool
plain_byte b = not (eqb b 0) && not (eqb b dot)

-- ---- where a text ends
module _ (area : List ℕ) (used at from : ℕ) where
  module _ (begins : can_begin at ≡ true) where
    module _ (zero : ℕ) (e : zero ≡ end_of area from (byte_of used)) where
      pub text-endless : byte_of used ≤ zero → 0 ≡ text_end area used at from
      unfolding text_end
      text-endless h = rw (begins, ← e, le-ltb zero (byte_of used) h)

      pub text-ends : from < byte_of used → (zero ≡ byte_of used → ⊥) → zero ≡ text_end area used at from
      unfolding text_end
      text-ends h k =
          let l : zero < byte_of used = omega (arith, first-high 0 area from (byte_of used - from)) in
          rw (begins, ← e, lt-ltb zero (byte_of used) l)

    pub text-past : byte_of used ≤ from → 0 ≡ text_end area used at from
    text-past h = text-endless from (sym (first-end 0 area from (byte_of used) h)) h
