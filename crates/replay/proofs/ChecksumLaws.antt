-- Laws of specs/Checksum.antt: one byte on, and the end.
use mathlib.Core.Path.{◌≡◌}
use mathlib.Core.List.{List}
use Prim.Native.Nat.{ℕ, ◌+◌, ◌*◌, ◌%◌, ◌≤◌, ◌<◌}
use native.Mathlib.Numerals.{add-one}
use lib.ListN.{length, get_or, drop, drop_of_length-le}
use lib.Seq.{drop-cons}
use Rattle.replay.specs.Checksum.{modulus, adler_from}

module _ (bytes : List ℕ) (low high i : ℕ) where
  -- b is the byte at i
  pub adler-on : i < length bytes → (b : ℕ) → b ≡ get_or bytes i 0
      → adler_from low high (drop i bytes) ≡ adler_from ((low + b) % modulus) ((high + (low + b) % modulus) % modulus) (drop (i + 1) bytes)
  unfolding adler_from
  adler-on h b e = rw (drop-cons bytes i 0, add-one, e)

  pub adler-end : length bytes ≤ i → adler_from low high (drop i bytes) ≡ high * 65536 + low
  unfolding adler_from
  adler-end h = rw (drop_of_length-le bytes {i = i} h)
