-- `checksum::adler32` is `adler`. The loop's invariant: the sums are below the modulus, and what they give with the rest is what the whole gives. Assumes nothing.
use Prim.Native.Nat.{◌<◌}
use mathlib.Core.Path.{◌≡◌}
use lib.ListN.{drop}
use Rattle.replay.specs.Checksum.{modulus, adler, adler_from}
use Rattle.replay.proofs.checksum.adler32.Given as goal

abbrev pub invariant-loop-byte : goal.invariant-loop-byte
invariant-loop-byte l = (l.low < modulus) × (l.high < modulus) × (adler l.bytes ≡ adler_from l.low l.high (drop l.byte-index l.bytes))
