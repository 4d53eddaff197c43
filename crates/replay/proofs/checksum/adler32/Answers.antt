use mathlib.Core.Path.{sym, ◌∙◌}
use native.Mathlib.Omega.{arith}
use Rattle.replay.proofs.ChecksumLaws.{adler-on, adler-end}
use Rattle.replay.proofs.checksum.adler32.Goals as goal

pub loop-byte-preserved : goal.loop-byte-preserved
loop-byte-preserved c =
    let l = c.loop-byte in
    (omega arith, omega arith, l.invariant.2 ∙ adler-on _ _ _ l.byte-index (omega arith) _ c.from.ensures)

pub returns : goal.returns
returns c = sym (c.loop-byte.invariant.2 ∙ adler-end _ _ _ c.loop-byte.byte-index (omega arith))
