-- `words::fill` leaves the bytes that `put` says. Assumes nothing.
use mathlib.Core.Path.{◌≡◌, ◌∙◌}
use Rattle.std.proofs.Common.{rules}
use native.Mathlib.Omega.{arith}
use lib.ListN.{length-replicate, replicate}
use Rattle.words.proofs.Laws.{put_part}
use Rattle.words.proofs.fill.Goals as goal

pub returns : goal.returns
returns c =
    let e : c.fill.new.self ≡ replicate c.args.k c.args.b = search rules in
    rw e (put_part _ _ _ _ (length-replicate _ _ ∙ omega arith) (omega arith))
