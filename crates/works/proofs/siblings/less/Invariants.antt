-- `siblings::less` says whether `segment_order` of the two names is less. The loop's invariant: the order of the wholes is
-- that of the rests from here, byte by byte. Assumes nothing.
use mathlib.Core.Path.{◌≡◌}
use lib.ListN.{drop}
use Rattle.names.specs.Names.{byte_order, segment_order}
use Rattle.walk.specs.Model.{name_at}
use Rattle.works.proofs.siblings.less.Given as goal

abbrev pub invariant-loop-i : goal.invariant-loop-i
invariant-loop-i l = segment_order (name_at l.area l.fn.p.word) (name_at l.area l.fn.q.word) ≡ byte_order (drop l.i (name_at l.area l.fn.p.word)) (drop l.i (name_at l.area l.fn.q.word))
