-- `probe::plain` says whether no byte is zero or dot: a test of each of them. Assumes nothing.
use mathlib.Core.Path.{◌∙◌}
use Prim.Native.Nat.{◌+◌}
use borrow.Author.Rules.{rules}
use borrow.Author.Tests.{tests}
use Rattle.std.specs.List.{slice_range}
use Rattle.std.proofs.lemmas.Iterator.{YieldsList-from_slice}
use Rattle.std.proofs.lemmas.Iterator.Search.{all_from_yields_List}
use Rattle.probes.proofs.MarkLaws.{all_range}
use Rattle.probes.proofs.ProbeLaws.{plain_byte}
use Rattle.probes.proofs.probe.plain.Goals as goal

pub returns : goal.returns
returns c =
    let a = c.args in
    all_from_yields_List plain_byte _ _ _ c.all.ensures.ran (YieldsList-from_slice (slice_range a.s.now a.from (a.from + a.k)) cc) (λ x b q k. search (rules, tests))
    ∙ all_range plain_byte a.s.now a.from a.k c.requires
