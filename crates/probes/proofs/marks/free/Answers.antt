-- `marks::free` says whether all the words are zero: a test of each of them. Assumes nothing.
use mathlib.Core.Path.{◌∙◌}
use lib.Dec.{eqb}
use Prim.Native.Nat.{◌+◌}
use borrow.Author.Rules.{rules}
use borrow.Author.Tests.{tests}
use Rattle.std.specs.List.{slice_range}
use Rattle.std.proofs.lemmas.Iterator.{YieldsList-from_slice}
use Rattle.std.proofs.lemmas.Iterator.Search.{all_from_yields_List}
use Rattle.probes.proofs.MarkLaws.{all_range}
use Rattle.probes.proofs.marks.free.Goals as goal

pub returns : goal.returns
returns c =
    let a = c.args in
    all_from_yields_List (λ b. eqb b 0) _ _ _ c.all.ensures.ran (YieldsList-from_slice (slice_range a.marks.now a.n (a.n + a.k)) cc) (λ x b q k. search (rules, tests))
    ∙ all_range (λ b. eqb b 0) a.marks.now a.n a.k c.requires
