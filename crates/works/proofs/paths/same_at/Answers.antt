-- `paths::same_at` says whether all the bytes are the same: a test at each place. Assumes nothing.
use mathlib.Core.Path.{◌∙◌}
use native.Mathlib.Omega.{arith}
use borrow.Author.Rules.{rules}
use borrow.Author.Tests.{tests}
use Rattle.walk.specs.Model.{same_at}
use Rattle.std.proofs.lemmas.Iterator.{YieldsList-from_range}
use Rattle.std.proofs.lemmas.Iterator.Search.{all_from_yields_List}
use Rattle.works.proofs.PathLaws.{all-places}
use Rattle.works.proofs.paths.same_at.Goals as goal

pub returns : goal.returns
returns c =
    let a = c.args in
    all_from_yields_List (same_at a.s.now a.x a.y) _ _ _ c.all.ensures.ran (YieldsList-from_range 0 a.k a.k (cc) (omega arith)) (λ x b q k. search (rules, tests))
    ∙ all-places (same_at a.s.now a.x a.y) 0 a.k
