-- `words::first` gives the place that `first_in` says. Assumes nothing.
use mathlib.Core.Path.{◌≡◌}
use native.Mathlib.Omega.{arith}
use lib.Dec.{eqb}
use Rattle.std.specs.List.{position}
use Rattle.std.proofs.Common.{rules, tests}
use Rattle.std.proofs.lemmas.Iterator.{YieldsList-from_slice}
use Rattle.std.proofs.lemmas.Iterator.Search.{position_from_yields_List}
use Rattle.words.specs.Words.{part}
use Rattle.words.proofs.Laws.{first_found}
use Rattle.words.proofs.first.Goals as goal

pub returns : goal.returns
returns c =
    let found : c.position.result ≡ position (λ x. eqb x c.args.b) (part c.args.s.now c.args.from c.args.to) =
    position_from_yields_List (λ x. eqb x c.args.b) _ _ _ c.position.ensures.ran (YieldsList-from_slice _ c.iter.ensures.rest) (λ x b q k. search (rules, tests)) in
    first_found _ _ _ _ (omega arith) (omega arith) _ found _ (search (rules, tests))
