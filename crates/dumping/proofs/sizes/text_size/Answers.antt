-- `text_size` says how long the escaped text is: the total of its bytes' lengths. Assumes nothing.
use Prim.Native.Nat.{◌^◌}
use native.Mathlib.Omega.{arith}
use Rattle.std.proofs.Common.{rules}
use Rattle.std.proofs.lemmas.Iterator.{YieldsList-from_slice}
use Rattle.std.proofs.lemmas.Iterator.Adapters.{fits_from_length, at_most_from_yields_List}
use Rattle.layout.specs.Layout.{area_max}
use Rattle.texts.proofs.Laws.{byte-few}
use Rattle.dumping.proofs.sizes.text_size.Goals as goal

pub sum-requires-clause-fits : goal.sum-requires-clause-fits
sum-requires-clause-fits c =
    fits_from_length _ _ area_max (2 ^ 64) (at_most_from_yields_List (YieldsList-from_slice c.args.text.now cc) c.requires) c.map.ensures.closure (omega arith) (λ x r q k. search (rules, byte-few))
