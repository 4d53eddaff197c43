-- `listing_size` says how long the dump is: its first line, and the total of the lines' lengths. Assumes nothing.
use Prim.Native.Nat.{◌^◌}
use mathlib.Core.Path.{◌≡◌, refl}
use native.Mathlib.Omega.{arith}
use Rattle.std.proofs.Common.{rules}
use Rattle.std.specs.List.{sum_by}
use Rattle.std.proofs.lemmas.Iterator.{YieldsList-from_slice}
use Rattle.std.proofs.lemmas.Iterator.Adapters.{fits_from_length, at_most_from_yields_List}
use Rattle.layout.specs.Layout.{area_max}
use Rattle.dumping.proofs.Counting.{head-size, listing-length, line-few, lines-few}
use Rattle.dumping.proofs.Totals.{line_size, lines-total}
use Rattle.dumping.proofs.sizes.listing_size.Goals as goal

pub sum-lines-requires-clause-fits : goal.sum-lines-requires-clause-fits
sum-lines-requires-clause-fits c =
    fits_from_length _ _ area_max (2 ^ 64) (at_most_from_yields_List (YieldsList-from_slice c.args.offsets.now cc) c.requires.1) c.map.ensures.closure (omega arith) (λ x r q k. search (rules, line-few))

pub overflow_add-result : goal.overflow_add-result
overflow_add-result c =
    let s : c.sum-lines.result ≡ sum_by (line_size c.args.area.now) c.args.offsets.now = search rules in
    let h = head-size _ _ _ _ _ refl c.say_head.ensures.said in
    omega (arith, s, h.1, lines-total c.args.area.now c.args.offsets.now, lines-few c.args.area.now c.requires.0 c.args.offsets.now)

pub returns : goal.returns
returns c =
    let s : c.sum-lines.result ≡ sum_by (line_size c.args.area.now) c.args.offsets.now = search rules in
    let h = head-size _ _ _ _ _ refl c.say_head.ensures.said in
    omega (arith, s, h.0, lines-total c.args.area.now c.args.offsets.now, listing-length c.args.area.now c.args.offsets.now)
