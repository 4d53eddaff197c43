-- `tour` ends as `walk_at` does, with its entries counted and noted: a law for each way out. The loop keeps `Going`. Assumes nothing.
use Rattle.std.specs.Prelude.{Ok}
use Rattle.tour.proofs.TourLaws.{Going, begun_at}
use Rattle.tour.proofs.touring.tour.Given as goal

abbrev pub invariant-loop : goal.invariant-loop
invariant-loop l = Going l.used.area.now l.used.mark (begun_at l.used.area.now l.used.mark l.fn.marks) l.fn.marks l.fn.list (Ok l.w) l.marks l.list l.counter l.entries
