-- `pa_dump` gives the struct that `count_struct` makes of the dump's answer; the text's length fits 32 bits, since it is at most four times the area's. Assumes nothing.
use Rattle.capi.proofs.Laws.{dump-fits}
use Rattle.capi.proofs.pa_dump.Goals as goal

pub count_of-requires : goal.count_of-requires
count_of-requires c = dump-fits _ _ _ _ _ _ _ _ c.dump_into.ensures
