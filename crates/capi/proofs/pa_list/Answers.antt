-- `pa_list` gives the struct that `count_struct` makes of listing's answer; the count fits 32 bits, since an area has few entries. Assumes nothing.
use Rattle.capi.proofs.Laws.{list-fits}
use Rattle.capi.proofs.pa_list.Goals as goal

pub count_of-requires : goal.count_of-requires
count_of-requires c = list-fits _ _ _ _ _ _ c.list.ensures
