-- `pa_name` gives the struct that `part_struct` makes of name's answer; where the name starts fits 32 bits, since the area's length does. Assumes nothing.
use Rattle.property_area.proofs.ValueLaws.{name-stands}
use Rattle.capi.proofs.Laws.{part-fits}
use Rattle.capi.proofs.pa_name.Goals as goal

pub part_of-requires : goal.part_of-requires
part_of-requires c = part-fits _ _ _ (name-stands _ _) _ c.name.ensures
