-- `pa_value` gives the struct that `part_struct` makes of value's answer; where the value starts fits 32 bits, since the area's length does. Assumes nothing.
use Rattle.property_area.proofs.ValueLaws.{value-stands}
use Rattle.capi.proofs.Laws.{part-fits}
use Rattle.capi.proofs.pa_value.Goals as goal

pub part_of-requires : goal.part_of-requires
part_of-requires c = part-fits _ _ _ (value-stands _ _) _ c.value.ensures
