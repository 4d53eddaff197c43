-- `value_bytes`: the value lies in the area. Assumes nothing.
use Rattle.property_area.proofs.ValueLaws.{value-stands, part_lies}
use Rattle.property_area.proofs.values.value_bytes.Goals as goal

pub part_bytes-requires : goal.part_bytes-requires
part_bytes-requires c = part_lies _ _ _ (value-stands _ _) _ c.value.ensures
