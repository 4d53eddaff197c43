-- `name_bytes`: the name lies in the area. Assumes nothing.
use Rattle.property_area.proofs.ValueLaws.{name-stands, part_lies}
use Rattle.property_area.proofs.values.name_bytes.Goals as goal

pub part_bytes-requires : goal.part_bytes-requires
part_bytes-requires c = part_lies _ _ _ (name-stands _ _) _ c.name.ensures
