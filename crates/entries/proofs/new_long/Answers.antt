-- The value has room in the area, and stands behind the entry, as follows from where its room was given. Assumes nothing.
use native.Mathlib.Nat.{zero-add}
use native.Mathlib.Omega.{arith}
use lib.ListN.{length}
use Rattle.layout.specs.Layout.{value_takes}
use Rattle.allocation.proofs.StepLaws.{placed_at}
use Rattle.allocation.proofs.AllocateLaws.{Room, allocate-room}
use Rattle.entries.proofs.new_long.Goals as goal
use Rattle.entries.proofs.new_long.Goals.{In_ok-far}

-- what is known of the value's room
room : (c : In_ok-far) → Room c.args.area.now c.allocate_obj.new.area (value_takes (length c.args.value.now)) c.in_ok-far.far
room c = allocate-room _ _ _ _ (placed_at _ _ _ (rw zero-add at c.allocate_obj.ensures) _ c.in_ok-far.was)

pub overflow_add-far : goal.overflow_add-far
overflow_add-far c = omega (arith, (room (goal.at.overflow_add-far c).In_ok-far).small)

pub put_text-requires : goal.put_text-requires
put_text-requires c =
    let r = room (goal.at.put_text-requires c).In_ok-far in
    omega (arith, r.fits, r.kept)

pub overflow_sub-far : goal.overflow_sub-far
overflow_sub-far c = omega (arith, (room (goal.at.overflow_sub-far c).In_ok-far).begins)

pub overflow_cast-far : goal.overflow_cast-far
overflow_cast-far c = omega (arith, (room (goal.at.overflow_cast-far c).In_ok-far).small)
