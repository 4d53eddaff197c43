-- The room that was given holds the entry, and ends where the next room will begin. Assumes nothing.
use native.Mathlib.Omega.{arith}
use lib.ListN.{length}
use Rattle.layout.specs.Layout.{entry_takes}
use Rattle.allocation.proofs.StepLaws.{placed_at}
use Rattle.allocation.proofs.AllocateLaws.{Room, allocate-room}
use Rattle.entries.proofs.new_prop_info.Goals as goal
use Rattle.entries.proofs.new_prop_info.Goals.{In_ok-at}

-- what is known of the entry's room
room : (c : In_ok-at) → Room c.args.area.now c.allocate_obj.new.area (entry_takes (length c.args.name.now)) c.in_ok-at.at
room c = allocate-room _ _ _ _ (placed_at _ _ _ c.allocate_obj.ensures _ c.in_ok-at.was)

pub new_short-requires : goal.new_short-requires
new_short-requires c =
    let r = room (goal.at.new_short-requires c).In_ok-at in
    (omega (arith, r.fits, r.kept), c.if-value-lt-VALUE_MAX.true)

pub new_long-requires : goal.new_long-requires
new_long-requires c =
    let r = room (goal.at.new_long-requires c).In_ok-at in
    (omega (arith, r.fits, r.kept), omega (arith, r.next (omega arith)))
