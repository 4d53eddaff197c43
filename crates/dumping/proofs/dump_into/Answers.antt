-- `dump_into` answers and leaves what `fill_steps` says: a law for each way out. Assumes nothing.
use borrow.Author.Rules.{rules}
use Rattle.dumping.proofs.Laws.{tells-fits, tells-counts, tells-few, tells-entries, fill-lists, fill-short, fill-entries}
use Rattle.dumping.proofs.dump_into.Goals as goal

pub slice_bounds-offsets-end : goal.slice_bounds-offsets-end
slice_bounds-offsets-end c = tells-fits _ _ _ _ _ _ (fill-lists _ _ _ _ _ _ c.list.ensures _ c.in_ok-count.was)

pub slice_bounds-offsets-end-2 : goal.slice_bounds-offsets-end-2
slice_bounds-offsets-end-2 c = tells-counts _ _ _ _ _ _ (fill-lists _ _ _ _ _ _ c.list.ensures _ c.in_ok-count.was)

pub listing_size-requires : goal.listing_size-requires
listing_size-requires c =
    let t = fill-lists _ _ _ _ _ _ c.list.ensures _ c.in_ok-count.was in
    (tells-few _ _ _ _ _ _ t, tells-entries _ _ _ _ _ _ t)

pub returns-then-room-listing_size : goal.returns-then-room-listing_size
returns-then-room-listing_size c = fill-short _ _ _ _ _ _ c.list.ensures _ c.in_ok-count.was _ _ c.listing_size.ensures c.if-room-listing_size.true

pub returns : goal.returns
returns c =
    let says = fill-entries _ _ _ _ _ _ c.list.ensures _ c.in_ok-count.was _ _ c.listing_size.ensures c.if-room-listing_size.false _ _ c.say_listing.ensures.said in
    search (rules, says)
