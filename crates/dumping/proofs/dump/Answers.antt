-- `dump` leaves what `dump_steps` says: the text of the listing, or its refusal. Assumes nothing.
use borrow.Author.Rules.{rules}
use Rattle.dumping.proofs.Laws.{tells-fits, tells-counts, file-lists, dump-entries, dump-refused}
use Rattle.dumping.proofs.dump.Goals as goal
use goal.{in-Ok, in-Err}

pub slice_bounds-say_listing-end : goal.slice_bounds-say_listing-end
slice_bounds-say_listing-end c = tells-fits _ _ _ _ _ _ (file-lists _ _ _ _ _ _ c.list_file.ensures _ c.in-Ok.is)

pub slice_bounds-say_listing-end-in-Ok : goal.slice_bounds-say_listing-end-in-Ok
slice_bounds-say_listing-end-in-Ok c = tells-counts _ _ _ _ _ _ (file-lists _ _ _ _ _ _ c.list_file.ensures _ c.in-Ok.is)

pub returns : goal.returns
returns c =
    elim c.match-list_file.branch [
      | in-Ok w ↦
          let says = dump-entries _ _ _ _ _ _ c.list_file.ensures _ w.in-Ok.is _ _ _ w.say_listing.ensures.said in
          search (rules, says)
      | in-Err w ↦
          let says = dump-refused _ _ _ _ _ _ c.list_file.ensures _ w.in-Err.is _ _ _ w.say_refused.ensures.said in
          search (rules, says)
    ]
