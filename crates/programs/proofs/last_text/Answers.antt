-- `last_text` leaves what is owed for the last line whole. Assumes nothing.
use native.Mathlib.Omega.{arith}
use Rattle.answers.proofs.Reaching.{end-within}
use Rattle.printed.proofs.Promises.{end_whole}
use Rattle.programs.proofs.last_text.Goals as goal

pub returns : goal.returns
returns c =
    let told = c.finish.ensures.said in
    record { same_buffer = c.finish.ensures.same_buffer; within = (end-within _ _ _ 0 _ _ (omega arith) told).place; whole = end_whole _ _ _ _ _ told c.requires.0 c.requires.1 }
