-- `say_listing` says the first line and the entries' lines. The loop's invariant: the lines before this one are said. Assumes nothing.
use lib.ListN.{length, take}
use mathlib.Core.List.{◌++◌}
use Rattle.audit.specs.Check.{used_of}
use Rattle.texts.specs.Text.{Says}
use Rattle.dumping.specs.Dump.{head_text, entry_lines}
use Rattle.dumping.proofs.say_listing.Given as goal

abbrev pub invariant-loop-offset : goal.invariant-loop-offset
invariant-loop-offset l = Says l.fn.page l.page (head_text (length l.offsets) (used_of l.area) ++ entry_lines l.area (take l.offset-index l.offsets))
