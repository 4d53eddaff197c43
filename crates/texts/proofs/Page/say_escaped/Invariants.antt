-- `say_escaped` says the escaped text. The loop's invariant: the bytes before this one are said, escaped. Assumes nothing.
use lib.ListN.{take}
use Rattle.texts.specs.Text.{escaped, Says}
use Rattle.texts.proofs.Page.say_escaped.Given as goal

abbrev pub invariant-loop-b : goal.invariant-loop-b
invariant-loop-b l = Says l.fn.self l.self (escaped (take l.b-index l.text))
