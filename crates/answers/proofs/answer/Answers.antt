-- `answer` says the lookup's line: the value, or the refusal. Assumes nothing.
use Rattle.texts.proofs.Laws.{says-then}
use Rattle.answers.proofs.Laws.{ask_in, answer-shown}
use Rattle.answers.proofs.answer.Goals as goal

pub slice_bounds-say_escaped-count : goal.slice_bounds-say_escaped-count
slice_bounds-say_escaped-count c = (ask_in _ _ _ c.ask.ensures _ _ c.in-Ok.is).low

pub slice_bounds-say_escaped-start : goal.slice_bounds-say_escaped-start
slice_bounds-say_escaped-start c = (ask_in _ _ _ c.ask.ensures _ _ c.in-Ok.is).low

pub slice_bounds-say_escaped-end : goal.slice_bounds-say_escaped-end
slice_bounds-say_escaped-end c = (ask_in _ _ _ c.ask.ensures _ _ c.in-Ok.is).high

pub returns-in-Ok : goal.returns-in-Ok
returns-in-Ok c = rw (answer-shown _ _ _ c.ask.ensures _ _ c.in-Ok.is) at (says-then _ _ c.say_escaped.ensures c.say.ensures)
