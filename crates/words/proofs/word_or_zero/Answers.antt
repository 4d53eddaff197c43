-- `words::word_or_zero` gives the number that `little_at` says. Assumes nothing.
use native.Mathlib.Omega.{arith}
use Rattle.words.proofs.Laws.{word_bytes}
use Rattle.words.proofs.word_or_zero.Goals as goal

pub returns : goal.returns
returns c = rw word_bytes (omega (arith, c.from_le_bytes.ensures))
