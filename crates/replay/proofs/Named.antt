-- Laws that the papers name and that no proof here needs any more.
use Prim.Native.Nat.{ℕ, ◌+◌, ◌-◌, ◌*◌, ◌≤◌}
use mathlib.Core.Path.{◌≡◌}
use mathlib.Core.List.{List}
use native.Mathlib.Omega.{arith}
use borrow.Author.Tests.{eq-eqb, ne_eqb, le-leb}
use lib.Dec.{eqb}
use lib.ListN.{length}
use Rattle.std.specs.Prelude.{Option, Some, None, Result, Ok}
use Rattle.words.specs.Words.{little_at}
use Rattle.layout.specs.declared.refusal.Refusal.{Refusal}
use Rattle.layout.specs.declared.text.Span.{Span}
use Rattle.layout.specs.Refusals.{Answer}
use Rattle.property_area.specs.Value.{Part, part_answer}
use Rattle.property_area.proofs.ValueLaws.{part_at}
use Rattle.replay.specs.declared.records.Step.{Step}
use Rattle.replay.specs.declared.records.End.{End}
use Rattle.replay.specs.declared.records.Parts.{Parts}
use Rattle.replay.specs.declared.steps.Answers.{Answers}
use Rattle.replay.specs.Records.{step_of, arguments_of, strings_of, answers_of, word_of, parts_from, parts_at, read_parts, read_record}
use Rattle.replay.specs.Steps.{answers, part_reply}
use Rattle.replay.specs.Turns.{agrees}

-- ---- opcodes are 1 to 9
pub no_step : (n : ℕ)
    → (n ≡ 1 → ⊥) → (n ≡ 2 → ⊥) → (n ≡ 3 → ⊥) → (n ≡ 4 → ⊥) → (n ≡ 5 → ⊥) → (n ≡ 6 → ⊥) → (n ≡ 7 → ⊥) → (n ≡ 8 → ⊥) → (n ≡ 9 → ⊥)
    → None ≡ step_of n
unfolding step_of
no_step n a b c d e f g h i =
    rw (ne_eqb n 1 a, ne_eqb n 2 b, ne_eqb n 3 c, ne_eqb n 4 d, ne_eqb n 5 e, ne_eqb n 6 f, ne_eqb n 7 g, ne_eqb n 8 h, ne_eqb n 9 i)

-- ---- words
pub word_none : (vectors : List ℕ) (from count index : ℕ) → count ≤ index → 0 ≡ word_of vectors from count index
unfolding word_of
word_none vectors from count index h = rw (le-leb count index h)

-- ---- a record's parts
-- count is how many byte strings there are, one and other are their lengths, answers is how many answers
module _
    (vectors : List ℕ)
    (step : Step)
    (from arguments : ℕ)
    (a : arguments ≡ arguments_of step)
    (count : ℕ)
    (n : count ≡ strings_of step)
    (one other : ℕ)
    (o : one ≡ word_of vectors (from + 4 * arguments - 4 * count) count 0)
    (p : other ≡ word_of vectors (from + 4 * arguments - 4 * count) count 1)
    (answers : ℕ)
    (m : answers ≡ answers_of step)
  where
    lengths-known : parts_at vectors step from ≡ parts_from vectors step from one other
    unfolding parts_at
    lengths-known = rw (o, p, n, a)

    pub parts_whole : from + 4 * arguments + one + other + 4 * answers + 4 ≤ length vectors
        → (first second : ℕ) → first ≡ word_of vectors from arguments 0 → second ≡ word_of vectors from arguments 1
        → Ok
        (record {
          step = step;
          first = first;
          second = second;
          strings = from + 4 * arguments;
          middle = from + 4 * arguments + one;
          answers = from + 4 * arguments + one + other;
          checksum = from + 4 * arguments + one + other + 4 * answers;
        })
        ≡ read_parts vectors (parts_at vectors step from)
    parts_whole h first second f s =
        rw (lengths-known, le-leb ((parts_from vectors step from one other).checksum + 4) (length vectors) (omega arith), f, s, a, m)

-- ---- a record by its place: o is what the word at the place stands for
module _
    (vectors : List ℕ)
    (at : ℕ)
    (h : at + 4 ≤ length vectors)
    (w : ℕ)
    (e : w ≡ little_at 4 vectors at)
    (o : Option Step)
    (f : o ≡ step_of w)
  where
    pub record_of : (step : Step) → o ≡ Some step
        → (r : Result Parts End) → r ≡ read_parts vectors (parts_at vectors step (at + 4)) → r ≡ read_record vectors at
    unfolding read_record
    record_of step g r k = rw (le-leb (at + 4) (length vectors) h, ← e, ← f, g) k

-- ---- the comparison: one, two and three are the words that the record expects
module _
    (vectors : List ℕ)
    (p : Parts)
    (given : Answers)
    (sum count : ℕ)
    (n : count ≡ answers_of p.step)
    (one : ℕ)
    (e : one ≡ word_of vectors p.answers count 0)
    (f : one ≡ given.first)
    (two : ℕ)
    (g : two ≡ word_of vectors p.answers count 1)
    (k : two ≡ given.second)
    (three : ℕ)
    (l : three ≡ word_of vectors p.answers count 2)
  where
    pub sum_tells : three ≡ given.third → (w : ℕ) → w ≡ little_at 4 vectors p.checksum → eqb w sum ≡ agrees vectors p given sum
    unfolding agrees
    sum_tells h w m =
        rw (← n, ← e, eq-eqb one given.first f, ← g, eq-eqb two given.second k, ← l, eq-eqb three given.third h, ← m)

-- ---- what a call's answer becomes: s is what value answered
module _ (answer : Answer Part) (s : Result Span Refusal) (e : part_answer s ≡ answer) where
  pub valued_bytes : (from to : ℕ) → s ≡ part_at from to → answers 0 from (to - from) ≡ part_reply answer
  valued_bytes from to g = rw (← e, g)
