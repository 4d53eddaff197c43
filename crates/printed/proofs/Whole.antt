-- Where the output is as large as the programs', the texts stand in it whole: a turn's, the last line's, the file's dump.
use Prim.Native.Nat.{ℕ, ◌+◌, ◌*◌, ◌≤◌, ◌<◌}
use mathlib.Core.Path.{◌≡◌, refl, sym, ◌∙◌}
use mathlib.Core.Bool.{true, false}
use mathlib.Core.List.{List, [], ◌++◌, append_assoc}
use native.Mathlib.Omega.{arith}
use lib.Dec.{eqb}
use lib.ListN.{length, take, drop}
use Rattle.words.proofs.Laws.{bool_cases}
use Rattle.audit.specs.Check.{Judged, Listing, lists}
use Rattle.sound.specs.Sound.{Without}
use Rattle.texts.specs.Text.{Fed, fed, feed, saying, said, line_feed}
use Rattle.texts.proofs.Laws.{said-none}
use Rattle.texts.proofs.Promises.{said-stands}
use Rattle.answers.specs.Answers.{file_max, name_max, text_max, answer_text}
use Rattle.answers.specs.Lines.{lookup_text, turned, turn_steps, end_steps}
use Rattle.dumping.specs.Dump.{dump_text, dumps, dump_listing, file_listing, DumpSays}
use Rattle.printed.specs.Printed.{file_dump, fed_text, fed_held, fed_next, end_text}
use Rattle.printed.proofs.Sizes.{answer-small}
use Rattle.printed.proofs.DumpSize.{dump-small}
use Rattle.printed.proofs.Dumping.{dump-prints}
use Rattle.printed.proofs.Entries.{entries_max}
use Rattle.printed.proofs.Serving.{turn-serves, turn-says}

-- ---- a turn
fed-small : (area : List ℕ) (got : Fed) → length (fed_text area got) ≤ text_max
fed-small area (fed (saying have line) next true) = answer-small area (take have line)
fed-small area (fed (saying have line) next false) = omega arith

pub turn-whole : (area input : List ℕ) (from : ℕ) (line : List ℕ) (have : ℕ) (out : List ℕ) (at has next : ℕ) (grown : List ℕ) (told : ℕ) (after : List ℕ)
    → turned has next grown (saying told after) ≡ turn_steps area input from line have out at → at + text_max ≤ length out
    → take told after ≡ take at out ++ fed_text area (feed input from line have)
turn-whole area input from line have out at has next grown told after e room =
    let small = fed-small area (feed input from line have) in
    let says = (turn-says area input line out from have at has next grown (saying told after) (omega arith) e).0 in
    (said-stands out at (fed_text area (feed input from line have)) told after says (omega arith)).1

-- so what was said and is still owed stays the same over a turn
module _ (area input : List ℕ) (from : ℕ) (line : List ℕ) (have : ℕ) (out : List ℕ) (at has next : ℕ) (grown : List ℕ) (told : ℕ) (after : List ℕ)
    (e : turned has next grown (saying told after) ≡ turn_steps area input from line have out at) (room : at + text_max ≤ length out)
    (f : from ≤ length input) (h : have ≤ length line) (w : Without line_feed (take have line)) where
  pub turn-goes : name_max < length line → (later : List ℕ)
      → take at out ++ lookup_text area (take have line ++ (drop from input ++ later)) ≡ take told after ++ lookup_text area (take has grown ++ (drop next input ++ later))
  turn-goes long later =
      let says = turn-says area input line out from have at has next grown (saying told after) (omega arith) e in
      let text : List ℕ = fed_text area (feed input from line have) in
      rw (turn-serves area input line from have long f h w later, turn-whole area input from line have out at has next grown told after e room, says.1, says.2)
      (sym (append_assoc (take at out) text (lookup_text area (fed_held (feed input from line have) ++ (drop (fed_next (feed input from line have)) input ++ later)))))

-- ---- the last line
pub end-said : (area held out : List ℕ) (told : ℕ) (after : List ℕ) → saying told after ≡ end_steps area held out 0 → text_max ≤ length out → take told after ≡ end_text area held
unfolding end_steps
end-said area held out told after e room =
    bool_cases (eqb (length held) 0)
    (λ t. rw t (said-stands out 0 [] told after (rw t at e ∙ said-none out 0 (omega arith)) (omega arith)).1)
    (λ t. rw t (said-stands out 0 (answer_text area held) told after (rw t at e) (omega (arith, answer-small area held))).1)

-- ---- the dump
pub dump-whole : (area scratch list out : List ℕ) (told : ℕ) (after left noted : List ℕ)
    → DumpSays area scratch list out told after left noted
    → file_max ≤ 4 * length scratch → entries_max ≤ length list → text_max ≤ length out → (judged : Judged area) → take told after ≡ file_dump area judged
dump-whole area scratch list out told after left noted e room many fits judged = by (file_listing area scratch list judged) refl (e judged)
  where
    by : (listing : Listing) → file_listing area scratch list judged ≡ listing → dumps (saying told after) left noted ≡ dump_listing area out listing
        → take told after ≡ file_dump area judged
    by (lists answer l n) is q =
        let text : dump_text area answer n ≡ file_dump area judged = dump-prints area scratch list room many judged answer l n (sym is) in
        let says : saying told after ≡ said out 0 (dump_text area answer n) = cc in
        (said-stands out 0 (file_dump area judged) told after (rw text at says) (omega (arith, dump-small area judged))).1
