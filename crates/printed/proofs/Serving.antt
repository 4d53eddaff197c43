-- The lookup over an input that comes in pieces says what it says for the whole input: turn by turn, then at the end, then over a run.
use Prim.Native.Nat.{ℕ, suc, ◌+◌, ◌-◌, ◌≤◌, ◌<◌, min}
use mathlib.Core.Path.{◌≡◌, refl, sym, ap, ◌∙◌}
use mathlib.Core.Bool.{true, false}
use mathlib.Core.List.{List, [], ◌∷◌, ◌++◌, append_assoc, append-nil}
use native.Mathlib.Numerals.{add-one}
use native.Mathlib.Omega.{arith}
use borrow.Author.Tests.{lt-leb, ne_eqb, leb-true, leb-false, ltb-true}
use lib.Dec.{leb}
use lib.ListN.{length, get_or, take, drop, length-append, length-take, length-drop, take-append-drop, drop_of_length-le}
use lib.Seq.{length-take-le, take_all, drop-cons, drop-drop, get_or-take, get_or-drop}
use Rattle.words.specs.Words.{part}
use Rattle.words.proofs.Laws.{bool_cases, first-low}
use Rattle.words.proofs.Promises.{first-none}
use Rattle.names.specs.Names.{on_first}
use Rattle.sound.specs.Sound.{Without}
use Rattle.sound.proofs.Holding.{without-append}
use Rattle.texts.specs.Text.{Said, saying, said, line_feed, piece_end, Fed, fed, feed}
use Rattle.texts.proofs.Laws.{said-none, fed-parts}
use Rattle.texts.proofs.Promises.{line-says, ended-says}
use Rattle.answers.specs.Answers.{name_max, ask_steps, answer_text}
use Rattle.answers.specs.Lines.{names_in, answers_text, lookup_text, turned, turn_fed, turn_steps}
use Rattle.printed.specs.Printed.{fed_text, fed_held, fed_next, end_text, Served, ends, reads, turns, joined}

-- ---- a name that is cut above the limit is answered like the whole name
long_same : (area a b : List ℕ) → name_max < length a → name_max < length b → answer_text area a ≡ answer_text area b
unfolding answer_text ask_steps
long_same area a b h k = rw (lt-leb (length a) name_max h, lt-leb (length b) name_max k)

pub answer-cut : (area name : List ℕ) (k : ℕ) → name_max < k → answer_text area (take k name) ≡ answer_text area name
answer-cut area name k h =
    bool_cases (leb (length name) k)
    (λ t. rw (take_all k name (leb-true (length name) k t)))
    (λ t.
    let l : k < length name = leb-false (length name) k t in
    long_same area (take k name) name (rw (length-take-le k name (omega arith)) h) (omega arith))

-- ---- bytes without line feed belong to the first name of what comes behind them
abbrev on_names : List ℕ → List (List ℕ) → List (List ℕ)
on_names [] names = names
on_names (b ∷ bs) names = on_first b (on_names bs names)

names-behind : (held rest : List ℕ) → Without line_feed held → names_in (held ++ rest) ≡ on_names held (names_in rest)
unfolding names_in
names-behind [] rest w = refl
names-behind (b ∷ bs) rest w =
    rw (ne_eqb b line_feed (w 0 (omega arith)), names-behind bs rest (λ k l. w (suc k) (omega arith)))

names-first : (held name : List ℕ) (names : List (List ℕ)) → on_names held (name ∷ names) ≡ (held ++ name) ∷ names
names-first [] name names = refl
names-first (b ∷ bs) name names = rw (names-first bs name names)

names-only : (b : ℕ) (bs : List ℕ) → on_names (b ∷ bs) [] ≡ (b ∷ bs) ∷ []
names-only b [] = refl
names-only b (c ∷ bs) = rw (names-only c bs)

names-ended : (held rest : List ℕ) → Without line_feed held → names_in (held ++ line_feed ∷ rest) ≡ held ∷ names_in rest
unfolding names_in
names-ended held rest w = names-behind held (line_feed ∷ rest) w ∙ names-first held [] (names_in rest) ∙ rw (append-nil held)

-- ---- what is held of a line may be cut above the limit too
answers-same : (area a b : List ℕ) (names : List (List ℕ)) → name_max < length a → name_max < length b
    → answers_text area (on_names a names) ≡ answers_text area (on_names b names)
unfolding answers_text
answers-same area [] b [] h k = absurd (omega arith)
answers-same area (x ∷ a) [] [] h k = absurd (omega arith)
answers-same area (x ∷ a) (y ∷ b) [] h k = rw (names-only x a, names-only y b, long_same area (x ∷ a) (y ∷ b) h k)
answers-same area a b (name ∷ names) h k =
    rw (
      names-first a name names,
      names-first b name names,
      long_same area (a ++ name) (b ++ name) (rw length-append (omega arith)) (rw length-append (omega arith)),
    )

without-take : (b k : ℕ) (bytes : List ℕ) → Without b bytes → Without b (take k bytes)
without-take b k bytes w i l e =
    let s : length (take k bytes) ≡ min k (length bytes) = length-take k bytes in
    w i (omega arith) (sym (get_or-take k bytes i 0 (omega arith)) ∙ e)

held_cut : (area held later : List ℕ) (k : ℕ) → name_max < k → Without line_feed held
    → lookup_text area (held ++ later) ≡ lookup_text area (take k held ++ later)
held_cut area held later k h w =
    bool_cases (leb (length held) k)
    (λ t. rw (take_all k held (leb-true (length held) k t)))
    (λ t.
    let l : k < length held = leb-false (length held) k t in
    rw (names-behind held later w, names-behind (take k held) later (without-take line_feed k held w))
    (answers-same area held (take k held) (names_in later) (omega arith) (rw (length-take-le k held (omega arith)) h)))

-- ---- a line grown by a piece: it goes on, or it has ended and is answered
module _ (area held piece later : List ℕ) (k : ℕ) (room : name_max < k) (w : Without line_feed (held ++ piece)) where
  held-serves : lookup_text area (held ++ (piece ++ later)) ≡ lookup_text area (take k (held ++ piece) ++ later)
  held-serves = rw (← (append_assoc held piece later)) (held_cut area (held ++ piece) later k room w)

  line-serves : (rest : List ℕ)
      → lookup_text area (held ++ ((piece ++ line_feed ∷ rest) ++ later)) ≡ answer_text area (take k (held ++ piece)) ++ lookup_text area (rest ++ later)
  unfolding answers_text
  line-serves rest =
      rw (
        append_assoc piece (line_feed ∷ rest) later,
        ← (append_assoc held piece (line_feed ∷ (rest ++ later))),
        names-ended (held ++ piece) (rest ++ later) w,
        answer-cut area (held ++ piece) k room,
      )

-- ---- a piece has no line feed; one stands behind it, or nothing
abbrev piece_of : List ℕ → ℕ → List ℕ
piece_of input from = part input from (piece_end input from)

module _ (input : List ℕ) (from : ℕ) where
  piece-without : Without line_feed (piece_of input from)
  piece-without i l e =
      let s = length-take (piece_end input from - from) (drop from input) in
      first-none line_feed input from (length input - from) (from + i) (omega arith) (omega arith)
      (sym (get_or-drop from input i 0) ∙ sym (get_or-take (piece_end input from - from) (drop from input) i 0 (omega arith)) ∙ e)

  piece-ended : piece_end input from < length input → get_or input (piece_end input from) 0 ≡ line_feed
      → drop from input ≡ piece_of input from ++ line_feed ∷ drop (piece_end input from + 1) input
  piece-ended h there =
      let reach : from + (piece_end input from - from) ≡ piece_end input from = omega (arith, first-low line_feed input from (length input - from)) in
      sym (take-append-drop (piece_end input from - from) (drop from input))
      ∙ rw (drop-drop, reach, drop-cons input (piece_end input from) 0 h, there, add-one)

  piece-whole : piece_end input from ≡ length input → drop from input ≡ piece_of input from
  piece-whole e = sym (take_all (piece_end input from - from) (drop from input) (rw (length-drop, e) (omega arith)))

-- ---- a turn, by what became of the line
module _ (input line : List ℕ) (from have : ℕ) (f : from ≤ length input) (h : have ≤ length line) (w : Without line_feed (take have line)) where
  all_without : Without line_feed (take have line ++ piece_of input from)
  all_without = without-append line_feed (take have line) (piece_of input from) w (piece-without input from)

  fed-holds : (got : Fed) → got ≡ feed input from line have → Without line_feed (fed_held got)
  fed-holds (fed (saying has grown) next true) e = λ k l. absurd (omega arith)
  fed-holds (fed (saying has grown) next false) e =
      rw (line-says input from line have has next false grown e f h) (without-take line_feed (length line) (take have line ++ piece_of input from) all_without)

  module _ (area later : List ℕ) (room : name_max < length line) where
    fed-serves : (got : Fed) → got ≡ feed input from line have
        → lookup_text area (take have line ++ (drop from input ++ later)) ≡ fed_text area got ++ lookup_text area (fed_held got ++ (drop (fed_next got) input ++ later))
    fed-serves (fed (saying has grown) next true) e =
        let on = fed-parts input from line have e in
        let more : piece_end input from < length input = ltb-true (piece_end input from) (length input) (sym on.2) in
        let n : next ≡ piece_end input from + 1 = omega (arith, on.1) in
        let there : get_or input (piece_end input from) 0 ≡ line_feed = (ended-says input from line have has next true grown e f h).0 refl in
        rw (n, piece-ended input from more there, line-says input from line have has next true grown e f h)
        (line-serves area (take have line) (piece_of input from) later (length line) room all_without (drop (piece_end input from + 1) input))
    fed-serves (fed (saying has grown) next false) e =
        let all : piece_end input from ≡ length input = (ended-says input from line have has next false grown e f h).1 refl in
        let n : length input ≤ next = omega (arith, (fed-parts input from line have e).1) in
        rw (drop_of_length-le input {i = next} n, piece-whole input from all, line-says input from line have has next false grown e f h)
        (held-serves area (take have line) (piece_of input from) later (length line) room all_without)

-- ---- what is held and left to read has the turn's text, then that of what is held and left afterwards; no line feed is held
pub turn-serves : (area input line : List ℕ) (from have : ℕ) → name_max < length line → from ≤ length input → have ≤ length line
    → Without line_feed (take have line) → (later : List ℕ)
    → lookup_text area (take have line ++ (drop from input ++ later))
    ≡ fed_text area (feed input from line have) ++ lookup_text area (fed_held (feed input from line have) ++ (drop (fed_next (feed input from line have)) input ++ later))
turn-serves area input line from have room f h w later = fed-serves input line from have f h w area later room (feed input from line have) refl

pub turn_holds : (input line : List ℕ) (from have : ℕ) → from ≤ length input → have ≤ length line
    → Without line_feed (take have line) → Without line_feed (fed_held (feed input from line have))
turn_holds input line from have f h w = fed-holds input line from have f h w (feed input from line have) refl

-- what `turn` says, and what the line and the input are then
pub turn-says : (area input line out : List ℕ) (from have at has next : ℕ) (grown : List ℕ) (s : Said) → at ≤ length out
    → turned has next grown s ≡ turn_steps area input from line have out at
    → (s ≡ said out at (fed_text area (feed input from line have))) × (take has grown ≡ fed_held (feed input from line have)) × (next ≡ fed_next (feed input from line have))
unfolding turn_steps
turn-says area input line out from have at has next grown s h e = by (feed input from line have) e
  where
    by : (got : Fed) → turned has next grown s ≡ turn_fed area out at got → (s ≡ said out at (fed_text area got)) × (take has grown ≡ fed_held got) × (next ≡ fed_next got)
    by (fed (saying kept full) on true) q = let z : has ≡ 0 = cc in ((cc), rw z, (cc))
    by (fed (saying kept full) on false) q = let t : s ≡ saying at out = cc in (t ∙ said-none out at h, (cc), (cc))

-- ---- the input's end, and a run from what is held to there: all that is said is the text of the whole input
pub end-serves : (area held : List ℕ) → Without line_feed held → lookup_text area held ≡ end_text area held
unfolding names_in answers_text
end-serves area [] w = refl
end-serves area (b ∷ bs) w =
    let one : names_in (b ∷ bs) ≡ (b ∷ bs) ∷ [] = ap names_in (sym (append-nil (b ∷ bs))) ∙ names-behind (b ∷ bs) [] w ∙ names-only b bs in
    rw (one, ne_eqb (length (b ∷ bs)) 0 (λ z. omega arith)) (append-nil (answer_text area (b ∷ bs)))

pub served : (area held : List ℕ) (pieces : List (List ℕ)) (text : List ℕ) → Without line_feed held → Served area held pieces text
    → text ≡ lookup_text area (held ++ joined pieces)
unfolding joined
served area _ _ _ w (ends held) = rw (append-nil held) (sym (end-serves area held w))
served area _ _ _ w (reads held pieces text run) = served area held pieces text w run
served area _ _ _ w (turns input line from have pieces text room f h run) =
    rw (turn-serves area input line from have room f h w (joined pieces))
    (ap (λ (x : List ℕ). fed_text area (feed input from line have) ++ x) (served area _ _ text (turn_holds input line from have f h w) run))
