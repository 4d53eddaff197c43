-- Laws of specs/Text.antt, for each way out of the code: which bytes are shown, digits, a byte's stores, a turn of the escaping loop, a piece fed;
-- and what is promised of texts: where they stand, how long they are.
use Prim.Native.Nat.{ℕ, zero, suc, ◌+◌, ◌-◌, ◌*◌, min, ◌≤◌, ◌<◌}
use mathlib.Core.Path.{◌≡◌, refl, sym, ap, ◌∙◌}
use mathlib.Core.Bool.{Bool, true, false}
use mathlib.Core.List.{List, [], ◌∷◌, ◌++◌, append_assoc, append-nil}
use native.Mathlib.Nat.{add-zero, sub_self}
use native.Mathlib.Numerals.{add-one}
use native.Mathlib.Omega.{arith}
use borrow.Author.Tests.{lt-ltb, le-ltb, leb-true, leb-false}
use lib.Dec.{leb, ltb}
use lib.ListN.{length, get_or, set, take, length-append, length-set}
use lib.Seq.{append_snoc, take-suc, take-suc-set, take_all, set_out}
use Rattle.words.specs.Words.{part, put}
use Rattle.words.proofs.Laws.{bool_cases, put-length, first-end, first-low, first-high}
use Rattle.words.proofs.StoreLaws.{put-append}
use Rattle.texts.specs.Text.{prints_as_is, escaped_byte, escaped, saying, said, Says, line_feed, piece_end, fed, feed}
use Rattle.texts.specs.declared.Page.{Page}

-- ---- what is put behind a buffer's end is dropped
pub put-past : (s : List ℕ) (at : ℕ) (bs : List ℕ) → length s ≤ at → put s at bs ≡ s
unfolding put
put-past s at [] h = refl
put-past s at (b ∷ bs) h = rw (set_out s at b h) (put-past s (at + 1) bs (omega arith))

pub put-cut : (s : List ℕ) (at : ℕ) (bs : List ℕ) (k : ℕ) → length s ≤ at + k → put s at (take k bs) ≡ put s at bs
unfolding put
put-cut s at [] zero h = refl
put-cut s at [] (suc k) h = refl
put-cut s at (b ∷ bs) zero h = sym (put-past s at (b ∷ bs) (omega arith))
put-cut s at (b ∷ bs) (suc k) h = put-cut (set s at b) (at + 1) bs k (rw length-set (omega arith))

-- ---- a text said: as far as it fits, and one text after another
module _ (out : List ℕ) (at : ℕ) where
  pub say-says : (text : List ℕ) (start kept : ℕ) (after : List ℕ) → start ≡ min at (length out) → kept ≡ min (length text) (length out - start)
      → after ≡ put out start (take kept text) → saying (start + kept) after ≡ said out at text
  unfolding said
  say-says text start kept after s k p =
      bool_cases (leb at (length out))
      (λ t.
      let h : at ≤ length out = leb-true at (length out) t in
      let a : start ≡ at = omega arith in
      let n : start + kept ≡ min (at + length text) (length out) = omega arith in
      rw (n, p, a, fits at text kept (rw (← a) k)))
      (λ t.
      let h : length out < at = leb-false at (length out) t in
      let n : start + kept ≡ min (at + length text) (length out) = omega arith in
      rw (n, p, put-past out start (take kept text) (omega arith), put-past out at text (omega arith)))
    where
      fits : (from : ℕ) (bs : List ℕ) (keep : ℕ) → keep ≡ min (length bs) (length out - from) → put out from (take keep bs) ≡ put out from bs
      fits from bs keep e =
          bool_cases (leb (length bs) keep)
          (λ t. rw (take_all keep bs (leb-true (length bs) keep t)))
          (λ t. put-cut out from bs keep (omega (arith, leb-false (length bs) keep t)))

  pub said-append : (a b : List ℕ) (next : ℕ) (after : List ℕ) → saying next after ≡ said out at a → said after next b ≡ said out at (a ++ b)
  unfolding said
  said-append a b next after e =
      let n : next ≡ min (at + length a) (length out) = cc in
      let p : after ≡ put out at a = cc in
      let l : length after ≡ length out = rw p (put-length out at a) in
      let m : min (next + length b) (length after) ≡ min (at + length (a ++ b)) (length out) = rw length-append (omega arith) in
      rw (m, put-append, ← p) (ap (saying (min (at + length (a ++ b)) (length out))) (goes n l))
    where
      goes : next ≡ min (at + length a) (length out) → length after ≡ length out → put after next b ≡ put after (at + length a) b
      goes n l =
          bool_cases (leb (at + length a) (length out))
          (λ t. let h : next ≡ at + length a = omega (arith, leb-true (at + length a) (length out) t) in rw h)
          (λ t.
          let h = leb-false (at + length a) (length out) t in
          put-past after next b (omega arith) ∙ sym (put-past after (at + length a) b (omega arith)))

  -- the next place is no further than the end, and the length stays
  pub said-within : (text : List ℕ) (next : ℕ) (after : List ℕ) → saying next after ≡ said out at text → (next ≤ length after) × (length after ≡ length out)
  unfolding said
  said-within text next after e =
      let n : next ≡ min (at + length text) (length out) = cc in
      let p : after ≡ put out at text = cc in
      let l : length after ≡ length out = rw p (put-length out at text) in
      (omega arith, l)

-- nothing said
pub said-none : (out : List ℕ) (at : ℕ) → at ≤ length out → saying at out ≡ said out at []
unfolding said put
said-none out at h = let m : at ≡ min (at + 0) (length out) = omega arith in ap (λ z. saying z out) m

-- one text, then another from the next place on
pub said-then : (out : List ℕ) (at : ℕ) (a b : List ℕ) {next last : ℕ} {after end : List ℕ} → saying next after ≡ said out at a → saying last end ≡ said after next b
    → saying last end ≡ said out at (a ++ b)
said-then out at a b {next} {last} {after} {end} e f = f ∙ said-append out at a b next after e

pub says-then : {before mid after : Page} (a b : List ℕ) → Says before mid a → Says mid after b → Says before after (a ++ b)
says-then {before} a b s t =
    record { same_buffer = t.same_buffer ∙ s.same_buffer; said = said-then before.out.now before.at a b s.said t.said }

-- ---- a text that fits stands there whole, behind what stood before it
pub put_front : (s : List ℕ) (at : ℕ) (bs : List ℕ) → at + length bs ≤ length s → take (at + length bs) (put s at bs) ≡ take at s ++ bs
unfolding put
put_front s at [] h = rw add-zero (sym (append-nil (take at s)))
put_front s at (b ∷ bs) h =
    let e : at + suc (length bs) ≡ at + 1 + length bs = omega arith in
    rw e (put_front (set s at b) (at + 1) bs (simp length-set (omega arith)) ∙ rw (add-one, take-suc-set s at b (omega arith)) (append_snoc (take at s) b bs))

pub said-stands : (out : List ℕ) (at : ℕ) (text : List ℕ) (next : ℕ) (after : List ℕ) → saying next after ≡ said out at text → at + length text ≤ length out
    → (next ≡ at + length text) × (take next after ≡ take at out ++ text)
unfolding said
said-stands out at text next after e h =
    let m : next ≡ min (at + length text) (length out) = cc in
    let p : after ≡ put out at text = cc in
    let n : next ≡ at + length text = omega arith in
    (n, rw (n, p) (put_front out at text h))

-- ---- a text escaped piece by piece; a byte escapes to at most four
pub escaped-append : (a b : List ℕ) → escaped (a ++ b) ≡ escaped a ++ escaped b
unfolding escaped
escaped-append [] b = refl
escaped-append (x ∷ a) b = rw (escaped-append a b) (sym (append_assoc (escaped_byte x) (escaped a) (escaped b)))

pub byte-few : (b : ℕ) → length (escaped_byte b) ≤ 4
unfolding escaped_byte
byte-few b = bool_cases (prints_as_is b) (λ t. rw t (omega arith)) (λ t. rw t (omega arith))

pub escaped-few : (text : List ℕ) → length (escaped text) ≤ 4 * length text
unfolding escaped
escaped-few [] = omega arith
escaped-few (b ∷ bs) = omega (arith, length-append (escaped_byte b) (escaped bs), byte-few b, escaped-few bs)

-- ---- a byte that prints as it is takes one store, and none behind the buffer's end
pub byte-stored : (out : List ℕ) (at b : ℕ) → prints_as_is b ≡ true → at < length out → saying (at + 1) (set out at b) ≡ said out at (escaped_byte b)
unfolding escaped_byte said put
byte-stored out at b p h =
    let m : at + 1 ≡ min (at + 1) (length out) = omega arith in
    rw p (ap (λ (n : ℕ). saying n (set out at b)) m)

pub byte-dropped : (out : List ℕ) (at b : ℕ) → prints_as_is b ≡ true → length out ≤ at → saying (length out) out ≡ said out at (escaped_byte b)
unfolding escaped_byte said
byte-dropped out at b p h =
    let m : length out ≡ min (at + 1) (length out) = omega arith in
    rw p (rw (put-past out at (b ∷ []) h) (ap (λ (n : ℕ). saying n out) m))

-- ---- a text said escaped, byte by byte: one more
pub says-more : {before mid after : Page} (text : List ℕ) (i : ℕ) → i < length text → Says before mid (escaped (take i text)) → Says mid after (escaped_byte (get_or text i 0))
    → Says before after (escaped (take (i + 1) text))
unfolding escaped
says-more text i h s t =
    rw (add-one, take-suc text i 0 h, escaped-append (take i text) (get_or text i 0 ∷ []), append-nil) (says-then (escaped (take i text)) (escaped_byte (get_or text i 0)) s t)

-- ---- a piece ends no earlier than it starts, and within the input
pub ruleset pieces = (first-low, first-high)

-- said behind what the line has, it is fed; from past the input's end on it is empty
module _ (input : List ℕ) (from : ℕ) (line : List ℕ) (have : ℕ) where
  feed-says : (start end has next : ℕ) (after : List ℕ) → start ≡ min from (length input) → end ≡ piece_end input start
      → saying has after ≡ said line have (part input start end) → next ≡ min (end + 1) (length input)
      → fed (saying has after) next (ltb end (length input)) ≡ feed input from line have
  unfolding feed
  feed-says start end has next after s e f n =
      bool_cases (leb from (length input))
      (λ t. let a : start ≡ from = omega (arith, leb-true from (length input) t) in rw (f, n, e, a))
      (λ t.
      let l : length input < from = leb-false from (length input) t in
      let b : end ≡ start = e ∙ first-end line_feed input start (length input) (omega arith) in
      let c : piece_end input from ≡ from = first-end line_feed input from (length input) (omega arith) in
      let m : next ≡ min (from + 1) (length input) = omega arith in
      rw (f, m, b, c, le-ltb start (length input) (omega arith), le-ltb from (length input) (omega arith), sub_self start, sub_self from))

  module _ (start end has : ℕ) (after : List ℕ) (s : start ≡ min from (length input)) (e : end ≡ piece_end input start) (f : saying has after ≡ said line have (part input start end)) where
    pub feed-ends : end < length input → fed (saying has after) (end + 1) true ≡ feed input from line have
    feed-ends h = rw (lt-ltb end (length input) h) at (feed-says start end has (end + 1) after s e f (omega arith))

    pub feed-goes : length input ≤ end → fed (saying has after) (length input) false ≡ feed input from line have
    feed-goes h = rw (le-ltb end (length input) h) at (feed-says start end has (length input) after s e f (omega arith))

  -- and what is fed, part by part
  pub fed-parts : {has next : ℕ} {ended : Bool} {after : List ℕ} → fed (saying has after) next ended ≡ feed input from line have
      → (saying has after ≡ said line have (part input from (piece_end input from))) × (next ≡ min (piece_end input from + 1) (length input))
      × (ended ≡ ltb (piece_end input from) (length input))
  unfolding feed
  fed-parts e = ((cc), (cc), (cc))
