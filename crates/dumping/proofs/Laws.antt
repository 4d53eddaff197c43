-- Laws of specs/Dump.antt, for the ways out of the code: the dump's lines, listing, the dump, the dump in the caller's room.
use Prim.Native.Nat.{ℕ, ◌+◌, min, ◌≤◌, ◌<◌}
use mathlib.Core.Path.{◌≡◌, refl, sym, ap, ◌∙◌}
use mathlib.Core.List.{List, [], ◌∷◌, ◌++◌, append_assoc, append-nil}
use native.Mathlib.Numerals.{add-one}
use native.Mathlib.Omega.{arith}
use borrow.Author.Tests.{le-leb, lt-leb}
use lib.Dec.{leb}
use lib.ListN.{length, get_or, take}
use lib.Seq.{take-suc, length-take-le}
use Rattle.words.specs.Words.{put}
use Rattle.words.proofs.Laws.{bool_cases, clash, put-length}
use Rattle.layout.specs.declared.refusal.Refusal.{Refusal}
use Rattle.layout.specs.Layout.{area_max}
use Rattle.layout.specs.Refusals.{accepted, refuse, number_of}
use Rattle.trie.proofs.HeaderLaws.{header-max}
use Rattle.sound.specs.Tree.{listed}
use Rattle.std.specs.Prelude.{Result, Ok, Err}
use Rattle.audit.specs.Check.{used_of, Judged, lists, listed_answer, list_steps, ListSays}
use Rattle.audit.proofs.Telling.{ListTells}
use Rattle.audit.proofs.Promises.{every-judged, list_tells, listed-few}
use Rattle.texts.specs.Text.{saying, said, Says}
use Rattle.texts.specs.declared.Page.{Page}
use Rattle.texts.proofs.Laws.{says-then}
use Rattle.answers.specs.Answers.{file_max, refused_text}
use Rattle.dumping.specs.Dump.{head_text, entry_line, entry_lines, dump_text, dumps, file_listing, dump_steps, fills, fill_steps}
use Rattle.dumping.specs.View.{listing_text}

-- ---- the dump's lines: one more
entry_lines-append : (area a b : List ℕ) → entry_lines area (a ++ b) ≡ entry_lines area a ++ entry_lines area b
unfolding entry_lines
entry_lines-append area [] b = refl
entry_lines-append area (at ∷ a) b = rw (entry_lines-append area a b) (sym (append_assoc (entry_line area at) (entry_lines area a) (entry_lines area b)))

pub lines-more : {before mid after : Page} (area offsets head : List ℕ) (i : ℕ) → i < length offsets → Says before mid (head ++ entry_lines area (take i offsets))
    → Says mid after (entry_line area (get_or offsets i 0)) → Says before after (head ++ entry_lines area (take (i + 1) offsets))
unfolding entry_lines
lines-more area offsets head i h s t =
    rw (add-one, take-suc offsets i 0 h, entry_lines-append area (take i offsets) (get_or offsets i 0 ∷ []), append-nil, ← (append_assoc head))
    (says-then (head ++ entry_lines area (take i offsets)) (entry_line area (get_or offsets i 0)) s t)

-- ---- what a listing that is not refused gives: the entries stand in the list, there is a used mark, and neither bytes nor entries are many
module _ (area scratch list : List ℕ) (n : ℕ) (left noted : List ℕ) (t : ListTells area scratch list n left noted) where
  pub tells-fits : n ≤ length noted
  tells-fits = rw (t.notes, put-length list 0 (listed t.tree)) t.fits

  pub tells-counts : n ≡ length (take n noted)
  tells-counts = sym (length-take-le n noted tells-fits)

  pub tells-few : length area ≤ area_max
  tells-few = header-max area t.sound.front.header

  pub tells-entries : length (take n noted) ≤ area_max
  tells-entries = rw (← tells-counts, t.count) (omega (arith, listed-few area (used_of area) t.tree t.sound, t.sound.front.high, tells-few))

-- ---- listing, of a file that may be too long, and the dump
module _ (area scratch list : List ℕ) where
  module _ (r : Result ℕ Refusal) (left noted : List ℕ) (e : (judged : Judged area) → lists (listed_answer r) left noted ≡ file_listing area scratch list judged) where
    module _ (n : ℕ) (f : r ≡ Ok n) where
      told : (judged : Judged area) → lists (accepted n) left noted ≡ file_listing area scratch list judged
      told judged = ap (λ (x : Result ℕ Refusal). lists (listed_answer x) left noted) (sym f) ∙ e judged

      pub file-lists : ListTells area scratch list n left noted
      file-lists =
          bool_cases (leb (length area) file_max)
          (λ s. list_tells area scratch list n left noted (every-judged area) (rw s at (told (every-judged area))))
          (λ s.
          let q : lists (accepted n) left noted ≡ lists (refuse Refusal.BadHeader) scratch list = rw s at (told (every-judged area)) in
          clash cc)

      pub dump-entries : (out : List ℕ) (next : ℕ) (after : List ℕ)
          → saying next after ≡ said out 0 (head_text (length (take n noted)) (used_of area) ++ entry_lines area (take n noted))
          → (judged : Judged area) → dumps (saying next after) left noted ≡ dump_steps area scratch list out judged
      dump-entries out next after s judged = rw (← (told judged), s, ← (tells-counts area scratch list n left noted file-lists))

    pub dump-refused : (why : Refusal) → r ≡ Err why → (out : List ℕ) (next : ℕ) (after : List ℕ) → saying next after ≡ said out 0 (refused_text (number_of why))
        → (judged : Judged area) → dumps (saying next after) left noted ≡ dump_steps area scratch list out judged
    dump-refused why f out next after s judged = rw (← (e judged), f, s)

-- ---- the dump in the caller's room: 10 where the room is short, or the text
module _ (area scratch list : List ℕ) (r : Result ℕ Refusal) (left noted : List ℕ) (e : ListSays area scratch list r left noted) where
  module _ (n : ℕ) (f : r ≡ Ok n) where
    listing : (judged : Judged area) → lists (accepted n) left noted ≡ list_steps area scratch list judged
    listing judged = ap (λ (x : Result ℕ Refusal). lists (listed_answer x) left noted) (sym f) ∙ e judged

    pub fill-lists : ListTells area scratch list n left noted
    fill-lists = list_tells area scratch list n left noted (every-judged area) (listing (every-judged area))

    module _ (room : List ℕ) (size : ℕ) (s : size ≡ length (listing_text area (take n noted))) where
      counted : size ≡ length (dump_text area (accepted n) noted)
      counted = s ∙ rw (← (tells-counts area scratch list n left noted fill-lists))

      pub fill-short : length room < size → (judged : Judged area) → fills (refuse Refusal.ShortBuffer) room left noted ≡ fill_steps area scratch list room judged
      fill-short h judged = rw (← (listing judged), ← counted, lt-leb size (length room) h)

      pub fill-entries : size ≤ length room → (next : ℕ) (after : List ℕ) → saying next after ≡ said room 0 (listing_text area (take n noted))
          → (judged : Judged area) → fills (accepted next) after left noted ≡ fill_steps area scratch list room judged
      unfolding said
      fill-entries h next after q judged =
          let m : next ≡ min (0 + length (listing_text area (take n noted))) (length room) = cc in
          let k : next ≡ size = omega arith in
          let p : after ≡ put room 0 (listing_text area (take n noted)) = cc in
          rw (← (listing judged), ← counted, le-leb size (length room) h, k, p, ← (tells-counts area scratch list n left noted fill-lists))
