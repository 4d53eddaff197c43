-- With scratch and list large enough for the longest file, listing is never refused with 10: what is printed of it is the file's dump.
use Prim.Native.Nat.{ℕ, ◌*◌, ◌/◌, ◌≤◌}
use mathlib.Core.Path.{◌≡◌, ap, ◌∙◌}
use mathlib.Core.Bool.{true}
use mathlib.Core.List.{List}
use native.Mathlib.Nat.{zero-add}
use native.Mathlib.Omega.{arith}
use borrow.Author.Tests.{le-leb, leb-true}
use lib.Dec.{leb}
use lib.ListN.{length, take}
use Rattle.words.specs.Words.{put}
use Rattle.words.proofs.Laws.{bool_cases}
use Rattle.layout.specs.Layout.{word_size}
use Rattle.layout.specs.Refusals.{Answer}
use Rattle.trie.specs.Header.{header_ok}
use Rattle.sound.specs.Tree.{listed}
use Rattle.audit.specs.Check.{used_of, Judged, sound, unsound, Listing, lists, survey_steps, list_steps}
use Rattle.audit.proofs.Promises.{list-accepts, listed-few}
use Rattle.texts.proofs.Laws.{put_front}
use Rattle.answers.specs.Answers.{file_max}
use Rattle.dumping.specs.Dump.{dump_text, file_listing}
use Rattle.printed.specs.Printed.{judged_dump, file_dump}
use Rattle.printed.proofs.Entries.{entries_max}
use Rattle.printed.proofs.TreeLines.{tree-lines}

-- what is printed of a listing
abbrev listing_text : List ℕ → Listing → List ℕ
listing_text area (lists answer left noted) = dump_text area answer noted

-- ---- what is put at the start of a list, or of a buffer, stands there whole
pub put-start : (into what : List ℕ) → length what ≤ length into → take (length what) (put into 0 what) ≡ what
put-start into what fits = rw (zero-add (length what)) at (put_front into 0 what (omega arith))

-- ---- the ways out: 8 twice, then 5 or the entries
module _ (area scratch list : List ℕ) (room : file_max ≤ 4 * length scratch) (many : entries_max ≤ length list) where
  module _ (small : length area ≤ file_max) (header : header_ok area ≡ true) where
    enough : length area / word_size ≤ length scratch
    enough = omega arith

    judged-prints : (judged : Judged area) → listing_text area (list_steps area scratch list judged) ≡ judged_dump area judged
    unfolding survey_steps
    judged-prints (sound tree is) =
        let fits : length (listed tree) ≤ length list = omega (arith, listed-few area (used_of area) tree is, is.front.high) in
        rw (list-accepts area scratch header enough list tree is fits (sound tree is), put-start list (listed tree) fits, tree-lines area (used_of area) tree is)
    judged-prints (unsound none) = rw (header, le-leb (length area / word_size) (length scratch) enough)

  listing-prints : (judged : Judged area) → listing_text area (file_listing area scratch list judged) ≡ file_dump area judged
  unfolding survey_steps
  listing-prints judged =
      bool_cases (leb (length area) file_max)
      (λ s. bool_cases (header_ok area) (λ h. rw (s, h) (rw h at (judged-prints (leb-true (length area) file_max s) h judged))) (λ h. rw (s, h)))
      (λ l. rw l)

pub dump-prints : (area scratch list : List ℕ) → file_max ≤ 4 * length scratch → entries_max ≤ length list → (judged : Judged area) (answer : Answer ℕ) (left noted : List ℕ)
    → lists answer left noted ≡ file_listing area scratch list judged → dump_text area answer noted ≡ file_dump area judged
dump-prints area scratch list room many judged answer left noted e = ap (listing_text area) e ∙ listing-prints area scratch list room many judged
