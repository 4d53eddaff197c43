-- What room that was given means.
use mathlib.Core.Path.{◌≡◌}
use mathlib.Core.List.{List, []}
use Prim.Native.Nat.{ℕ, ◌+◌, ◌≤◌}
use native.Mathlib.Omega.{arith}
use borrow.Author.Tests.{ltb-false}
use lib.ListN.{length}
use lib.Dec.{ltb}
use Rattle.words.specs.Words.{little_bytes, put}
use Rattle.words.specs.Stores.{run}
use Rattle.words.proofs.Laws.{bool_cases, clash, put-length}
use Rattle.words.proofs.Promises.{little-put-same}
use Rattle.layout.specs.declared.refusal.Refusal.{Refusal}
use Rattle.layout.specs.Layout.{word_size, word_max, used_field, data_size, header_word}
use Rattle.allocation.specs.Steps.{goes, stop_by}
use Rattle.allocation.specs.View.{seen}
use Rattle.allocation.specs.Allocate.{allocate}

-- ---- room that was given: where it stands, that it lies in the area and in 32 bits, and where the next room will stand
pub record Room (area after : List ℕ) (room at : ℕ) : Type 0 where
  pub begins : at ≡ header_word area used_field
  pub small : at + room ≤ word_max
  pub fits : at + room ≤ data_size area
  pub kept : length after ≡ length area
  pub next : word_size ≤ length area → header_word after used_field ≡ at + room

pub allocate-room : (area : List ℕ) (room at : ℕ) (after : List ℕ) → goes at after [] ≡ seen (allocate area room) → Room area after room at
unfolding allocate run seen
allocate-room area room at after e =
    let used = header_word area used_field in
    let end = used + room in
    bool_cases (ltb word_max end)
    (λ t. let k : goes at after [] ≡ stop_by area Refusal.TooLarge = rw t at e in clash cc)
    (λ t. bool_cases (ltb (data_size area) end)
    (λ u. let k : goes at after [] ≡ stop_by area Refusal.NoRoom = rw (t, u) at e in clash cc)
    (λ u.
    let k : goes at after [] ≡ goes used (put area used_field (little_bytes 4 end)) [] = rw (t, u) at e in
    let p : at ≡ used = cc in
    let q : after ≡ put area used_field (little_bytes 4 end) = cc in
    let small : end ≤ word_max = ltb-false word_max end t in
    record {
      begins = p;
      small = rw p small;
      fits = rw p (ltb-false (data_size area) end u);
      kept = rw q (put-length area used_field (little_bytes 4 end));
      next = λ h. rw (q, p) (little-put-same 4 area used_field end h (omega arith));
    }))
