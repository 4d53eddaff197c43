-- Laws that the papers name and that no proof here needs any more.
use Prim.Native.Nat.{ℕ, ◌+◌, ◌-◌, ◌%◌, ◌≤◌, ◌<◌}
use mathlib.Core.Path.{◌≡◌}
use mathlib.Core.Bool.{Bool, true, false, cond, ◌&&◌}
use mathlib.Core.List.{List}
use native.Mathlib.Omega.{arith}
use borrow.Author.Tests.{eq-eqb, ne_eqb, le-leb, lt-leb, lt-ltb}
use lib.ListN.{length, get_or}
use Rattle.layout.specs.Layout.{word_size, node_size, namelen_field, first_free, place_of, word_at}
use Rattle.walk.specs.Marks.{all, is_zero, can_take}
use Rattle.walk.specs.Model.{words_of, is_plain, named_room, node_room}

-- ---- a test of every place, after i of k places from one on
module _ (test : ℕ → Bool) (from k i : ℕ) where
  pub all_end : k ≤ i → all test (from + i) (k - i) ≡ true
  unfolding all
  all_end h =
      let e : k - i ≡ 0 = omega arith in
      rw e

-- ---- words taken, or not
pub take_past : (marks : List ℕ) (n k : ℕ) → length marks < n + k → false ≡ can_take marks n k
unfolding can_take
take_past marks n k h = rw (lt-leb (n + k) (length marks) h)

-- ---- the words of a node
module _
    (area : List ℕ)
    (used at : ℕ)
    (even : at % word_size ≡ 0)
    (behind : first_free ≤ at)
    (fits : at + node_size ≤ used)
    (size : ℕ)
    (e : size ≡ word_at area at namelen_field)
    (some : size ≡ 0 → ⊥)
    (short : at + node_size + size + 1 ≤ used)
  where
    room-named : node_room area used at ≡ named_room area used at size
    unfolding node_room
    room-named = rw (eq-eqb (at % word_size) 0 even, le-leb first_free at behind, le-leb (at + node_size) used fits, e)

    room-texted : node_room area used at
        ≡ cond (all (is_plain area) (place_of at node_size) size && is_zero area (place_of at node_size + size)) (words_of (node_size + size + 1)) 0
    room-texted = rw (room-named, lt-ltb 0 size (omega arith), le-leb (at + node_size + size + 1) used short)

    module _ (plain : all (is_plain area) (place_of at node_size) size ≡ true) where
      pub room_open : (get_or area (place_of at node_size + size) 0 ≡ 0 → ⊥) → 0 ≡ node_room area used at
      room_open h = rw (room-texted, plain, ne_eqb (get_or area (place_of at node_size + size) 0) 0 h)

      pub room_whole : get_or area (place_of at node_size + size) 0 ≡ 0 → words_of (node_size + size + 1) ≡ node_room area used at
      room_whole h = rw (room-texted, plain, eq-eqb (get_or area (place_of at node_size + size) 0) 0 h)
