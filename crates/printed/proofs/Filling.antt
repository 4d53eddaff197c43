-- The dump in the caller's room, told by the tree: what is accepted is the text of the area's tree, whole, and a sound area's text that has its room is accepted.
use Prim.Native.Nat.{ℕ, ◌*◌, ◌≤◌, ◌<◌}
use mathlib.Core.Path.{◌≡◌, refl, ap, ◌∙◌}
use mathlib.Core.List.{List}
use native.Mathlib.Omega.{arith}
use borrow.Author.Tests.{le-leb, lt-leb, leb-true}
use lib.Dec.{leb}
use lib.ListN.{length, take}
use Rattle.words.specs.Words.{put}
use Rattle.words.proofs.Laws.{bool_cases, clash}
use Rattle.layout.specs.declared.refusal.Refusal.{Refusal}
use Rattle.layout.specs.Layout.{area_max}
use Rattle.layout.specs.Refusals.{Answer, accepted, refused, refuse}
use Rattle.trie.proofs.HeaderLaws.{header-max}
use Rattle.sound.specs.Tree.{Tree, listed}
use Rattle.sound.specs.Sound.{Sound}
use Rattle.audit.specs.Check.{used_of, Judged, blank, scratch_min, Listing, lists, list_steps}
use Rattle.audit.proofs.Promises.{list-accepts, list_tells, listed-few}
use Rattle.dumping.specs.Dump.{dump_text, fills, fill_text, fill_listing, fill_steps}
use Rattle.printed.specs.Printed.{tree_dump, places_for, room_for}
use Rattle.printed.proofs.TreeLines.{tree-lines}
use Rattle.printed.proofs.DumpSize.{text-room}
use Rattle.printed.proofs.Dumping.{put-start}

-- ---- a tree's entries, listed, have the tree's text
listed-text : (area list : List ℕ) (tree : Tree) → Sound area (used_of area) tree → (n : ℕ) (noted : List ℕ) → n ≡ length (listed tree) → n ≤ length list
    → noted ≡ put list 0 (listed tree) → dump_text area (accepted n) noted ≡ tree_dump area tree
listed-text area list tree is n noted count fits notes =
    rw (notes, count, put-start list (listed tree) (rw count at fits), tree-lines area (used_of area) tree is)

-- ---- a text that has its room
text-fits : (text room left noted : List ℕ) → length text ≤ length room → fill_text text room left noted ≡ fills (accepted (length text)) (put room 0 text) left noted
text-fits text room left noted fits = rw (le-leb (length text) (length room) fits)

text-short : (text room left noted : List ℕ) → length room < length text → fill_text text room left noted ≡ fills (refuse Refusal.ShortBuffer) room left noted
text-short text room left noted short = rw (lt-leb (length text) (length room) short)

text-filled : (text room left noted : List ℕ) (n : ℕ) (after a c : List ℕ) → fill_text text room left noted ≡ fills (accepted n) after a c
    → (n ≡ length text) × (take n after ≡ text)
text-filled text room left noted n after a c q =
    bool_cases (leb (length text) (length room))
    (λ w.
    let k : fills (accepted (length text)) (put room 0 text) left noted ≡ fills (accepted n) after a c = rw w at q in
    let m : n ≡ length text = cc in
    let p : after ≡ put room 0 text = cc in
    (m, rw (p, m) (put-start room text (leb-true (length text) (length room) w))))
    (λ w. let k : fills (refuse Refusal.ShortBuffer) room left noted ≡ fills (accepted n) after a c = rw w at q in clash cc)

-- ---- what an accepted dump says: the area is sound, and this is its tree's text
pub record FillTells (area : List ℕ) (n : ℕ) (after : List ℕ) : Type 0 where
  pub tree : Tree
  pub sound : Sound area (used_of area) tree
  pub size : n ≡ length (tree_dump area tree)
  pub text : take n after ≡ tree_dump area tree

module _ (area scratch list room : List ℕ) (judged : Judged area) (n : ℕ) (after left noted : List ℕ)
    (e : fill_steps area scratch list room judged ≡ fills (accepted n) after left noted) where
  pub fill-tells : FillTells area n after
  fill-tells = by (list_steps area scratch list judged) refl e
    where
      by : (l : Listing) → l ≡ list_steps area scratch list judged → fill_listing area room l ≡ fills (accepted n) after left noted → FillTells area n after
      by (lists (refused number) s l) is q = clash cc
      by (lists (accepted count) s l) is q =
          let t = list_tells area scratch list count s l judged is in
          let told : dump_text area (accepted count) l ≡ tree_dump area t.tree = listed-text area list t.tree t.sound count l t.count t.fits t.notes in
          let f = text-filled (dump_text area (accepted count) l) room s l n after left noted q in
          record { tree = t.tree; sound = t.sound; size = f.0 ∙ ap length told; text = f.1 ∙ told }

  -- so its length fits 32 bits
  pub fill-few : n ≤ 4 * area_max
  fill-few = let t = fill-tells in omega (arith, t.size, text-room area t.tree t.sound, header-max area t.sound.front.header)

-- ---- a sound area's dump is accepted where scratch, list and room have what it takes
module _ (area scratch list room : List ℕ) (tree : Tree) (is : Sound area (used_of area) tree) (enough : scratch_min area ≤ length scratch) where
  listed-fill : length (listed tree) ≤ length list → (judged : Judged area)
      → fill_steps area scratch list room judged ≡ fill_text (tree_dump area tree) room (blank scratch) (put list 0 (listed tree))
  listed-fill many judged =
      ap (fill_listing area room) (list-accepts area scratch is.front.header enough list tree is many judged)
      ∙ ap (λ (text : List ℕ). fill_text text room (blank scratch) (put list 0 (listed tree))) (listed-text area list tree is _ _ refl many refl)

  pub fill-accepts : length (listed tree) ≤ length list → length (tree_dump area tree) ≤ length room → (judged : Judged area)
      → fill_steps area scratch list room judged ≡ fills (accepted (length (tree_dump area tree))) (put room 0 (tree_dump area tree)) (blank scratch) (put list 0 (listed tree))
  fill-accepts many fits judged = listed-fill many judged ∙ text-fits (tree_dump area tree) room (blank scratch) (put list 0 (listed tree)) fits

  -- refused where only the room is short: the room is kept, scratch and list are as listing leaves them
  pub fill-short : length (listed tree) ≤ length list → length room < length (tree_dump area tree) → (judged : Judged area)
      → fill_steps area scratch list room judged ≡ fills (refuse Refusal.ShortBuffer) room (blank scratch) (put list 0 (listed tree))
  fill-short many short judged =
      listed-fill many judged ∙ text-short (tree_dump area tree) room (blank scratch) (put list 0 (listed tree)) short

  -- and what is always enough for an area of its length
  pub fill-whole : places_for area ≤ length list → room_for area ≤ length room → (judged : Judged area) (answer : Answer ℕ) (after left noted : List ℕ)
      → fills answer after left noted ≡ fill_steps area scratch list room judged
      → (answer ≡ accepted (length (tree_dump area tree))) × (take (length (tree_dump area tree)) after ≡ tree_dump area tree)
  fill-whole places wide judged answer after left noted e =
      let many : length (listed tree) ≤ length list = omega (arith, listed-few area (used_of area) tree is, is.front.high) in
      let fits : length (tree_dump area tree) ≤ length room = omega (arith, text-room area tree is) in
      let q : fills answer after left noted ≡ fills (accepted (length (tree_dump area tree))) (put room 0 (tree_dump area tree)) (blank scratch) (put list 0 (listed tree)) = e ∙ fill-accepts many fits judged in
      let p : after ≡ put room 0 (tree_dump area tree) = cc in
      ((cc), rw p (put-start room (tree_dump area tree) fits))
