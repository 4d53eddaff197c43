-- What entering a node leaves in the marks, and that a node's own work only adds to them.
use Prim.Native.Nat.{ℕ, ◌+◌, ◌*◌, ◌/◌, ◌%◌, ◌≤◌}
use native.Mathlib.Omega.{arith}
use mathlib.Core.Path.{◌≡◌, refl, ap, subst, ◌∙◌}
use mathlib.Core.Bool.{Bool, true, false, cond, ◌&&◌, and-eq-true_iff}
use mathlib.Core.List.{List, [], ◌∷◌}
use lib.Dec.{eqb, leb, ltb}
use borrow.Author.Tests.{lt-ltb, ltb-true}
use Rattle.words.proofs.Laws.{clash}
use Rattle.layout.specs.Layout.{word_size, entry_size, slot_field, long_offset_field, namelen_field, prop_field, byte_of, place_of, word_at, node_takes}
use Rattle.property_info.specs.Entry.{is_long}
use Rattle.sound.specs.Ways.{Dir, to_left, to_below, to_right}
use Rattle.sound.specs.Tree.{inside}
use Rattle.walk.specs.Marks.{can_take, fill}
use Rattle.walk.specs.Machine.{refused, taken, Done, halt, done}
use Rattle.walk.specs.Model.{field_at, place_at, node_room, dir_number, number_dir, parent_at, came_at, owner_for, recorded, enter_at}
use Rattle.walk.specs.Model.{follows, end_of, text_end, room_to, is_path, short_work, long_work, value_work, named_work, entry_work, own_work}
use Rattle.walk.proofs.Growing.{Grew, grew_refl, grew_trans, Came, Owned, number_max}
use Rattle.walk.proofs.MarkLaws.{counted, took, fill-grew}
use Rattle.walk.proofs.RecordLaws.{record-grew, record-counted, record-first, record-second}
use Rattle.walk.proofs.NodeLaws.{NodeFits, room_of, room-inv}

-- ---- a record reads back
dir-small : (dir : Dir) → dir_number dir ≤ 2
dir-small to_left = omega arith
dir-small to_below = omega arith
dir-small to_right = omega arith

pub came-parent : (marks : List ℕ) (n p : ℕ) (dir : Dir) → Came marks n p dir → parent_at marks n ≡ p
came-parent marks n p dir came = omega (arith, came.reads, dir-small dir)

number-back : (p : ℕ) (dir : Dir) → number_dir ((p * 3 + dir_number dir) % 3) ≡ dir
number-back p to_left = let e : (p * 3 + 0) % 3 ≡ 0 = omega arith in ap number_dir e
number-back p to_below = let e : (p * 3 + 1) % 3 ≡ 1 = omega arith in ap number_dir e
number-back p to_right = let e : (p * 3 + 2) % 3 ≡ 2 = omega arith in ap number_dir e

pub came-dir : (marks : List ℕ) (n p : ℕ) (dir : Dir) → Came marks n p dir → came_at marks n ≡ dir
came-dir marks n p dir came = ap (λ (x : ℕ). number_dir (x % 3)) came.reads ∙ number-back p dir

-- ---- entering
pub record Entered (area : List ℕ) (used : ℕ) (marks after : List ℕ) (link p : ℕ) (dir : Dir) : Type 0 where
  pub fits : NodeFits area used link
  pub count : (i : ℕ) → counted after i ≡ counted marks i + inside (byte_of link) (node_takes (word_at area link namelen_field)) i
  pub grew : Grew marks after
  pub came : p ≤ number_max → Came after (place_at link) p dir
  pub owned : owner_for marks p dir ≤ number_max → Owned after (place_at link) (owner_for marks p dir)

cond-taken : (t : Bool) (x after : List ℕ) → cond t (taken x) refused ≡ taken after → (t ≡ true) × (x ≡ after)
cond-taken true x after e = (refl, (cc))
cond-taken false x after e = clash cc

module _ (area : List ℕ) (used : ℕ) (marks : List ℕ) (link p : ℕ) (dir : Dir) where
  abbrev room : ℕ
  room = node_room area used link

  abbrev from : ℕ
  from = p * 3 + dir_number dir

  abbrev owner : ℕ
  owner = owner_for marks p dir

  room-six : NodeFits area used link → 6 ≤ room
  room-six fits = omega (arith, fits.some, room_of area used link fits)

  leaves : NodeFits area used link → can_take marks (place_at link) room ≡ true → Entered area used marks (recorded marks (place_at link) room p dir) link p dir
  leaves fits can = record {
    fits = fits;
    count = λ i. record-counted marks (place_at link) room from owner (room-six fits) can i
        ∙ took marks link room (node_takes (word_at area link namelen_field)) fits.aligned fits.low (room_of area used link fits) can i;
    grew = record-grew marks (place_at link) room from owner (room-six fits) can;
    came = λ h. record-first marks (place_at link) room from owner (room-six fits) can (omega (arith, dir-small dir));
    owned = λ h. record { keeps = record-second marks (place_at link) room from owner (room-six fits) can (omega arith); small = h };
  }

  pub entered-inv : (after : List ℕ) → enter_at area used marks link p dir ≡ taken after → Entered area used marks after link p dir
  unfolding enter_at
  entered-inv after e =
      let went = cond-taken (ltb 0 room && can_take marks (place_at link) room) (recorded marks (place_at link) room p dir) after e in
      let both = (and-eq-true_iff (ltb 0 room) (can_take marks (place_at link) room)).0 went.0 in
      subst (λ (m : List ℕ). Entered area used marks m link p dir) went.1
      (leaves (room-inv area used link (λ z. omega (arith, z, ltb-true 0 room both.0))).0 both.1)

  pub enter-of : NodeFits area used link → can_take marks (place_at link) (node_room area used link) ≡ true → (after : List ℕ) × (enter_at area used marks link p dir ≡ taken after)
  unfolding enter_at
  enter-of fits can = (recorded marks (place_at link) room p dir, rw (lt-ltb 0 room (omega (arith, room-six fits)), can))

-- ---- own work: whatever it leaves has grown
abbrev Grows : List ℕ → Done (List ℕ) → Type 0
Grows marks result = (after es : List ℕ) → result ≡ done after es → Grew marks after

grows-halt : (marks : List ℕ) → Grows marks halt
grows-halt marks after es e = clash cc

grows-done : (marks next fs : List ℕ) → Grew marks next → Grows marks (done next fs)
grows-done marks next fs g after es e = let q : next ≡ after = cc in subst (λ (m : List ℕ). Grew marks m) q g

grows-cond : (marks : List ℕ) (t : Bool) (x y : Done (List ℕ)) → (t ≡ true → Grows marks x) → Grows marks y → Grows marks (cond t x y)
grows-cond marks true x y f g = f refl
grows-cond marks false x y f g = g

grows-more : (marks next : List ℕ) (result : Done (List ℕ)) → Grew marks next → Grows next result → Grows marks result
grows-more marks next result g h after es e = grew_trans marks next after g (h after es e)

module _ (area : List ℕ) (used : ℕ) where
  short-grows : (marks : List ℕ) (at : ℕ) → Grows marks (short_work area marks at)
  short-grows marks at = grows-cond marks (ltb (end_of area (place_of at slot_field) (place_of at entry_size)) (place_of at entry_size)) (done marks (at ∷ [])) halt
      (λ t. grows-done marks marks (at ∷ []) (grew_refl marks)) (grows-halt marks)

  long-grows : (marks : List ℕ) (at far end : ℕ) → Grows marks (long_work area used marks at far end)
  long-grows marks at far end =
      grows-cond marks (ltb 0 end && can_take marks (far / word_size) (room_to far end)) (done (fill marks (far / word_size) (room_to far end)) (at ∷ [])) halt
      (λ t. grows-done marks (fill marks (far / word_size) (room_to far end)) (at ∷ [])
      (fill-grew marks (far / word_size) (room_to far end) ((and-eq-true_iff (ltb 0 end) (can_take marks (far / word_size) (room_to far end))).0 t).1))
      (grows-halt marks)

  value_grows : (marks : List ℕ) (at k : ℕ) → Grows marks (value_work area used marks at k)
  unfolding value_work
  value_grows marks at k =
      let far : ℕ = at + word_at area at long_offset_field in
      grows-cond marks (is_long area at) _ (short_work area marks at)
      (λ s. grows-cond marks (leb (k * word_size) (word_at area at long_offset_field)) (long_work area used marks at far (text_end area used far (byte_of far))) halt
      (λ t. long-grows marks at far (text_end area used far (byte_of far)))
      (grows-halt marks))
      (short-grows marks at)

  named-grows : (marks : List ℕ) (n at end : ℕ) → Grows marks (named_work area used marks n at end)
  named-grows marks n at end =
      let path : Bool = ltb 0 end && is_path area marks n (place_of at entry_size) end in
      let next : List ℕ = fill marks (at / word_size) (room_to at end) in
      grows-cond marks (path && can_take marks (at / word_size) (room_to at end)) (value_work area used next at (room_to at end)) halt
      (λ t. grows-more marks next (value_work area used next at (room_to at end))
      (fill-grew marks (at / word_size) (room_to at end) ((and-eq-true_iff path (can_take marks (at / word_size) (room_to at end))).0 t).1)
      (value_grows next at (room_to at end)))
      (grows-halt marks)

  entry-grows : (marks : List ℕ) (n at : ℕ) → Grows marks (entry_work area used marks n at)
  unfolding entry_work
  entry-grows marks n at =
      grows-cond marks (eqb at 0) (done marks []) (named_work area used marks n at (text_end area used at (place_of at entry_size)))
      (λ t. grows-done marks marks [] (grew_refl marks))
      (named-grows marks n at (text_end area used at (place_of at entry_size)))

  pub own-grew : (marks after : List ℕ) (n before : ℕ) (es : List ℕ) → own_work area used marks n before ≡ done after es → Grew marks after
  unfolding own_work
  own-grew marks after n before es e =
      grows-cond marks (follows area before n) (entry_work area used marks n (field_at area n prop_field)) halt
      (λ t. entry-grows marks n (field_at area n prop_field)) (grows-halt marks) after es e
