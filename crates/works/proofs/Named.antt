-- Laws that the papers name and that no proof here needs any more.
use Prim.Native.Nat.{ℕ, ◌+◌, ◌-◌, ◌/◌, ◌≤◌, ◌<◌}
use mathlib.Core.Path.{◌≡◌}
use mathlib.Core.Bool.{Bool, true, false, cond}
use mathlib.Core.List.{List, []}
use native.Mathlib.Omega.{arith}
use borrow.Author.Tests.{ne_eqb, le-leb, lt-ltb, le-ltb}
use Rattle.layout.specs.Layout.{namelen_field, prop_field}
use Rattle.walk.specs.Marks.{all, can_take, fill}
use Rattle.walk.specs.Machine.{Done, done}
use Rattle.walk.specs.Model.{field_at, text_end, room_to, is_path, follows, value_work, entry_work, own_work, name_from, owner_at, same_at, path_up, path_step}

-- ---- entry_work
module _
    (area : List ℕ)
    (used : ℕ)
    (marks : List ℕ)
    (n at : ℕ)
    (there : 0 < at)
    (z : ℕ)
    (e : z ≡ text_end area used at (128 + at + 96))
    (ends : z ≡ 0 → ⊥)
    (path : is_path area marks n (128 + at + 96) z ≡ true)
    (t : Bool)
    (f : t ≡ can_take marks (at / 4) (room_to at z))
  where
    pub entry_value : t ≡ true → (after : List ℕ) → after ≡ cond t (fill marks (at / 4) (room_to at z)) marks
        → (x : Done (List ℕ)) → x ≡ value_work area used after at (room_to at z) → x ≡ entry_work area used marks n at
    unfolding entry_work
    entry_value h after g x p =
        let q : after ≡ fill marks (at / 4) (room_to at z) = rw h at g in
        rw (ne_eqb at 0 (λ o. omega arith), ← e, lt-ltb 0 z (omega arith), path, ← f, h, ← q) p

-- ---- own_work
module _ (area : List ℕ) (used : ℕ) (marks : List ℕ) (n before : ℕ) (h : follows area before n ≡ true) (at : ℕ) (e : at ≡ field_at area n prop_field) where
  pub own_bare : at ≡ 0 → done marks [] ≡ own_work area used marks n before
  unfolding own_work entry_work
  own_bare z = rw (h, ← e, z)

-- ---- a segment, with what is said of the part before it
module _
    (area marks : List ℕ)
    (rest : ℕ → ℕ → Bool)
    (n from to size : ℕ)
    (e : size ≡ field_at area n namelen_field)
    (short : size ≤ to - from)
  where
    pub step_other : all (same_at area (to - size) (name_from n)) 0 size ≡ false → path_step area marks rest n from to ≡ false
    unfolding path_step
    step_other h = rw (← e, le-leb size (to - from) short, h)

    module _ (same : all (same_at area (to - size) (name_from n)) 0 size ≡ true) (owner : ℕ) (f : owner ≡ owner_at marks n) where
      step-up : path_step area marks rest n from to ≡ path_up area rest owner from (to - size)
      unfolding path_step
      step-up = rw (← e, le-leb size (to - from) short, same, ← f)

      pub step_start : (owner ≡ 0 → ⊥) → to - size ≡ from → path_step area marks rest n from to ≡ false
      step_start deep h = rw (step-up, ne_eqb owner 0 deep, le-ltb from (to - size) (omega arith))
