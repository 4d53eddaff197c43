-- An entry that is as it ought to be, over words that nothing counts, passes its node's own work.
use Prim.Native.Nat.{ℕ, zero, suc, ◌+◌, ◌-◌, ◌*◌, ◌/◌, ◌%◌, ◌≤◌, ◌<◌}
use native.Mathlib.Omega.{arith}
use mathlib.Core.Path.{◌≡◌, refl, sym, ap, subst, ◌∙◌}
use mathlib.Core.Logic.{◌≢◌}
use mathlib.Core.Bool.{true}
use mathlib.Core.List.{List, [], ◌∷◌, ◌++◌}
use lib.ListN.{length}
use borrow.Author.Tests.{eq-eqb, ne_eqb, le-leb, lt-ltb}
use Rattle.names.specs.Names.{segment_order}
use Rattle.std.specs.declared.cmp.Ordering.TheVariants.{Less}
use Rattle.layout.specs.Layout.{word_size, prop_field, entry_size, serial_field, slot_field, long_offset_field, first_free, byte_of, place_of, word_at, entry_takes, value_takes}
use Rattle.serials.specs.Serial.{long_in}
use Rattle.property_info.proofs.Laws.{long-is, short-is}
use Rattle.sound.specs.Tree.{Value, short, long, Entry, bare, entry, entry_link, listed_own, inside, value_cover, entry_cover}
use Rattle.sound.specs.Sound.{Holds, HoldsText, Without, ValueAt, EntryAt, ValueRule, EntryRule}
use Rattle.sound.proofs.Holding.{text-bytes}
use Rattle.walk.specs.Marks.{can_take, fill}
use Rattle.walk.specs.Machine.{Done, done}
use Rattle.walk.specs.Model.{field_at, name_at, is_less, follows, end_of, text_end, room_to, is_path, value_work, entry_work, own_work}
use Rattle.walk.proofs.Growing.{Owned, Prefix}
use Rattle.walk.proofs.MarkLaws.{fill-grew, counted, took, can-at, lies-between}
use Rattle.walk.proofs.Scanning.{end-le, text-ends, TextFits, text_of}
use Rattle.walk.proofs.Paths.{path-ok}

-- a work is done: what it leaves counts so much more
pub record Worked (work : Done (List ℕ)) (marks es : List ℕ) (cover : ℕ → ℕ) : Type 0 where
  pub after : List ℕ
  pub is : work ≡ done after es
  pub count : (i : ℕ) → counted after i ≡ counted marks i + cover i

-- one work after what was counted before it
worked_then : (work next : Done (List ℕ)) (marks taken es : List ℕ) (f g : ℕ → ℕ) → work ≡ next → ((i : ℕ) → counted taken i ≡ counted marks i + f i)
    → Worked next taken es g → Worked work marks es (λ i. f i + g i)
worked_then work next marks taken es f g e more w = record { after = w.after; is = e ∙ w.is; count = λ i. omega (arith, more i, w.count i) }

-- ---- its place in the order
follows_of : (area : List ℕ) (before n : ℕ) → (before ≢ 0 → segment_order (name_at area before) (name_at area n) ≡ Less) → follows area before n ≡ true
unfolding follows
follows_of area zero n h = refl
follows_of area (suc before) n h = ap is_less (h (λ z. omega arith))

-- ---- an object whose text stops there: its words can be taken
record Placed (area : List ℕ) (used : ℕ) (marks : List ℕ) (at from stop size : ℕ) : Type 0 where
  fits : TextFits area used at from stop
  can : can_take marks (at / word_size) (room_to at stop) ≡ true
  count : (i : ℕ) → counted (fill marks (at / word_size) (room_to at stop)) i ≡ counted marks i + inside (byte_of at) size i

module _ (area : List ℕ) (used : ℕ) (from_First : first_free ≤ used) where
  place : (marks : List ℕ) (at from size : ℕ) (text : List ℕ) → used ≤ 4 * length marks → at % word_size ≡ 0 → byte_of at ≤ from → 4 * room_to at (from + length text) ≡ size
      → HoldsText area from text → Without 0 text → ((i : ℕ) → counted marks i + inside (byte_of at) size i ≤ 1)
      → ((i : ℕ) → inside (byte_of at) size i ≤ inside (byte_of first_free) (used - first_free) i) → Placed area used marks at from (from + length text) size
  place marks at from size text room aligned behind e h clean free within =
      let b = lies-between used from_First at size (omega arith) within in
      let can : can_take marks (at / word_size) (room_to at (from + length text)) ≡ true = can-at marks at (room_to at (from + length text)) size aligned e (omega arith) free in
      record {
        fits = record { aligned = aligned; low = b.0; high = omega arith; ends = text-ends area from text h clean };
        can = can;
        count = took marks at (room_to at (from + length text)) size aligned b.0 e can;
      }

  -- ---- the value
  short-done : (marks : List ℕ) (at k : ℕ) (name slot : List ℕ) → ValueAt area at (short slot) → ValueRule at (word_at area at serial_field) name (short slot)
      → Worked (value_work area used marks at k) marks (at ∷ []) (value_cover (short slot))
  unfolding ValueAt ValueRule value_cover value_work
  short-done marks at k name slot bytes rule =
      let from : ℕ = place_of at slot_field in
      let to : ℕ = place_of at entry_size in
      let j : ℕ = rule.1.0 in
      let l : end_of area from to ≤ from + j = end-le area from to (from + j) (omega arith) (bytes.0 j rule.1.1 ∙ rule.1.2) in
      record {
        after = marks;
        is = rw (short-is area at (word_at area at serial_field) refl rule.0, lt-ltb (end_of area from to) to (omega arith));
        count = λ i. omega arith;
      }

  long-at : (marks : List ℕ) (at k far stop : ℕ) → long_in (word_at area at serial_field) ≡ 1 → at + word_at area at long_offset_field ≡ far → k * word_size ≤ word_at area at long_offset_field
      → text_end area used far (byte_of far) ≡ stop → 0 < stop → can_take marks (far / word_size) (room_to far stop) ≡ true
      → value_work area used marks at k ≡ done (fill marks (far / word_size) (room_to far stop)) (at ∷ [])
  unfolding value_work
  long-at marks at k far stop s e h t some can =
      rw (long-is area at (word_at area at serial_field) refl s, le-leb (k * word_size) (word_at area at long_offset_field) h, e, t, lt-ltb 0 stop some, can)

  value-done : (marks : List ℕ) (at k : ℕ) (name : List ℕ) (value : Value) → used ≤ 4 * length marks → 4 * k ≡ entry_takes (length name) → ValueAt area at value
      → ValueRule at (word_at area at serial_field) name value → ((i : ℕ) → counted marks i + value_cover value i ≤ 1)
      → ((i : ℕ) → value_cover value i ≤ inside (byte_of first_free) (used - first_free) i) → Worked (value_work area used marks at k) marks (at ∷ []) (value_cover value)
  unfolding ValueAt ValueRule value_cover
  value-done marks at k name (short slot) room size bytes rule free within = short-done marks at k name slot bytes rule
  value-done marks at k name (long far text) room size bytes rule free within =
      let stop : ℕ = byte_of far + length text in
      let p = place marks far (byte_of far) (value_takes (length text)) text room rule.1 (omega arith) (omega arith) bytes.1 rule.3 free within in
      let off : at + word_at area at long_offset_field ≡ far = bytes.0 in
      let behind : at + entry_takes (length name) ≤ far = rule.2 in
      record {
        after = fill marks (far / word_size) (room_to far stop);
        is = long-at marks at k far stop rule.0 (omega arith) (omega arith) (text_of area used far (byte_of far) stop p.fits) (omega arith) p.can;
        count = p.count;
      }

  -- ---- the entry
  module _ (marks : List ℕ) (n o : ℕ) (prefix : List ℕ) (spelled : Prefix area marks o prefix) (owned : Owned marks n o)
      (clean : Without 0 (prefix ++ name_at area n)) (room : used ≤ 4 * length marks) where
    bare-done : (f : ℕ) → f ≡ 0 → Worked (entry_work area used marks n f) marks [] (λ i. 0)
    unfolding entry_work
    bare-done f e = record { after = marks; is = rw (eq-eqb f 0 e); count = λ i. omega arith }

    named-at : (at stop : ℕ) → at ≢ 0 → text_end area used at (place_of at entry_size) ≡ stop → 0 < stop → is_path area marks n (place_of at entry_size) stop ≡ true
        → can_take marks (at / word_size) (room_to at stop) ≡ true
        → entry_work area used marks n at ≡ value_work area used (fill marks (at / word_size) (room_to at stop)) at (room_to at stop)
    unfolding entry_work
    named-at at stop some t low path can = rw (ne_eqb at 0 some, t, lt-ltb 0 stop low, path, can)

    named-done : (at serial : ℕ) (name : List ℕ) (value : Value) → EntryAt area (entry at serial name value) → EntryRule (prefix ++ name_at area n) (entry at serial name value)
        → ((i : ℕ) → counted marks i + entry_cover (entry at serial name value) i ≤ 1)
        → ((i : ℕ) → entry_cover (entry at serial name value) i ≤ inside (byte_of first_free) (used - first_free) i)
        → Worked (entry_work area used marks n at) marks (at ∷ []) (entry_cover (entry at serial name value))
    unfolding EntryAt EntryRule entry_cover
    named-done at serial name value bytes rule free within =
        let from : ℕ = place_of at entry_size in
        let stop : ℕ = from + length name in
        let e : name ≡ prefix ++ name_at area n = rule.0 in
        let p = place marks at from (entry_takes (length name)) name room rule.1 (omega arith) (omega arith) bytes.1
        (subst (λ (x : List ℕ). Without 0 x) (sym e) clean) (λ i. omega (arith, free i)) (λ i. omega (arith, within i)) in
        let taken : List ℕ = fill marks (at / word_size) (room_to at stop) in
        let holds : Holds area from (prefix ++ name_at area n) = subst (λ (x : List ℕ). Holds area from x) e (text-bytes area from name bytes.1) in
        let path : is_path area marks n from stop ≡ true = path-ok (stop - from + 1) area marks n from stop o prefix spelled owned holds (omega (arith, ap length e)) (omega arith) in
        worked_then (entry_work area used marks n at) (value_work area used taken at (room_to at stop)) marks taken (at ∷ []) (inside (byte_of at) (entry_takes (length name))) (value_cover value)
        (named-at at stop (λ z. omega (arith, p.fits.low)) (text_of area used at from stop p.fits) (omega arith) path p.can)
        p.count
        (value-done taken at (room_to at stop) name value (omega (arith, (fill-grew marks (at / word_size) (room_to at stop) p.can).long)) (omega arith) bytes.2
        (subst (λ (x : ℕ). ValueRule at x name value) (sym bytes.0) rule.2) (λ i. omega (arith, free i, p.count i)) (λ i. omega (arith, within i)))

    entry_done : (f : ℕ) (own : Entry) → f ≡ entry_link own → EntryAt area own → EntryRule (prefix ++ name_at area n) own → ((i : ℕ) → counted marks i + entry_cover own i ≤ 1)
        → ((i : ℕ) → entry_cover own i ≤ inside (byte_of first_free) (used - first_free) i) → Worked (entry_work area used marks n f) marks (listed_own own) (entry_cover own)
    unfolding entry_link listed_own entry_cover
    entry_done f bare e bytes rule free within = bare-done f e
    entry_done f (entry at serial name value) e bytes rule free within = rw e (named-done at serial name value bytes rule free within)

    pub own-done : (before : ℕ) (own : Entry) → field_at area n prop_field ≡ entry_link own → EntryAt area own → EntryRule (prefix ++ name_at area n) own
        → (before ≢ 0 → segment_order (name_at area before) (name_at area n) ≡ Less) → ((i : ℕ) → counted marks i + entry_cover own i ≤ 1)
        → ((i : ℕ) → entry_cover own i ≤ inside (byte_of first_free) (used - first_free) i) → Worked (own_work area used marks n before) marks (listed_own own) (entry_cover own)
    unfolding own_work
    own-done before own e bytes rule less free within = rw (follows_of area before n less) (entry_done (field_at area n prop_field) own e bytes rule free within)
