-- What a pass of a node's own work says: its place in the order, and an entry that is as it ought to be, over words that were free.
use Prim.Native.Nat.{ℕ, zero, suc, ◌+◌, ◌-◌, ◌*◌, ◌/◌, ◌%◌, ◌≤◌, ◌<◌}
use native.Mathlib.Omega.{arith}
use mathlib.Core.Path.{◌≡◌, refl, sym, ap, subst, ◌∙◌}
use mathlib.Core.Logic.{◌≢◌}
use mathlib.Core.Bool.{Bool, true, false, cond, ◌&&◌, false≢true, and-eq-true_iff}
use mathlib.Core.List.{List, [], ◌∷◌, ◌++◌}
use lib.Dec.{eqb, leb, ltb}
use lib.ListN.{length, get_or}
use borrow.Author.Tests.{eqb-true, leb-true, ltb-true}
use Rattle.words.proofs.Laws.{bool_cases, clash}
use Rattle.names.specs.Names.{segment_order}
use Rattle.std.specs.declared.cmp.Ordering.{Ordering}
use Rattle.std.specs.declared.cmp.Ordering.TheVariants.{Less, Equal, Greater}
use Rattle.layout.specs.Layout.{word_size, prop_field, entry_size, serial_field, slot_field, slot_size, long_offset_field, first_free, byte_of, place_of, word_at, entry_takes, value_takes}
use Rattle.serials.specs.Serial.{long_in}
use Rattle.property_info.specs.Entry.{is_long}
use Rattle.property_info.proofs.Laws.{long-says, short-says}
use Rattle.sound.specs.Tree.{Value, short, long, Entry, bare, entry, entry_link, listed_own, inside, value_cover, entry_cover}
use Rattle.sound.specs.Sound.{Holds, ValueAt, EntryAt, ValueRule, EntryRule}
use Rattle.sound.proofs.Inside.{inside-part}
use Rattle.sound.proofs.Holding.{text-holds}
use Rattle.walk.specs.Marks.{can_take, fill}
use Rattle.walk.specs.Machine.{Done, halt, done}
use Rattle.walk.specs.Model.{field_at, span, name_at, is_less, follows, end_of, text_end, room_to, is_path, long_work, value_work, entry_work, own_work}
use Rattle.walk.proofs.Growing.{Grew, grew_refl, grew_trans, Owned, Prefix}
use Rattle.walk.proofs.MarkLaws.{counted, took, fill-grew}
use Rattle.walk.proofs.Scanning.{span-length, span-at, span-holds, Ends, end-found, ends-length, ends-text, ends-without, TextFits, text-inv}
use Rattle.walk.proofs.Paths.{path-is}

cond-done : (t : Bool) (x : Done (List ℕ)) (after es : List ℕ) → cond t x halt ≡ done after es → (t ≡ true) × (x ≡ done after es)
cond-done true x after es h = (refl, h)
cond-done false x after es h = clash cc

-- no byte of an object stands where no object may
outside : (used at size i : ℕ) → first_free ≤ at → at + size ≤ used → inside (byte_of first_free) (used - first_free) i ≡ 0 → inside (byte_of at) size i ≡ 0
outside used at size i low high z = omega (arith, inside-part (byte_of first_free) (used - first_free) (byte_of at) size i (omega arith) (omega arith))

-- ---- the value of the entry at an offset, with a name
record ValueIn (area : List ℕ) (used : ℕ) (marks after : List ℕ) (at : ℕ) (name : List ℕ) : Type 0 where
  value : Value
  bytes : ValueAt area at value
  rule : ValueRule at (word_at area at serial_field) name value
  count : (i : ℕ) → counted after i ≡ counted marks i + value_cover value i
  within : (i : ℕ) → inside (byte_of first_free) (used - first_free) i ≡ 0 → value_cover value i ≡ 0
  grew : Grew marks after

module _ (area : List ℕ) (used : ℕ) (whole : used % word_size ≡ 0) where
  short-in : (marks : List ℕ) (at : ℕ) (name : List ℕ) → long_in (word_at area at serial_field) ≡ 0
      → end_of area (place_of at slot_field) (place_of at entry_size) < place_of at entry_size → ValueIn area used marks marks at name
  unfolding ValueAt ValueRule value_cover
  short-in marks at name s h =
      let from : ℕ = place_of at slot_field in
      let stop : ℕ = end_of area from (place_of at entry_size) in
      let found : Ends area from stop = end-found area from (place_of at entry_size) h in
      let e : from + (stop - from) ≡ stop = omega arith in
      let l : stop - from < slot_size = omega arith in
      record {
        value = short (span area from slot_size);
        bytes = (span-holds slot_size area from, span-length slot_size area from);
        rule = (s, (stop - from, omega (arith, span-length slot_size area from), span-at slot_size area from (stop - from) l ∙ ap (λ (j : ℕ). get_or area j 0) e ∙ found.there));
        count = λ i. omega arith;
        within = λ i z. refl;
        grew = grew_refl marks;
      }

  long-in : (marks : List ℕ) (at far stop : ℕ) (name : List ℕ) → long_in (word_at area at serial_field) ≡ 1 → at + word_at area at long_offset_field ≡ far
      → at + entry_takes (length name) ≤ far → TextFits area used far (byte_of far) stop → can_take marks (far / word_size) (room_to far stop) ≡ true
      → ValueIn area used marks (fill marks (far / word_size) (room_to far stop)) at name
  unfolding ValueAt ValueRule value_cover
  long-in marks at far stop name s o behind fits can =
      let text : List ℕ = span area (byte_of far) (stop - byte_of far) in
      let l = ends-length area (byte_of far) stop fits.ends in
      record {
        value = long far text;
        bytes = (o, ends-text area (byte_of far) stop fits.ends);
        rule = (s, fits.aligned, behind, ends-without area (byte_of far) stop fits.ends);
        count = took marks far (room_to far stop) (value_takes (length text)) fits.aligned fits.low (omega arith) can;
        within = λ i. outside used far (value_takes (length text)) i fits.low (omega arith);
        grew = fill-grew marks (far / word_size) (room_to far stop) can;
      }

  value_in : (marks after es : List ℕ) (at k : ℕ) (name : List ℕ) → 4 * k ≡ entry_takes (length name) → value_work area used marks at k ≡ done after es
      → ValueIn area used marks after at name × (es ≡ at ∷ [])
  unfolding value_work
  value_in marks after es at k name size h = bool_cases (is_long area at) as_long as_short
    where
      off : ℕ
      off = word_at area at long_offset_field

      far : ℕ
      far = at + off

      stop : ℕ
      stop = text_end area used far (byte_of far)

      as_short : is_long area at ≡ false → ValueIn area used marks after at name × (es ≡ at ∷ [])
      as_short e =
          let t = cond-done (ltb (end_of area (place_of at slot_field) (place_of at entry_size)) (place_of at entry_size)) (done marks (at ∷ [])) after es (rw e at h) in
          let q : done marks (at ∷ []) ≡ done after es = t.1 in
          let m : marks ≡ after = cc in (
            subst (λ (x : List ℕ). ValueIn area used marks x at name) m
                (short-in marks at name (short-says area at (word_at area at serial_field) refl e) (ltb-true (end_of area (place_of at slot_field) (place_of at entry_size)) (place_of at entry_size) t.0)),
            cc,
          )

      as_long : is_long area at ≡ true → ValueIn area used marks after at name × (es ≡ at ∷ [])
      as_long e =
          let t = cond-done (leb (k * word_size) off) (long_work area used marks at far stop) after es (rw e at h) in
          let u = cond-done (ltb 0 stop && can_take marks (far / word_size) (room_to far stop)) (done (fill marks (far / word_size) (room_to far stop)) (at ∷ [])) after es t.1 in
          let v = (and-eq-true_iff (ltb 0 stop) (can_take marks (far / word_size) (room_to far stop))).0 u.0 in
          let q : done (fill marks (far / word_size) (room_to far stop)) (at ∷ []) ≡ done after es = u.1 in
          let m : fill marks (far / word_size) (room_to far stop) ≡ after = cc in
          let fits = text-inv area used far (byte_of far) (λ z. omega (arith, ltb-true 0 stop v.0)) in (
            subst (λ (x : List ℕ). ValueIn area used marks x at name) m
                (long-in marks at far stop name (long-says area at (word_at area at serial_field) refl e) (omega arith) (omega (arith, leb-true (k * word_size) off t.0)) fits v.1),
            cc,
          )

-- ---- the entry of a node with a path
pub record EntryIn (area : List ℕ) (used : ℕ) (marks after : List ℕ) (f : ℕ) (path es : List ℕ) : Type 0 where
  pub own : Entry
  pub lk : f ≡ entry_link own
  pub bytes : EntryAt area own
  pub rule : EntryRule path own
  pub count : (i : ℕ) → counted after i ≡ counted marks i + entry_cover own i
  pub within : (i : ℕ) → inside (byte_of first_free) (used - first_free) i ≡ 0 → entry_cover own i ≡ 0
  pub lists : es ≡ listed_own own
  pub grew : Grew marks after

module _ (area : List ℕ) (used : ℕ) (whole : used % word_size ≡ 0) (marks : List ℕ) where
  bare-in : (f : ℕ) (path : List ℕ) → f ≡ 0 → EntryIn area used marks marks f path []
  unfolding entry_link EntryAt EntryRule entry_cover listed_own
  bare-in f path e = record {
    own = bare;
    lk = e;
    bytes = tt;
    rule = tt;
    count = λ i. omega arith;
    within = λ i z. refl;
    lists = refl;
    grew = grew_refl marks;
  }

  named_in : (after es : List ℕ) (at stop : ℕ) (path : List ℕ) → TextFits area used at (place_of at entry_size) stop → Holds area (place_of at entry_size) path
      → stop ≡ place_of at entry_size + length path → can_take marks (at / word_size) (room_to at stop) ≡ true
      → value_work area used (fill marks (at / word_size) (room_to at stop)) at (room_to at stop) ≡ done after es → EntryIn area used marks after at path es
  unfolding entry_link EntryAt EntryRule entry_cover listed_own
  named_in after es at stop path fits h e can work =
      let taken : List ℕ = fill marks (at / word_size) (room_to at stop) in
      let size : 4 * room_to at stop ≡ entry_takes (length path) = omega arith in
      let v = value_in area used whole taken after es at (room_to at stop) path size work in
      let val = v.0 in
      let grown : Grew marks taken = fill-grew marks (at / word_size) (room_to at stop) can in
      record {
        own = entry at (word_at area at serial_field) path val.value;
        lk = refl;
        bytes = (refl, text-holds area (place_of at entry_size) path h (ap (λ (j : ℕ). get_or area j 0) (sym e) ∙ fits.ends.there), val.bytes);
        rule = (refl, fits.aligned, val.rule);
        count = λ i. omega (arith, val.count i, took marks at (room_to at stop) (entry_takes (length path)) fits.aligned fits.low size can i);
        within = λ i z. omega (arith, val.within i z, outside used at (entry_takes (length path)) i fits.low (omega arith) z);
        lists = v.1;
        grew = grew_trans marks taken after grown val.grew;
      }

  module _ (n o : ℕ) (prefix : List ℕ) (spelled : Prefix area marks o prefix) (owned : Owned marks n o) where
    entry_in : (at : ℕ) (after es : List ℕ) → entry_work area used marks n at ≡ done after es → EntryIn area used marks after at (prefix ++ name_at area n) es
    unfolding entry_work
    entry_in at after es h = bool_cases (eqb at 0) none one
      where
        from : ℕ
        from = place_of at entry_size

        stop : ℕ
        stop = text_end area used at from

        none : eqb at 0 ≡ true → EntryIn area used marks after at (prefix ++ name_at area n) es
        none e =
            let q : done marks [] ≡ done after es = rw e at h in
            let m : marks ≡ after = cc in
            let l : [] ≡ es = cc in
            subst (λ (x : List ℕ). EntryIn area used marks after at (prefix ++ name_at area n) x) l
            (subst (λ (x : List ℕ). EntryIn area used marks x at (prefix ++ name_at area n) []) m (bare-in at (prefix ++ name_at area n) (eqb-true at 0 e)))

        one : eqb at 0 ≡ false → EntryIn area used marks after at (prefix ++ name_at area n) es
        one e =
            let can : Bool = can_take marks (at / word_size) (room_to at stop) in
            let work : Done (List ℕ) = value_work area used (fill marks (at / word_size) (room_to at stop)) at (room_to at stop) in
            let t = cond-done (ltb 0 stop && is_path area marks n from stop && can) work after es (rw e at h) in
            let u = (and-eq-true_iff (ltb 0 stop && is_path area marks n from stop) can).0 t.0 in
            let v = (and-eq-true_iff (ltb 0 stop) (is_path area marks n from stop)).0 u.0 in
            let fits = text-inv area used at from (λ z. omega (arith, ltb-true 0 stop v.0)) in
            let p = path-is (stop - from + 1) area marks n from stop o prefix spelled owned fits.ends.low v.1 in
            named_in after es at stop (prefix ++ name_at area n) fits p.0 p.1 u.1 t.1

-- ---- its place in the order
is-less : (order : Ordering) → is_less order ≡ true → order ≡ Less
is-less Less h = refl
is-less Equal h = absurd (false≢true h)
is-less Greater h = absurd (false≢true h)

follows-in : (area : List ℕ) (before n : ℕ) → follows area before n ≡ true → before ≢ 0 → segment_order (name_at area before) (name_at area n) ≡ Less
unfolding follows
follows-in area zero n h some = absurd (some refl)
follows-in area (suc before) n h some = is-less (segment_order (name_at area (suc before)) (name_at area n)) h

pub own_in : (area : List ℕ) (used : ℕ) → used % word_size ≡ 0 → (marks : List ℕ) (n o : ℕ) (prefix : List ℕ) → Prefix area marks o prefix → Owned marks n o
    → (before : ℕ) (after es : List ℕ) → own_work area used marks n before ≡ done after es
    → EntryIn area used marks after (field_at area n prop_field) (prefix ++ name_at area n) es × (before ≢ 0 → segment_order (name_at area before) (name_at area n) ≡ Less)
unfolding own_work
own_in area used whole marks n o prefix spelled owned before after es h =
    let t = cond-done (follows area before n) (entry_work area used marks n (field_at area n prop_field)) after es h in
    (entry_in area used whole marks n o prefix spelled owned (field_at area n prop_field) after es t.1, follows-in area before n t.0)
