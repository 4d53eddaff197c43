-- The name, the value and the serial of an entry in a sound area, read from the bytes, are the tree's.
use Prim.Native.Nat.{ℕ, zero, suc, ◌+◌, ◌-◌, ◌≤◌}
use native.Mathlib.Nat.{add-zero, add_assoc}
use native.Mathlib.Omega.{arith}
use mathlib.Core.Path.{◌≡◌, refl, sym, ap, ◌∙◌}
use mathlib.Core.Bool.{true}
use mathlib.Core.List.{List, ◌++◌}
use lib.Dec.{eqb}
use lib.ListN.{length, get_or, take}
use lib.Seq.{get_or-take, length-take-le}
use Rattle.finding.specs.Look.{value_text}
use Rattle.words.specs.Words.{first_in, part}
use Rattle.words.proofs.Laws.{bool_cases, clash, first-high}
use Rattle.std.specs.Prelude.{Option}
use Rattle.layout.specs.declared.text.Span.{Span}
use Rattle.layout.specs.Layout.{entry_size, serial_field, slot_field, slot_size, long_offset_field, first_free, data_size, byte_of, place_of, word_at, entry_ok, entry_takes, value_takes, span_at}
use Rattle.layout.specs.Refusals.{accepted}
use Rattle.trie.specs.Header.{header_ok}
use Rattle.property_area.specs.Value.{bytes, part_steps, part_or_none}
use Rattle.property_area.proofs.ValueLaws.{part_bytes}
use Rattle.property_info.specs.Entry.{short_value, text_from, name_of, long_value, value_of}
use Rattle.property_info.proofs.Laws.{long-is, short-is, long-behind, value-long, value-short}
use Rattle.sound.specs.Tree.{Value, short, long, entry, Tree, leaf, node, value_cover, entry_cover}
use Rattle.sound.specs.Sound.{Holds, HoldsText, ValueAt, EntryAt, TreeAt, Without, ValueRule, EntryRule, TreeRule}
use Rattle.sound.proofs.Holding.{text-bytes}
use Rattle.finding.proofs.NodeReads.{part-holds, text-reads, Standing, InRoom, between, path-whole, own_room, entry-lies, own-touched}
use Rattle.finding.proofs.Spelling.{own_of}

-- the scan over bytes that stand in an area is the scan over these bytes
first-shift : (k : ℕ) (area : List ℕ) (from : ℕ) (bs : List ℕ) (i : ℕ) → Holds area from bs → i + k ≤ length bs
    → first_in 0 area (from + i) k ≡ from + first_in 0 bs i k
unfolding first_in
first-shift zero area from bs i h l = refl
first-shift (suc k) area from bs i h l =
    let here : get_or area (from + i) 0 ≡ get_or bs i 0 = h i (omega arith) in
    bool_cases (eqb (get_or bs i 0) 0)
    (λ t. rw (here, t))
    (λ t. rw (here, t, add_assoc) (first-shift k area from bs (i + 1) h (omega arith)))

-- a part of the area that shows some bytes
pub record Reads (area : List ℕ) (span : Option Span) (shown : List ℕ) : Type 0 where
  pub from : ℕ
  pub to : ℕ
  pub is : span ≡ span_at from to
  pub bytes : part area from to ≡ shown

-- where its entry can be touched, that part is told
pub part-shown : (area : List ℕ) (at : ℕ) (span : Option Span) (shown : List ℕ) → header_ok area ≡ true → entry_ok area at ≡ true → Reads area span shown
    → (from : ℕ) × (to : ℕ) × (part_steps area at span ≡ accepted (bytes from to)) × (part_or_none area (part_steps area at span) ≡ shown)
part-shown area at span shown header touched reads =
    let there = sym (part_bytes area at span header touched span refl reads.from reads.to reads.is) in
    (reads.from, reads.to, there, rw there reads.bytes)

module _ (area : List ℕ) (used : ℕ) (low : first_free ≤ used) (high : used ≤ data_size area) (at serial : ℕ) (name : List ℕ)
    (lies : (first_free ≤ at) × (at + entry_takes (length name) ≤ used)) where
  short-reads : (slot : List ℕ) → Holds area (place_of at slot_field) slot → length slot ≡ slot_size → Reads area (short_value area at) (value_text (short slot))
  unfolding short_value value_text
  short-reads slot holds size =
      let to : ℕ = first_in 0 slot 0 (length slot) in
      let most = first-high 0 slot 0 (length slot) in
      let full : length (take to slot) ≡ to = length-take-le to slot (omega arith) in
      let there : first_in 0 area (place_of at slot_field) slot_size ≡ place_of at slot_field + length (take to slot) =
      ap (λ (k : ℕ). first_in 0 area (place_of at slot_field) k) (sym size) ∙ ap (λ (i : ℕ). first_in 0 area i (length slot)) (sym (add-zero (place_of at slot_field)))
      ∙ first-shift (length slot) area (place_of at slot_field) slot 0 holds (omega arith) ∙ ap (λ (k : ℕ). place_of at slot_field + k) (sym full) in
      record {
        from = place_of at slot_field;
        to = place_of at slot_field + length (take to slot);
        is = ap (span_at (place_of at slot_field)) there;
        bytes = part-holds area (place_of at slot_field) (take to slot) (λ k l. holds k (omega arith) ∙ sym (get_or-take to slot k 0 (omega arith))) (omega (arith, lies));
      }

  module _ (named : HoldsText area (place_of at entry_size) name) (whole : Without 0 name) where
    name-reads : name_of area at ≡ span_at (place_of at entry_size) (place_of at entry_size + length name)
    unfolding name_of
    name-reads =
        text-reads area (place_of at entry_size) name named whole (length area - place_of at entry_size) (omega (arith, lies)) (omega (arith, lies))

    name-part : Reads area (name_of area at) name
    name-part = record {
      from = place_of at entry_size;
      to = place_of at entry_size + length name;
      is = name-reads;
      bytes = part-holds area (place_of at entry_size) name (text-bytes area (place_of at entry_size) name named) (omega (arith, lies));
    }

    long-reads : (far : ℕ) (text : List ℕ) → at + word_at area at long_offset_field ≡ far → HoldsText area (byte_of far) text → at + entry_takes (length name) ≤ far
        → Without 0 text → far + value_takes (length text) ≤ used → Reads area (long_value area at) text
    long-reads far text word holds behind clean fits =
        let from : ℕ = place_of at entry_size in
        let there : place_of at (word_at area at long_offset_field) ≡ byte_of far = omega (arith, word) in
        record {
          from = byte_of far;
          to = byte_of far + length text;
          is = sym (long-behind area at (name_of area at) refl from (from + length name) name-reads (word_at area at long_offset_field) refl (omega (arith, word)))
              ∙ ap (λ (i : ℕ). text_from area i) there
              ∙ text-reads area (byte_of far) text holds clean (length area - byte_of far) (omega arith) (omega arith);
          bytes = part-holds area (byte_of far) text (text-bytes area (byte_of far) text holds) (omega arith);
        }

    -- short or long, by bit 16 of the serial
    pub value-reads : (value : Value) → word_at area at serial_field ≡ serial → ValueAt area at value → ValueRule at serial name value
        → InRoom used (value_cover value) → Reads area (value_of area at) (value_text value)
    unfolding ValueAt ValueRule value_cover value_text
    value-reads (short slot) word holds rule within =
        rw (← value-short area at (short-is area at serial word rule.0)) (short-reads slot holds.0 holds.1)
    value-reads (long far text) word holds rule within =
        let fits = between used far (value_takes (length text)) low (omega arith) within in
        rw (← value-long area at (long-is area at serial word rule.0)) (long-reads far text holds.0 holds.1 rule.2 rule.3 fits.1)

-- ---- the entry of the top node of a subtree: it can be touched, and its value, its name and its serial are read
pub own-reads : (area : List ℕ) (used : ℕ) (prefix : List ℕ) (tree : Tree) (at serial : ℕ) (name : List ℕ) (value : Value) → Standing area used prefix tree
    → own_of tree ≡ entry at serial name value
    → (entry_ok area at ≡ true) × Reads area (value_of area at) (value_text value) × Reads area (name_of area at) name × (word_at area at serial_field ≡ serial)
unfolding TreeAt TreeRule EntryAt EntryRule entry_cover
own-reads area used prefix leaf at serial name value stands is = clash cc
own-reads area used prefix (node place segment own left below right) at serial name value stands is =
    let rule : EntryRule (prefix ++ segment) (entry at serial name value) = rw is at stands.rule.1 in
    let holds : EntryAt area (entry at serial name value) = rw is at stands.bytes.1 in
    let within : InRoom used (entry_cover (entry at serial name value)) = λ i. rw is at (own_room area used prefix place segment own left below right stands i) in
    let whole : Without 0 name = rw rule.0 (path-whole area used prefix place segment own left below right stands) in
    let lies = entry-lies used at serial name value stands.low within in (
      (own-touched area used (prefix ++ segment) (entry at serial name value) stands.low stands.high within rule).1,
      value-reads area used stands.low stands.high at serial name lies holds.1 whole value holds.0 holds.2 rule.2 (λ i. omega (arith, within i)),
      name-part area used stands.low stands.high at serial name lies holds.1 whole,
      holds.0,
    )
