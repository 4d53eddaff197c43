-- The entry part of an add, at a node of a sound area: it comes to one of the outcomes, and the area stays sound.
use Prim.Native.Nat.{ℕ, ◌+◌, ◌-◌, ◌%◌, ◌≤◌, ◌<◌}
use native.Mathlib.Omega.{arith}
use native.Mathlib.Decide.{dec_lt}
use mathlib.Core.Path.{◌≡◌, refl, sym, ◌∙◌}
use mathlib.Core.List.{List, [], ◌∷◌, ◌++◌}
use lib.ListN.{length}
use borrow.Author.Tests.{ne_eqb, lt-ltb, le-ltb}
use Rattle.words.specs.Words.{up_to_zero}
use Rattle.words.specs.Stores.{run, word_store, text_stores}
use Rattle.words.proofs.StoreLaws.{run_length}
use Rattle.layout.specs.Layout.{word_size, used_field, prop_field, entry_size, slot_size, data_size, byte_of, place_of, header_word, entry_takes, value_takes}
use Rattle.serials.specs.Serial.{long_serial, short_serial}
use Rattle.layout.proofs.Promises.{touch-yes}
use Rattle.property_info.specs.Written.{short_stores, long_stores}
use Rattle.allocation.specs.Steps.{goes, and_then, link_to}
use Rattle.allocation.specs.Allocate.{allocate}
use Rattle.entries.specs.Entries.{lay_entry, long_entry, new_entry, add_entry}
use Rattle.sound.specs.Tree.{short, long, Entry, bare, entry, Tree, node, entry_link, inside, value_cover, entry_cover}
use Rattle.sound.specs.Sound.{EntryRule, TreeRule, Sound}
use Rattle.sound.specs.Ways.{Dir, reached}
use Rattle.sound.proofs.Inside.{inside-below, inside-high, inside-part, inside-join}
use Rattle.sound.proofs.Framing.{word-frame}
use Rattle.growth.specs.Plug.{plug}
use Rattle.growth.proofs.Rules.{prefix_at, rule-there}
use Rattle.finding.proofs.NodeReads.{node-touched, prop-word, own_room, entry-lies}
use Rattle.history.specs.Lack.{entry_needs}
use Rattle.history.proofs.Storing.{Changed, changed_then}
use Rattle.history.proofs.NodeLaid.{WordSet}
use Rattle.history.proofs.EntryLaid.{ShortLaid, short-laid, up-takes, LongLaid, long-laid}
use Rattle.history.proofs.Rooms.{room-given, room-full}
use Rattle.history.proofs.EntryHung.{data-small, mark_set, mark-moved, node-stands, entry-hung}
use Rattle.history.proofs.EntryAdded.{Laid, EntryAdded, kept, added, no_entry, no_value, rooms-short, rooms-long, needs-short, needs-long}

module _ (area : List ℕ) (used : ℕ) (tree : Tree) (way : List Dir) (at : ℕ) (name : List ℕ) (left below right : Tree)
    (there : reached tree way ≡ node at name bare left below right) (sound : Sound area used tree)
    (full value : List ℕ) (whole : full ≡ prefix_at [] tree way ++ name) where
  -- a zero prop: the entry, then prop
  bare-new : add_entry area full value at ≡ and_then (new_entry area full value) (λ far laid. link_to laid (at + prop_field) far)
  unfolding add_entry entry_link
  bare-new =
      let stands = node-stands area used tree way at name bare left below right there sound in
      rw (node-touched area used stands.0 at name bare left below right stands.1, prop-word area used stands.0 at name bare left below right stands.1)

  prop-place : byte_of (at + prop_field) ≡ place_of at prop_field
  prop-place = omega arith

  -- ---- room for the entry
  module _ (fits : used + entry_takes (length full) ≤ data_size area) where
    -- its end
    abbrev far : ℕ
    far = used + entry_takes (length full)

    far-aligned : (used + entry_takes (length full)) % word_size ≡ 0
    far-aligned = omega (arith, sound.front.aligned)

    abbrev given : List ℕ
    given = run area (word_store used_field far ∷ [])

    marked : WordSet area used_field far given
    marked = mark_set area used tree sound far fits

    given-sound : Sound given far tree
    given-sound = mark-moved area used tree sound far (omega arith) fits far-aligned

    entry-given : allocate area (entry_takes (length full)) ≡ goes used given (entry_takes (length full) ∷ [])
    entry-given = room-given area (entry_takes (length full)) used sound.front.mark (data-small area used tree sound) fits

    -- ---- the value in its slot
    module _ (few : length value < slot_size) where
      abbrev slotted : List ℕ
      slotted = run given (short_stores used value ++ text_stores (place_of used entry_size) full)

      short-new : new_entry area full value ≡ goes used slotted (entry_takes (length full) ∷ [])
      unfolding new_entry lay_entry
      short-new =
          rw (
            entry-given,
            lt-ltb (length value) slot_size few,
            touch-yes given entry_size used (omega (arith, marked.rest.size)) sound.front.aligned,
          )

      laid : ShortLaid given used full value slotted
      laid = short-laid given used full value few (omega (arith, marked.rest.size))

      slot-hung : Sound (run slotted (word_store (place_of at prop_field) used ∷ [])) far
          (plug tree way (node at name (entry used (short_serial (length value)) full (short laid.entry.slot)) left below right))
      unfolding entry_link EntryRule entry_cover value_cover
      slot-hung =
          entry-hung area used tree way at name left below right there sound slotted (entry_takes (length full))
          (entry used (short_serial (length value)) full (short laid.entry.slot)) fits far-aligned
          (word-frame given slotted used_field (λ i k. laid.rest.kept i (inside-below (byte_of used) (entry_takes (length full)) i (omega (arith, inside-high used_field word_size i k))))
          ∙ marked.word)
          (changed_then area given slotted (inside used_field word_size) (inside (byte_of used) (entry_takes (length full))) _ marked.rest laid.rest (λ i z. omega arith))
          (omega (arith, sound.front.high, data-small area used tree sound)) laid.entry.bytes (λ i. omega arith)
          (whole, sound.front.aligned, laid.entry.rule)

      short-added : EntryAdded area used tree way at name bare left below right full value (add_entry area full value at)
      unfolding Laid
      short-added =
          added (run slotted (word_store (place_of at prop_field) used ∷ [])) (short_serial (length value)) (short laid.entry.slot) refl
          (rw (needs-short full value few) fits) (rw (rooms-short full value few) (bare-new ∙ rw (short-new, prop-place)))
          (rw (needs-short full value few) slot-hung) (few, refl, laid.entry.value_text)

    -- ---- a long value behind it
    module _ (many : slot_size ≤ length value) where
      end : used + entry_needs full value ≡ far + value_takes (length value)
      end = rw (needs-long full value many) (omega arith)

      no_value_lem : data_size area < far + value_takes (length value) → EntryAdded area used tree way at name bare left below right full value (add_entry area full value at)
      unfolding new_entry long_entry
      no_value_lem past =
          no_value given refl fits (omega (arith, end))
          (rw end (bare-new ∙ rw (entry-given, le-ltb (length value) slot_size many, room-full given (value_takes (length value)) far marked.word (omega (arith, marked.rest.size)))))
          given-sound

      module _ (room : far + value_takes (length value) ≤ data_size area) where
        abbrev grown : List ℕ
        grown = run given (word_store used_field (far + value_takes (length value)) ∷ [])

        remarked : WordSet given used_field (far + value_takes (length value)) grown
        remarked = mark_set given far tree given-sound (far + value_takes (length value)) (omega (arith, marked.rest.size))

        value-given : allocate given (value_takes (length value)) ≡ goes far grown (value_takes (length value) ∷ [])
        value-given =
            room-given given (value_takes (length value)) far marked.word (data-small given far tree given-sound) (omega (arith, marked.rest.size))

        abbrev both : List ℕ
        both = run (run grown (text_stores (byte_of far) value)) (long_stores used (far - used) ++ text_stores (place_of used entry_size) full)

        both-size : length (run grown (text_stores (byte_of far) value)) ≡ length area
        both-size = run_length grown (text_stores (byte_of far) value) ∙ remarked.rest.size ∙ marked.rest.size

        long-new : new_entry area full value ≡ goes used both (entry_takes (length full) ∷ value_takes (length value) ∷ [])
        unfolding new_entry long_entry lay_entry
        long-new =
            rw (
              entry-given,
              le-ltb (length value) slot_size many,
              value-given,
              touch-yes (run grown (text_stores (byte_of far) value)) entry_size used (omega (arith, both-size)) sound.front.aligned,
            )

        stored : LongLaid grown used far full value both
        stored =
            long-laid grown used far full value (omega arith) far-aligned (omega (arith, data-small area used tree sound)) (omega (arith, remarked.rest.size, marked.rest.size))

        -- the entry and its value, end to end
        abbrev takes : ℕ
        takes = entry_takes (length full) + value_takes (length value)

        over : used + takes ≡ far + value_takes (length value)
        over = omega arith

        joined : (i : ℕ) → inside (byte_of used) (entry_takes (length full)) i + inside (byte_of far) (value_takes (length value)) i ≡ inside (byte_of used) takes i
        joined i =
            let e : byte_of far ≡ byte_of used + entry_takes (length full) = omega arith in
            rw e (inside-join (byte_of used) (entry_takes (length full)) (value_takes (length value)) i)

        both-mark : header_word both used_field ≡ used + takes
        both-mark =
            word-frame grown both used_field (λ i k. let below = inside-high used_field word_size i k in stored.rest.kept i
            (omega (arith, joined i, inside-below (byte_of used) takes i (omega arith))))
            ∙ remarked.word ∙ sym over

        both-changed : Changed area both (λ i. inside used_field word_size i + inside (byte_of used) takes i)
        both-changed =
            changed_then area given both (inside used_field word_size) (λ i. inside used_field word_size i + inside (byte_of used) takes i) _ marked.rest
            (changed_then given grown both (inside used_field word_size) _ _ remarked.rest stored.rest (λ i z. omega (arith, joined i)))
            (λ i z. omega arith)

        far-hung : Sound (run both (word_store (place_of at prop_field) used ∷ [])) (used + takes)
            (plug tree way (node at name (entry used long_serial full (long far (up_to_zero value))) left below right))
        unfolding entry_link EntryRule entry_cover value_cover
        far-hung =
            entry-hung area used tree way at name left below right there sound both takes (entry used long_serial full (long far (up_to_zero value)))
            (omega arith) (omega (arith, far-aligned)) both-mark both-changed
            (omega (arith, sound.front.high, data-small area used tree sound)) stored.bytes
            (λ i. omega (
              arith,
              joined i,
              inside-part (byte_of far) (value_takes (length value)) (byte_of far) (value_takes (length (up_to_zero value))) i (omega arith) (omega (arith, up-takes value)),
            ))
            (whole, sound.front.aligned, stored.rule)

        long-added : EntryAdded area used tree way at name bare left below right full value (add_entry area full value at)
        unfolding Laid
        long-added =
            added (run both (word_store (place_of at prop_field) used ∷ [])) long_serial (long far (up_to_zero value)) refl
            (omega (arith, end)) (rw (rooms-long full value many) (bare-new ∙ rw (long-new, prop-place)))
            (rw (needs-long full value many) far-hung) (many, refl, refl, refl)

  -- ---- no room for the entry
  no-entry : data_size area < used + entry_takes (length full) → EntryAdded area used tree way at name bare left below right full value (add_entry area full value at)
  unfolding new_entry
  no-entry past = no_entry refl past (bare-new ∙ rw (room-full area (entry_takes (length full)) used sound.front.mark past))

  bare-added : EntryAdded area used tree way at name bare left below right full value (add_entry area full value at)
  bare-added = by (dec_lt (data_size area) (used + entry_takes (length full))) (dec_lt (length value) slot_size)
      (dec_lt (data_size area) (used + entry_takes (length full) + value_takes (length value)))
    where
      by : Dec (data_size area < used + entry_takes (length full)) → Dec (length value < slot_size)
          → Dec (data_size area < used + entry_takes (length full) + value_takes (length value))
          → EntryAdded area used tree way at name bare left below right full value (add_entry area full value at)
      by (yes p) q r = no-entry p
      by (no p) (yes q) r = short-added (omega arith) q
      by (no p) (no q) (yes r) = no_value_lem (omega arith) (omega arith) r
      by (no p) (no q) (no r) = long-added (omega arith) (omega arith) (omega arith)

-- ---- any node
pub add-entry : (area : List ℕ) (used : ℕ) (tree : Tree) (way : List Dir) (at : ℕ) (name : List ℕ) (own : Entry) (left below right : Tree)
    → reached tree way ≡ node at name own left below right → Sound area used tree → (full value : List ℕ) → full ≡ prefix_at [] tree way ++ name
    → EntryAdded area used tree way at name own left below right full value (add_entry area full value at)
unfolding add_entry entry_link TreeRule EntryRule
add-entry area used tree way at name bare left below right there sound full value whole = bare-added area used tree way at name left below right there sound full value whole
add-entry area used tree way at name (entry far serial named v) left below right there sound full value whole =
    let stands = node-stands area used tree way at name (entry far serial named v) left below right there sound in
    let lies = entry-lies used far serial named v stands.1.low (own_room area used stands.0 at name (entry far serial named v) left below right stands.1) in
    let rule = rule-there way [] tree at name (entry far serial named v) left below right there sound.rule in
    kept far serial v (rw (rule.1.0 ∙ sym whole))
    (rw (
      node-touched area used stands.0 at name (entry far serial named v) left below right stands.1,
      prop-word area used stands.0 at name (entry far serial named v) left below right stands.1,
      ne_eqb far 0 (λ e. omega (arith, lies)),
    ))
