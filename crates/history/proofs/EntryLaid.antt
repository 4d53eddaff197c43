-- An entry laid down, its value in its slot or long: it shows the value up to its first zero.
use Prim.Native.Nat.{ℕ, ◌+◌, ◌-◌, ◌%◌, ◌≤◌, ◌<◌}
use native.Mathlib.Nat.{zero-add}
use native.Mathlib.Omega.{arith}
use mathlib.Core.Path.{◌≡◌, ap, refl, sym, ◌∙◌}
use mathlib.Core.List.{List, [], ◌∷◌, ◌++◌}
use lib.ListN.{length, get_or, take, drop, replicate, length-take, length-drop}
use lib.Seq.{get_or-take, get_or-drop}
use Rattle.words.specs.Words.{little_bytes, put, up_to_zero}
use Rattle.words.specs.Stores.{run, text_stores}
use Rattle.words.proofs.Laws.{put-length}
use Rattle.words.proofs.StoreLaws.{run-append, run_length}
use Rattle.words.proofs.Promises.{little-put-before, little-put-same}
use Rattle.layout.specs.Layout.{word_size, word_max, byte_of, place_of, word_at, entry_takes, value_takes}
use Rattle.serials.specs.Serial.{long_serial, long_in, short_serial}
use Rattle.layout.specs.Layout.{entry_size, serial_field, slot_field, slot_size, message_field, message_size, message_length, long_offset_field}
use Rattle.property_info.specs.Written.{short_stores, message, long_stores}
use Rattle.sound.specs.Tree.{short, long, entry, inside}
use Rattle.sound.specs.Sound.{HoldsText, ValueAt, EntryAt, ValueRule}
use Rattle.sound.proofs.Holding.{text-length, text-zero}
use Rattle.history.proofs.Storing.{Changed, changed_then, StoresIn, within-store, within_word, within-append, within_text, run-changed}
use Rattle.history.proofs.Storing.{holds-above, text-stored, word-before-text, text-before-text}
use Rattle.history.proofs.UpToZero.{up-most, up-whole, up-text, slot-shows}

-- ---- a short entry, its slot showing a value
pub record ShowsShort (area : List ℕ) (at serial : ℕ) (name value : List ℕ) : Type 0 where
  pub slot : List ℕ
  pub bytes : EntryAt area (entry at serial name (short slot))
  pub rule : ValueRule at serial name (short slot)
  pub value_text : up_to_zero slot ≡ up_to_zero value

module _ (area : List ℕ) (at serial : ℕ) (name value : List ℕ) (fits : byte_of at + entry_size ≤ length area) (few : length value < slot_size) where
  abbrev slot : List ℕ
  slot = take slot_size (drop (place_of at slot_field) area)

  slot-length : length slot ≡ slot_size
  slot-length = simp (length-take, length-drop) (omega arith)

  slot-byte : (k : ℕ) → k < slot_size → get_or slot k 0 ≡ get_or area (place_of at slot_field + k) 0
  slot-byte k l = get_or-take slot_size (drop (place_of at slot_field) area) k 0 l ∙ get_or-drop (place_of at slot_field) area k 0

  pub short-stands : word_at area at serial_field ≡ serial → long_in serial ≡ 0 → HoldsText area (place_of at slot_field) value
      → HoldsText area (place_of at entry_size) name → ShowsShort area at serial name value
  unfolding EntryAt ValueAt ValueRule
  short-stands word even held named = record {
    slot = slot;
    bytes = (word, named, ((λ k l. sym (slot-byte k (omega (arith, slot-length)))), slot-length));
    rule = (even, (length value, omega (arith, slot-length), slot-byte (length value) few ∙ text-zero area (place_of at slot_field) value held));
    value_text = slot-shows slot value (omega (arith, slot-length)) (λ k l. rw zero-add (slot-byte k (omega (arith, text-length value)) ∙ held k l));
  }

pub record ShortLaid (area : List ℕ) (at : ℕ) (name value b : List ℕ) : Type 0 where
  pub entry : ShowsShort b at (short_serial (length value)) name value
  pub rest : Changed area b (inside (byte_of at) (entry_takes (length name)))

module _ (area : List ℕ) (at : ℕ) (name value : List ℕ) (few : length value < slot_size) (fits : byte_of at + entry_takes (length name) ≤ length area) where
  abbrev numbered : List ℕ
  numbered = put area (place_of at serial_field) (little_bytes word_size (short_serial (length value)))

  abbrev valued : List ℕ
  valued = run numbered (text_stores (place_of at slot_field) value)

  abbrev named : List ℕ
  named = run valued (text_stores (place_of at entry_size) name)

  short-run : run area (short_stores at value ++ text_stores (place_of at entry_size) name) ≡ named
  unfolding run short_stores
  short-run = run-append numbered (text_stores (place_of at slot_field) value) (text_stores (place_of at entry_size) name)

  short-within : StoresIn (byte_of at) (entry_takes (length name)) (short_stores at value ++ text_stores (place_of at entry_size) name)
  unfolding short_stores
  short-within =
      within_word _ _ (place_of at serial_field) (short_serial (length value)) _ (omega arith) (omega arith)
      (within-append (byte_of at) (entry_takes (length name)) (text_stores (place_of at slot_field) value) (text_stores (place_of at entry_size) name)
      (within_text _ _ (place_of at slot_field) value (omega arith) (omega arith))
      (within_text _ _ (place_of at entry_size) name (omega arith) (omega arith)))

  valued-length : length valued ≡ length area
  valued-length = run_length numbered (text_stores (place_of at slot_field) value) ∙ put-length area (place_of at serial_field) (little_bytes word_size (short_serial (length value)))

  value-held : HoldsText named (place_of at slot_field) value
  value-held =
      text-before-text valued (place_of at entry_size) name (place_of at slot_field) value (omega arith)
      (text-stored numbered (place_of at slot_field) value (simp put-length (omega arith)))

  pub short-laid : ShortLaid area at name value (run area (short_stores at value ++ text_stores (place_of at entry_size) name))
  short-laid = record {
    entry = rw short-run (short-stands named at (short_serial (length value)) name value
        (omega (arith, valued-length, run_length valued (text_stores (place_of at entry_size) name))) few
        (word-before-text valued (place_of at entry_size) name (place_of at serial_field) (omega arith)
        ∙ word-before-text numbered (place_of at slot_field) value (place_of at serial_field) (omega arith)
        ∙ little-put-same word_size area (place_of at serial_field) (short_serial (length value)) (omega arith) (omega arith))
        (omega arith) value-held (text-stored valued (place_of at entry_size) name (omega (arith, valued-length))));
    rest = run-changed area (byte_of at) (entry_takes (length name)) (short_stores at value ++ text_stores (place_of at entry_size) name) short-within;
  }

-- ---- a long entry, its value behind it
pub up-takes : (value : List ℕ) → value_takes (length (up_to_zero value)) ≤ value_takes (length value)
up-takes value = omega (arith, up-most value)

pub record LongLaid (area : List ℕ) (at far : ℕ) (name value b : List ℕ) : Type 0 where
  pub bytes : EntryAt b (entry at long_serial name (long far (up_to_zero value)))
  pub rule : ValueRule at long_serial name (long far (up_to_zero value))
  pub rest : Changed area b (λ i. inside (byte_of at) (entry_takes (length name)) i + inside (byte_of far) (value_takes (length value)) i)

notice-length : length (message ++ replicate (message_size - message_length) 0) ≡ message_size
unfolding message
notice-length = refl

module _ (area : List ℕ) (at far : ℕ) (name value : List ℕ) (behind : at + entry_takes (length name) ≤ far) (aligned : far % word_size ≡ 0)
    (small : far ≤ word_max) (fits : byte_of far + value_takes (length value) ≤ length area) where
  abbrev stored : List ℕ
  stored = run area (text_stores (byte_of far) value)

  abbrev noticed : List ℕ
  noticed = put (put stored (place_of at serial_field) (little_bytes word_size long_serial)) (place_of at message_field) (message ++ replicate (message_size - message_length) 0)

  abbrev related : List ℕ
  related = put noticed (place_of at long_offset_field) (little_bytes word_size (far - at))

  stored-length : length stored ≡ length area
  stored-length = run_length area (text_stores (byte_of far) value)

  noticed-length : length noticed ≡ length area
  noticed-length = simp put-length stored-length

  abbrev laid : List ℕ
  laid = run stored (long_stores at (far - at) ++ text_stores (place_of at entry_size) name)

  long-within : StoresIn (byte_of at) (entry_takes (length name)) (long_stores at (far - at) ++ text_stores (place_of at entry_size) name)
  unfolding long_stores
  long-within =
      within_word _ _ (place_of at serial_field) long_serial _ (omega arith) (omega arith)
      (within-store _ _ (place_of at message_field) (message ++ replicate (message_size - message_length) 0) _ (omega arith) (omega (arith, notice-length))
      (within_word _ _ (place_of at long_offset_field) (far - at) _ (omega arith) (omega arith)
      (within_text _ _ (place_of at entry_size) name (omega arith) (omega arith))))

  laid-changed : Changed stored laid (inside (byte_of at) (entry_takes (length name)))
  laid-changed = run-changed stored (byte_of at) (entry_takes (length name)) (long_stores at (far - at) ++ text_stores (place_of at entry_size) name) long-within

  long-value : HoldsText laid (byte_of far) (up_to_zero value)
  long-value =
      up-text value laid (byte_of far)
      (holds-above stored _ (byte_of at) (entry_takes (length name)) laid-changed (byte_of far) (value ++ 0 ∷ []) (omega arith)
      (text-stored area (byte_of far) value (omega arith)))

  there : at + (far - at) ≡ far
  there = omega arith

  long-bytes : EntryAt laid (entry at long_serial name (long far (up_to_zero value)))
  unfolding run long_stores EntryAt ValueAt
  long-bytes = (
    word-before-text related (place_of at entry_size) name (place_of at serial_field) (omega arith)
        ∙ little-put-before word_size noticed (place_of at long_offset_field) _ (place_of at serial_field) (omega arith)
        ∙ little-put-before word_size _ (place_of at message_field) _ (place_of at serial_field) (omega arith)
        ∙ little-put-same word_size stored (place_of at serial_field) long_serial (omega (arith, stored-length)) (omega arith),
    text-stored related (place_of at entry_size) name (simp put-length (omega (arith, stored-length))),
    (
      ap (λ (k : ℕ). at + k)
          (word-before-text related (place_of at entry_size) name (place_of at long_offset_field) (omega arith)
          ∙ little-put-same word_size noticed (place_of at long_offset_field) (far - at) (omega (arith, noticed-length)) (omega arith))
          ∙ there,
      long-value,
    ),
  )

  pub long-laid : LongLaid area at far name value (run stored (long_stores at (far - at) ++ text_stores (place_of at entry_size) name))
  unfolding ValueRule
  long-laid = record {
    bytes = long-bytes;
    rule = (refl, aligned, behind, up-whole value);
    rest = changed_then area stored _ (inside (byte_of far) (value_takes (length value))) (inside (byte_of at) (entry_takes (length name))) _
        (run-changed area (byte_of far) (value_takes (length value)) (text_stores (byte_of far) value) (within_text _ _ (byte_of far) value (omega arith) (omega arith)))
        laid-changed (λ i z. omega arith);
  }
