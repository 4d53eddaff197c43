-- The stores that make an entry, and those that update one (RULES 5.5, 5.7).
use Rattle.std.specs.Prelude.{ℕ, ◌-◌, List, [], ◌∷◌, ◌++◌, length, replicate}
use Rattle.words.specs.Stores.{Store, store, word_store, text_stores}
use Rattle.layout.specs.Layout.{serial_field, slot_field, message_field, message_length, message_size, long_offset_field, place_of}
use Rattle.serials.specs.Serial.{short_serial, long_serial, dirty, updated_serial}

-- a short entry: slot bytes after the value's zero are not written
unfoldable pub short_stores : ℕ → List ℕ → List Store
short_stores at value = word_store (place_of at serial_field) (short_serial (length value)) ∷ text_stores (place_of at slot_field) value

-- "Must use __system_property_read_callback() to read"
unfoldable pub message : List ℕ
message =
    77 ∷ 117 ∷ 115 ∷ 116 ∷ 32 ∷ 117 ∷ 115 ∷ 101 ∷ 32 ∷ 95 ∷ 95 ∷ 115 ∷ 121 ∷ 115 ∷ 116 ∷ 101 ∷ 109 ∷ 95 ∷ 112 ∷ 114 ∷ 111 ∷ 112 ∷ 101 ∷ 114 ∷ 116 ∷ 121
    ∷ 95 ∷ 114 ∷ 101 ∷ 97 ∷ 100 ∷ 95 ∷ 99 ∷ 97 ∷ 108 ∷ 108 ∷ 98 ∷ 97 ∷ 99 ∷ 107 ∷ 40 ∷ 41 ∷ 32 ∷ 116 ∷ 111 ∷ 32 ∷ 114 ∷ 101 ∷ 97 ∷ 100 ∷ []

-- a long entry: the message, then six zeros; bytes 64 to 95 are not written
unfoldable pub long_stores : ℕ → ℕ → List Store
long_stores at relative =
    word_store (place_of at serial_field) long_serial
    ∷ store (place_of at message_field) (message ++ replicate (message_size - message_length) 0)
    ∷ word_store (place_of at long_offset_field) relative
    ∷ []

-- RULES 5.7: the serial with bit 0 set, the value and a zero, the updated serial
unfoldable pub write_stores : ℕ → ℕ → List ℕ → List Store
write_stores at serial value =
    word_store (place_of at serial_field) (dirty serial)
    ∷ text_stores (place_of at slot_field) value
    ++ word_store (place_of at serial_field) (updated_serial serial (length value)) ∷ []
