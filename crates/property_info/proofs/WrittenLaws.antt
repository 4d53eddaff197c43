-- Laws of specs/Written.antt: each run of stores as code makes it.
use mathlib.Core.Path.{◌≡◌}
use mathlib.Core.List.{List, [], ◌∷◌}
use Prim.Native.Nat.{ℕ}
use lib.ListN.{length}
use Rattle.words.specs.Words.{little_bytes, put}
use Rattle.words.specs.Stores.{run, word_store, text_stores}
use Rattle.words.proofs.StoreLaws.{run-append}
use Rattle.layout.specs.Layout.{serial_field, slot_field, place_of}
use Rattle.serials.specs.Serial.{dirty, updated_serial}
use Rattle.property_info.specs.Written.{write_stores}

-- ---- an entry's stores
pub write-run : (area : List ℕ) (at serial : ℕ) (value : List ℕ)
    → run area (write_stores at serial value)
    ≡ put (run (put area (place_of at serial_field) (little_bytes 4 (dirty serial))) (text_stores (place_of at slot_field) value)) (place_of at serial_field) (little_bytes 4 (updated_serial serial (length value)))
unfolding write_stores run
write-run area at serial value =
    run-append area (word_store (place_of at serial_field) (dirty serial) ∷ text_stores (place_of at slot_field) value) (word_store (place_of at serial_field) (updated_serial serial (length value)) ∷ [])

pub ruleset written = (write-run)
