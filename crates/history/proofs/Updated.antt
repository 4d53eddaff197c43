-- A short entry updated: none of the tests strikes, it shows the new value up to its first zero, and little else has changed.
use Prim.Native.Nat.{ℕ, ◌+◌, ◌^◌, ◌≤◌, ◌<◌}
use native.Mathlib.Omega.{arith}
use mathlib.Core.Path.{◌≡◌, ◌∙◌}
use mathlib.Core.Bool.{false}
use mathlib.Core.List.{List, [], ◌∷◌, ◌++◌}
use lib.ListN.{length}
use borrow.Author.Tests.{ne_eqb, le-ltb}
use Rattle.words.specs.Words.{little_bytes, put, up_to_zero}
use Rattle.words.specs.Stores.{run, text_stores}
use Rattle.words.proofs.Laws.{length-little, put-length, put-after}
use Rattle.words.proofs.StoreLaws.{run-append, run_length}
use Rattle.words.proofs.Promises.{little-put-same}
use Rattle.layout.specs.Layout.{word_size, entry_size, serial_field, slot_field, slot_size, backup_at, backup_size, first_free, data_size, byte_of, place_of}
use Rattle.layout.specs.Refusals.{accept_leaving}
use Rattle.serials.specs.Serial.{dirty, updated_serial}
use Rattle.property_info.specs.Entry.{is_long}
use Rattle.property_info.specs.Written.{write_stores}
use Rattle.property_info.proofs.Laws.{short-is}
use Rattle.property_info.proofs.WrittenLaws.{write-run}
use Rattle.serials.proofs.Promises.{updated-short}
use Rattle.updates.specs.Update.{backup_stores, slot_text, update_stores, update_entry}
use Rattle.updates.proofs.Laws.{value-fine}
use Rattle.sound.specs.Tree.{short, entry, inside}
use Rattle.sound.specs.Sound.{HoldsText, ValueAt, EntryAt, ValueRule}
use Rattle.history.proofs.Storing.{Changed, changed_then, StoresIn, within_none, within_word, within-append, within_text, run-changed, holds-above, text-stored}
use Rattle.history.proofs.UpToZero.{up-before, up-whole, up-held, scan-shows}
use Rattle.history.proofs.EntryLaid.{ShowsShort, short-stands}

pub record ShortUpdated (area : List ℕ) (at serial : ℕ) (name value b : List ℕ) : Type 0 where
  pub entry : ShowsShort b at (updated_serial serial (length value)) name value
  pub rest : Changed area b (λ i. inside (place_of at serial_field) entry_size i + inside (byte_of backup_at) backup_size i)

-- an entry with a short value, behind the backup slot
module _ (area : List ℕ) (at serial : ℕ) (name slot : List ℕ) (held : EntryAt area (entry at serial name (short slot))) (rule : ValueRule at serial name (short slot))
    (low : first_free ≤ at) (fits : byte_of at + entry_size ≤ length area) where
  -- ---- the old value
  pub slot-text : slot_text area at ≡ up_to_zero slot
  unfolding EntryAt ValueAt ValueRule
  slot-text =
      scan-shows area (place_of at slot_field) (up_to_zero slot) (up-held slot area (place_of at slot_field) held.2.0 (up-before slot rule.1)) (up-whole slot)
      slot_size (omega (arith, up-before slot rule.1, held.2.1)) (omega (arith, up-before slot rule.1, held.2.1))

  pub slot-text-few : length (slot_text area at) < slot_size
  unfolding EntryAt ValueAt ValueRule
  slot-text-few = rw slot-text (omega (arith, up-before slot rule.1, held.2.1))

  pub is-short : is_long area at ≡ false
  unfolding EntryAt ValueRule
  is-short = short-is area at serial held.0 rule.0

  module _ (value : List ℕ) (few : length value < slot_size) where
    pub update-tests : update_entry area value at ≡ accept_leaving (run area (update_stores area at value))
    unfolding update_entry
    update-tests =
        rw (
          is-short,
          ← value-fine value few,
          ne_eqb (length (slot_text area at)) slot_size (λ e. omega (arith, slot-text-few)),
          le-ltb (data_size area) (backup_at + length (slot_text area at) + 1) (omega (arith, slot-text-few)),
        )

    -- ---- the stores
    abbrev backed : List ℕ
    backed = run area (backup_stores (slot_text area at))

    abbrev dirtied : List ℕ
    dirtied = put backed (place_of at serial_field) (little_bytes word_size (dirty serial))

    abbrev valued : List ℕ
    valued = run dirtied (text_stores (place_of at slot_field) value)

    abbrev done : List ℕ
    done = put valued (place_of at serial_field) (little_bytes word_size (updated_serial serial (length value)))

    stored : run area (update_stores area at value) ≡ run backed (write_stores at serial value)
    unfolding update_stores EntryAt
    stored = rw held.0 (run-append area (backup_stores (slot_text area at)) (write_stores at serial value))

    valued-length : length valued ≡ length area
    valued-length =
        run_length dirtied (text_stores (place_of at slot_field) value) ∙ put-length backed (place_of at serial_field) (little_bytes word_size (dirty serial))
        ∙ run_length area (backup_stores (slot_text area at))

    backed-changed : Changed area backed (inside (byte_of backup_at) backup_size)
    backed-changed =
        run-changed area (byte_of backup_at) backup_size (backup_stores (slot_text area at))
        (within_text (byte_of backup_at) backup_size (byte_of backup_at) (slot_text area at) (omega arith) (omega (arith, slot-text-few)))

    write-within : StoresIn (place_of at serial_field) entry_size (write_stores at serial value)
    unfolding write_stores
    write-within =
        within_word _ _ (place_of at serial_field) (dirty serial) _ (omega arith) (omega arith)
        (within-append _ _ (text_stores (place_of at slot_field) value) _
        (within_text _ _ (place_of at slot_field) value (omega arith) (omega arith))
        (within_word _ _ (place_of at serial_field) (updated_serial serial (length value)) [] (omega arith) (omega arith) (within_none _ _)))

    write-changed : Changed backed (run backed (write_stores at serial value)) (inside (place_of at serial_field) entry_size)
    write-changed = run-changed backed (place_of at serial_field) entry_size (write_stores at serial value) write-within

    -- ---- the entry afterwards
    small : updated_serial serial (length value) < 2 ^ 32
    unfolding updated_serial
    small = omega arith

    value-held : HoldsText done (place_of at slot_field) value
    value-held k l =
        put-after valued (place_of at serial_field) (little_bytes word_size (updated_serial serial (length value))) (place_of at slot_field + k)
        (omega (arith, length-little word_size (updated_serial serial (length value))))
        ∙ text-stored dirtied (place_of at slot_field) value (simp put-length (omega (arith, run_length area (backup_stores (slot_text area at))))) k l

    name-held : HoldsText (run backed (write_stores at serial value)) (place_of at entry_size) name
    unfolding EntryAt
    name-held =
        holds-above backed _ (place_of at serial_field) entry_size write-changed (place_of at entry_size) (name ++ 0 ∷ []) (omega arith)
        (holds-above area backed (byte_of backup_at) backup_size backed-changed (place_of at entry_size) (name ++ 0 ∷ []) (omega arith) held.1)

    pub updated : ShortUpdated area at serial name value (run area (update_stores area at value))
    updated =
        rw stored (record {
          entry = rw (write-run backed at serial value) (short-stands done at (updated_serial serial (length value)) name value
              (omega (arith, valued-length, put-length valued (place_of at serial_field) (little_bytes word_size (updated_serial serial (length value))))) few
              (little-put-same word_size valued (place_of at serial_field) (updated_serial serial (length value)) (omega (arith, valued-length)) small)
              (updated-short serial (length value)) value-held (rw (write-run backed at serial value) at name-held));
          rest = changed_then area backed (run backed (write_stores at serial value)) (inside (byte_of backup_at) backup_size) (inside (place_of at serial_field) entry_size) _
              backed-changed write-changed (λ i z. omega arith);
        })
