-- No call on a sound area answers with damage or a bad header, whatever its buffers and however the area is judged.
use Prim.Native.Nat.{ℕ, ◌+◌}
use native.Mathlib.Omega.{arith}
use mathlib.Core.Path.{◌≡◌, refl}
use mathlib.Core.Bool.{true, false}
use mathlib.Core.List.{List}
use lib.ListN.{length}
use lib.Dec.{leb, ltb}
use borrow.Author.Tests.{leb-false, le-leb, le-ltb}
use Rattle.words.specs.Stores.{run}
use Rattle.words.proofs.Laws.{bool_cases}
use Rattle.words.proofs.StoreLaws.{run_length}
use Rattle.layout.specs.declared.refusal.Refusal.{Refusal}
use Rattle.layout.specs.Layout.{format_min, area_max, entry_size, slot_size, backup_at, backup_size, data_size, entry_ok}
use Rattle.layout.specs.Refusals.{Answer, accepted, refused, number_of, no_refusal, number_in}
use Rattle.layout.proofs.Promises.{touch-yes, touch-says}
use Rattle.property_area.specs.Find.{Hit, hit, by_hit, find_steps}
use Rattle.property_area.specs.Value.{value_steps, name_steps, serial_steps}
use Rattle.property_area.specs.Lookup.{lookup_steps}
use Rattle.property_area.specs.Backup.{backup_steps}
use Rattle.property_area.proofs.Promises.{found_ok}
use Rattle.property_info.specs.Entry.{is_long}
use Rattle.trie.proofs.HeaderLaws.{header-max}
use Rattle.builder.specs.Fresh.{format_steps}
use Rattle.updates.specs.Update.{value_verdict, backup_past_area, backup_stores, raw_entry, raw_steps}
use Rattle.sound.specs.Tree.{Tree, listed}
use Rattle.sound.specs.Sound.{Sound}
use Rattle.finding.proofs.Promises.{find-refusals, found-own, value-shown, name-shown, serial-shown}
use Rattle.audit.specs.Check.{Judged, sound, unsound, scratch_min, survey_steps, check_steps, Listing, lists, list_steps}
use Rattle.dumping.specs.Dump.{dump_text, fill_listing, fill_steps}
use Rattle.history.specs.Calls.{answer_number, listing_number, filled_number, Answers, by_format, by_call, by_find, by_lookup, by_value, by_name, by_serial, by_raw, by_backup, by_check, by_list, by_dump, Undamaged}
use Rattle.history.proofs.Undamaged.{mild, undamaged, found-mild}
use Rattle.history.proofs.Next.{next}
use Rattle.history.proofs.Telling.{by-mark}

-- the other answers: accepted (0), too long (6), a long entry (7), a short buffer (10)
accepted-whole : Undamaged no_refusal
accepted-whole = (λ z. omega (arith, z), λ z. omega (arith, z))

too_long-whole : Undamaged (number_of Refusal.TooLong)
too_long-whole = undamaged _ (mild Refusal.TooLong refl refl)

long_entry-whole : Undamaged (number_of Refusal.LongEntry)
long_entry-whole = undamaged _ (mild Refusal.LongEntry refl refl)

short-whole : Undamaged (number_of Refusal.ShortBuffer)
short-whole = undamaged _ (mild Refusal.ShortBuffer refl refl)

module _ (area : List ℕ) (used : ℕ) (tree : Tree) (whole : Sound area used tree) where
  -- ---- anew
  format-whole : Undamaged (number_in (format_steps area))
  unfolding format_steps
  format-whole =
      rw (
        le-leb format_min (length area) (omega (arith, whole.front.low, whole.front.high)),
        le-leb (length area) area_max (header-max area whole.front.header),
      )
      accepted-whole

  -- ---- of what find found
  module _ (name : List ℕ) (at count : ℕ) (found : find_steps area name ≡ accepted (hit at count)) where
    value-whole : Undamaged (answer_number (value_steps area at))
    value-whole =
        let own = found-own area used tree whole name at count found in
        let value = value-shown area used tree whole own.0 at own.1 name own.2 own.3 in
        rw value.2 accepted-whole

    name-whole : Undamaged (answer_number (name_steps area at))
    name-whole =
        let own = found-own area used tree whole name at count found in
        let named = name-shown area used tree whole own.0 at own.1 name own.2 own.3 in
        rw named.2 accepted-whole

    serial-whole : Undamaged (answer_number (serial_steps area at))
    serial-whole =
        let own = found-own area used tree whole name at count found in
        rw (serial-shown area used tree whole own.0 at own.1 name own.2 own.3) accepted-whole

    raw-whole : (backup value : List ℕ) → Undamaged (number_in (raw_steps area at backup value))
    unfolding raw_steps raw_entry value_verdict
    raw-whole backup value =
        bool_cases (leb backup_size (length backup))
        (λ t. rw (whole.front.header, t) too_long-whole)
        (λ t. rw (whole.front.header, t, fits t, touched)
        (bool_cases (is_long (run area (backup_stores backup)) at)
        (λ l. rw l long_entry-whole)
        (λ l. bool_cases (leb slot_size (length value)) (λ v. rw (l, v) too_long-whole) (λ v. rw (l, v) accepted-whole))))
      where
        fits : leb backup_size (length backup) ≡ false → backup_past_area area backup ≡ false
        fits t = le-ltb (data_size area) (backup_at + length backup + 1) (omega (arith, leb-false backup_size (length backup) t, whole.front.low, whole.front.high))

        touched : entry_ok (run area (backup_stores backup)) at ≡ true
        touched =
            let lies = touch-says area entry_size at (found_ok area name at count found) in
            touch-yes (run area (backup_stores backup)) entry_size at (omega (arith, lies.0, run_length area (backup_stores backup))) lies.1

  -- ---- of a name
  find-whole : (name : List ℕ) → Undamaged (answer_number (find_steps area name))
  find-whole name = by (find_steps area name) refl
    where
      by : (answer : Answer Hit) → find_steps area name ≡ answer → Undamaged (answer_number answer)
      by (accepted found) e = accepted-whole
      by (refused number) e = undamaged number (found-mild number (find-refusals area used tree whole name number e))

  lookup-whole : (name : List ℕ) → Undamaged (answer_number (lookup_steps area name))
  lookup-whole name = by (find_steps area name) refl
    where
      by : (answer : Answer Hit) → find_steps area name ≡ answer → Undamaged (answer_number (by_hit refused (value_steps area) answer))
      by (accepted (hit at count)) e = value-whole name at count e
      by (refused number) e = undamaged number (found-mild number (find-refusals area used tree whole name number e))

  -- ---- into a buffer
  backup-whole : (buffer : List ℕ) → Undamaged (number_in (backup_steps area buffer))
  unfolding backup_steps
  backup-whole buffer =
      bool_cases (leb backup_size (length buffer))
      (λ t. rw (whole.front.header, t) too_long-whole)
      (λ t. rw (whole.front.header, t, fits t) accepted-whole)
    where
      fits : leb backup_size (length buffer) ≡ false → ltb (data_size area) (backup_at + length buffer) ≡ false
      fits t = le-ltb (data_size area) (backup_at + length buffer) (omega (arith, leb-false backup_size (length buffer) t, whole.front.low, whole.front.high))

  -- ---- of all: whatever judges it, it is sound
  check-whole : (scratch : List ℕ) (judged : Judged area) → Undamaged (number_in (check_steps area scratch judged))
  unfolding survey_steps
  check-whole scratch (sound other S) =
      bool_cases (leb (scratch_min area) (length scratch)) (λ t. rw (whole.front.header, t) accepted-whole) (λ t. rw (whole.front.header, t) short-whole)
  check-whole scratch (unsound none) = absurd (none tree (by-mark area used tree whole))

  list-whole : (scratch list : List ℕ) (judged : Judged area) → Undamaged (listing_number (list_steps area scratch list judged))
  unfolding survey_steps
  list-whole scratch list (sound other S) =
      bool_cases (leb (scratch_min area) (length scratch))
      (λ t. bool_cases (leb (length (listed other)) (length list)) (λ l. rw (whole.front.header, t, l) accepted-whole) (λ l. rw (whole.front.header, t, l) short-whole))
      (λ t. rw (whole.front.header, t) short-whole)
  list-whole scratch list (unsound none) = absurd (none tree (by-mark area used tree whole))

  dump-whole : (scratch list room : List ℕ) (judged : Judged area) → Undamaged (filled_number (fill_steps area scratch list room judged))
  dump-whole scratch list room judged = by (list_steps area scratch list judged) (list-whole scratch list judged)
    where
      by : (l : Listing) → Undamaged (listing_number l) → Undamaged (filled_number (fill_listing area room l))
      by (lists (accepted count) left noted) fine =
          bool_cases (leb (length (dump_text area (accepted count) noted)) (length room)) (λ t. rw t accepted-whole) (λ t. rw t short-whole)
      by (lists (refused number) left noted) fine = fine

  pub all_whole : (number : ℕ) → Answers area number → Undamaged number
  all_whole number by_format = format-whole
  all_whole number (by_call op) = (next area used tree whole op).whole
  all_whole number (by_find name) = find-whole name
  all_whole number (by_lookup name) = lookup-whole name
  all_whole number (by_value name at count found) = value-whole name at count found
  all_whole number (by_name name at count found) = name-whole name at count found
  all_whole number (by_serial name at count found) = serial-whole name at count found
  all_whole number (by_raw name at count found backup value) = raw-whole name at count found backup value
  all_whole number (by_backup buffer) = backup-whole buffer
  all_whole number (by_check scratch judged) = check-whole scratch judged
  all_whole number (by_list scratch list judged) = list-whole scratch list judged
  all_whole number (by_dump scratch list room judged) = dump-whole scratch list room judged
