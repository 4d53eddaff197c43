-- What the history promises: of a fresh area, of one add or update over a sound one, and of any run of them, refused ones included, from any sound area
-- on and so from a fresh one (demand 3). The proofs stand in FreshSound, OneCall, Run, Telling, Adding and Answering.
use Prim.Native.Nat.{ℕ, ◌+◌, ◌-◌, ◌/◌, ◌≤◌, ◌<◌}
use native.Mathlib.Omega.{arith}
use mathlib.Core.Path.{◌≡◌, refl, subst, ◌∙◌}
use mathlib.Core.Bool.{true, false, cond}
use mathlib.Core.Logic.{◌≢◌, ◌⊎◌}
use mathlib.Core.List.{List, [], ◌∷◌, ◌++◌}
use mathlib.Core.Option.{Option, none, some}
use lib.ListN.{length, get_or}
use lib.Dec.{ltb}
use Rattle.words.specs.Words.{put}
use Rattle.names.specs.Names.{segments}
use Rattle.layout.specs.declared.refusal.Refusal.{Refusal}
use Rattle.layout.specs.Layout.{word_max, area_max, serial_field, slot_size, backup_at, first_free, format_min, data_size, byte_of, word_at, header_word, used_field}
use Rattle.layout.specs.Refusals.{pass, accepted, refused, refuse, number_of, no_refusal, accept_leaving, number_in, bytes_in}
use Rattle.property_area.specs.Find.{hit, find_steps}
use Rattle.property_area.specs.Value.{serial_steps}
use Rattle.property_area.specs.Walked.{walked}
use Rattle.property_area.specs.Lookup.{shown}
use Rattle.serials.specs.Serial.{long_serial, short_serial, positions}
use Rattle.counters.specs.Distance.{distance, serial_after}
use Rattle.allocation.specs.Steps.{total}
use Rattle.builder.specs.Fresh.{fresh}
use Rattle.builder.specs.Add.{any_empty, name_verdict}
use Rattle.sound.specs.Tree.{short, bare, entry, Tree, leaf, listed}
use Rattle.sound.specs.Sound.{Has, Sound}
use Rattle.finding.specs.Look.{look, node_bytes, summed}
use Rattle.finding.proofs.Promises.{find-count, walk-reads}
use Rattle.sound.proofs.Promises.{room_says}
use Rattle.audit.specs.Check.{used_of, Judged, blank, scratch_min, check_steps, lists, list_steps}
use Rattle.audit.proofs.Promises.{check-accepts, list-accepts}
use Rattle.history.specs.History.{Op, add, update, call, op_name, after, told, told_by, AsTold, added, update_sizes, op_rooms, given}
use Rattle.history.specs.Lack.{entry_of, lacks}
use Rattle.history.specs.Stays.{Stays}
use Rattle.history.specs.Calls.{Answers, Undamaged}
use Rattle.history.specs.Demand.{Demand}
use Rattle.history.proofs.FreshSound as fresh_sound
use Rattle.history.proofs.OneCall as one_call
use Rattle.history.proofs.Showing.{shown-which}
use Rattle.history.proofs.Run.{ran, matched-shows, sound-cost}
use Rattle.history.proofs.Telling as telling
use telling.{by-mark, told-matches}
use Rattle.history.proofs.Adding as adding
use Rattle.history.proofs.Backing as backing
use Rattle.history.proofs.Answering.{all_whole}

module _ (n : ℕ) (low : format_min ≤ n) (high : n ≤ area_max) where
  -- ---- a fresh area is sound, and holds nothing
  pub fresh-sound : Sound (fresh n) first_free leaf
  fresh-sound = fresh_sound.fresh-sound n low high

  -- ---- and shows nothing: with this, each run-.. law says of a fresh area what its sentence says
  pub fresh-untold : (name : List ℕ) → told_by (shown (fresh n) name) ≡ none
  fresh-untold = telling.fresh-untold n low high

-- one call, over a sound area
module _ (area : List ℕ) (used : ℕ) (tree : Tree) (sound : Sound area used tree) (name value : List ℕ) where
  -- ---- an add whose name is neither 1 nor 2 is accepted if used plus all missing padded sizes is at most data size
  pub add-accepted : name_verdict name ≡ pass → used + lacks tree name value ≤ data_size area → number_in (call area (add name value)) ≡ no_refusal
  add-accepted = one_call.add-accepted area used tree sound name value

  -- ---- and refused if not: with 4 or 9, and 9 only where that sum passes 32 bits
  pub add-refused : name_verdict name ≡ pass → data_size area < used + lacks tree name value
      → (number_in (call area (add name value)) ≡ number_of Refusal.NoRoom) ⊎ ((number_in (call area (add name value)) ≡ number_of Refusal.TooLarge) × (word_max < used + lacks tree name value))
  add-refused = one_call.add-refused area used tree sound name value

  -- ---- an accepted add gives room to what is missing and to nothing else
  pub add-rooms : name_verdict name ≡ pass → used + lacks tree name value ≤ data_size area → total (op_rooms area (add name value)) ≡ lacks tree name value
  add-rooms = one_call.add-rooms area used tree sound name value

  -- ---- one of a name that was not found lays down an entry: find finds it, and its serial is its value's length times 2^24, or 0x32010000 where that is 92 bytes or more
  pub add-serial : number_in (call area (add name value)) ≡ no_refusal → (number : ℕ) → find_steps area name ≡ refused number
      → (at : ℕ) × (count : ℕ) × (find_steps (bytes_in (call area (add name value))) name ≡ accepted (hit at count))
      × (serial_steps (bytes_in (call area (add name value))) at ≡ accepted (cond (ltb (length value) slot_size) (short_serial (length value)) long_serial))
  add-serial = one_call.add-serial area used tree sound name value

  -- ---- a refused one leaves the area sound. What it linked stays, and the used mark counts it, with the entry's room where only the long value found none
  pub add-stays : name_verdict name ≡ pass → number_in (call area (add name value)) ≢ no_refusal
      → (now : Tree) × Sound (bytes_in (call area (add name value))) (used + total (op_rooms area (add name value))) now × Stays area used tree name value (op_rooms area (add name value)) now
  add-stays = one_call.add-stays area used tree sound name value

  -- ---- an update of a short entry with a value under 92 bytes is accepted
  pub update-accepted : (at serial : ℕ) (slot : List ℕ) → entry_of tree name ≡ entry at serial name (short slot) → length value < slot_size → number_in (call area (update name value)) ≡ no_refusal
  update-accepted = one_call.update-accepted area used tree sound name value

  -- ---- and no other
  pub update-only : number_in (call area (update name value)) ≡ no_refusal
      → (at : ℕ) × (serial : ℕ) × (slot : List ℕ) × (entry_of tree name ≡ entry at serial name (short slot)) × (length value < slot_size)
  update-only = one_call.update-only area used tree sound name value

  -- ---- an accepted one leaves the value that was shown before, and its zero, in the backup slot
  pub update-backs : number_in (call area (update name value)) ≡ no_refusal → (old : List ℕ) → shown area name ≡ accepted old → (j : ℕ) → j ≤ length old
      → get_or (bytes_in (call area (update name value))) (byte_of backup_at + j) 0 ≡ get_or (old ++ 0 ∷ []) j 0
  update-backs = backing.update-backs area used tree sound name value

-- ---- a call changes what its own name shows, and no other's
pub others-kept : (area : List ℕ) (used : ℕ) (tree : Tree) → Sound area used tree → (op : Op) (other : List ℕ) → other ≢ op_name op
    → AsTold (shown (bytes_in (call area op)) other) (told_by (shown area other))
others-kept = one_call.others-kept

-- a run of calls, from a sound area on
module _ (area : List ℕ) (used : ℕ) (tree : Tree) (sound : Sound area used tree) (ops : List Op) where
  -- ---- it is sound again, with some tree: so objects never overlap, and each node is reached by one path (sound's promises)
  pub run_sound : (grown : ℕ) × (now : Tree) × Sound (after area ops) grown now
  run_sound = let r = ran ops area used tree sound in (r.grown, r.now, r.sound)

  -- ---- a lookup shows the value of a name's last accepted update, or else what it showed before the run, or else the value of its first accepted add
  pub run-shows : (name : List ℕ) → AsTold (shown (after area ops) name) (told area name ops (told_by (shown area name)))
  run-shows name =
      let r = ran ops area used tree sound in
      matched-shows (after area ops) r.grown r.now r.sound name (entry_of r.now name) _ refl (told-matches area used tree sound ops r.grown r.now r.sound name)

  -- ---- a name that is refused is refused as its search in the tree is: missing (3), or malformed (2) where an empty segment comes first
  pub run-which : (grown : ℕ) (now : Tree) → Sound (after area ops) grown now → (name : List ℕ) (number : ℕ) → look (segments name) bare now 0 ≡ refused number → shown (after area ops) name ≡ refused number
  run-which = shown-which (after area ops)

  -- ---- a name without an empty segment that was told no value is missing (3)
  pub run-missing : (name : List ℕ) → any_empty (segments name) ≡ false → told area name ops (told_by (shown area name)) ≡ none → shown (after area ops) name ≡ refuse Refusal.Missing
  run-missing = telling.run-missing area used tree sound ops

  -- ---- a name that showed nothing is told a value exactly if it has an accepted add
  pub run-told-added : (name : List ℕ) → told_by (shown area name) ≡ none → (value : List ℕ) → told area name ops none ≡ some value → added area name ops ≡ true
  run-told-added = adding.run-told-added area used tree sound ops

  pub run-added-told : (name : List ℕ) (before : Option (List ℕ)) → added area name ops ≡ true → (value : List ℕ) × (told area name ops before ≡ some value)
  run-added-told = adding.added-told ops area

  -- ---- so of such a name no update is accepted before an add is
  pub run-update-added : (name : List ℕ) → told_by (shown area name) ≡ none → (value : List ℕ) → number_in (call (after area ops) (update name value)) ≡ no_refusal → added area name ops ≡ true
  run-update-added = adding.run-update-added area used tree sound ops

  -- ---- the used mark has moved by the rooms of all objects that were given room, those of refused adds included
  pub run-used : header_word (after area ops) used_field ≡ used + total (given area ops)
  run-used = let r = ran ops area used tree sound in r.sound.front.mark ∙ r.mark

  -- ---- no call on it answers damage or a bad header, whatever its buffers and however it is judged, at an offset that find answered
  pub run-undamaged : (number : ℕ) → Answers (after area ops) number → Undamaged number
  run-undamaged = let r = ran ops area used tree sound in all_whole (after area ops) r.grown r.now r.sound

  -- ---- find compares at most (used - 112) / 24 nodes, found or refused
  pub run-cost : (name : List ℕ) → length (walked (after area ops) name) ≤ (header_word (after area ops) used_field - first_free) / 24
  run-cost name =
      let r = ran ops area used tree sound in
      sound-cost (after area ops) r.grown r.now r.sound name

  -- ---- found, it tells just that count
  pub run-count : (name : List ℕ) (at count : ℕ) → find_steps (after area ops) name ≡ accepted (hit at count) → count ≡ length (walked (after area ops) name)
  run-count = let r = ran ops area used tree sound in find-count (after area ops) r.grown r.now r.sound

  -- ---- and these nodes, with their names, have at most used - 112 bytes
  pub run-reads : (name : List ℕ) → summed (node_bytes (after area ops)) (walked (after area ops) name) ≤ header_word (after area ops) used_field - first_free
  run-reads name =
      let r = ran ops area used tree sound in
      omega (arith, walk-reads (after area ops) r.grown r.now r.sound name, r.sound.front.mark)

  -- ---- check accepts it
  pub run-checks : (scratch : List ℕ) → scratch_min (after area ops) ≤ length scratch → (judged : Judged (after area ops)) → check_steps (after area ops) scratch judged ≡ accept_leaving (blank scratch)
  run-checks scratch room judged =
      let r = ran ops area used tree sound in
      check-accepts (after area ops) scratch r.sound.front.header room r.now (by-mark (after area ops) r.grown r.now r.sound) judged

  -- ---- listing answers how many entries there are, and writes their offsets, each once (sound's `listed-once`)
  pub run-list : (grown : ℕ) (now : Tree) → Sound (after area ops) grown now → (scratch list : List ℕ) → scratch_min (after area ops) ≤ length scratch → length (listed now) ≤ length list
      → (judged : Judged (after area ops)) → list_steps (after area ops) scratch list judged ≡ lists (accepted (length (listed now))) (blank scratch) (put list 0 (listed now))
  run-list grown now S scratch list room long judged = list-accepts (after area ops) scratch S.front.header room list now (by-mark (after area ops) grown now S) long judged

  -- ---- the names that it lists are exactly those that were told a value: each of them,
  pub run-lists : (grown : ℕ) (now : Tree) → Sound (after area ops) grown now → (name value : List ℕ) → told area name ops (told_by (shown area name)) ≡ some value
      → (at : ℕ) × (count : ℕ) × (find_steps (after area ops) name ≡ accepted (hit at count)) × Has at (listed now)
  run-lists = telling.run-lists area used tree sound ops

  -- ---- and no other
  pub run-listed : (grown : ℕ) (now : Tree) → Sound (after area ops) grown now → (at : ℕ) → Has at (listed now)
      → (name : List ℕ) × (value : List ℕ) × (told area name ops (told_by (shown area name)) ≡ some value) × (count : ℕ) × (find_steps (after area ops) name ≡ accepted (hit at count))
  run-listed = telling.run-listed area used tree sound ops

  -- ---- the serial read is the one before the run, updated once for each accepted update of its name, with its value's length (counters' `after-whole`)
  pub run-serial : (name : List ℕ) (at count : ℕ) → find_steps area name ≡ accepted (hit at count)
      → serial_steps (after area ops) at ≡ accepted (serial_after (word_at area at serial_field) (update_sizes area name ops))
  run-serial = telling.run-serial area used tree sound ops

  -- ---- so k accepted updates of a name, k < 32,768, give update distance k between the serials read before and after
  pub run-distance : (name : List ℕ) (at count : ℕ) → find_steps area name ≡ accepted (hit at count) → (before now : ℕ) → serial_steps area at ≡ accepted before
      → serial_steps (after area ops) at ≡ accepted now → length (update_sizes area name ops) < positions → distance before now ≡ length (update_sizes area name ops)
  run-distance = telling.run-distance area used tree sound ops

-- a run of calls, from a fresh area on
module _ (n : ℕ) (low : format_min ≤ n) (high : n ≤ area_max) (ops : List Op) where
  -- ---- after any run the area is sound
  pub fresh-run-sound : (grown : ℕ) × (now : Tree) × Sound (after (fresh n) ops) grown now
  fresh-run-sound = run_sound (fresh n) first_free leaf (fresh-sound n low high) ops

  -- ---- the used mark is 112 and the rooms given
  pub fresh-run-used : header_word (after (fresh n) ops) used_field ≡ first_free + total (given (fresh n) ops)
  fresh-run-used = run-used (fresh n) first_free leaf (fresh-sound n low high) ops

  -- ---- nothing ever reports damage, or a bad header
  pub fresh-run-undamaged : (number : ℕ) → Answers (after (fresh n) ops) number → Undamaged number
  fresh-run-undamaged = run-undamaged (fresh n) first_free leaf (fresh-sound n low high) ops

  -- ---- a lookup shows the last accepted update, or else the first accepted add; any other name is refused as missing or malformed
  pub fresh-run-shows : (name : List ℕ) → AsTold (shown (after (fresh n) ops) name) (told (fresh n) name ops none)
  fresh-run-shows name = subst (λ (t : Option (List ℕ)). AsTold (shown (after (fresh n) ops) name) (told (fresh n) name ops t)) (fresh-untold n low high name) (run-shows (fresh n) first_free leaf (fresh-sound n low high) ops name)

  -- ---- a name is told a value exactly if it has an accepted add
  pub fresh-told-added : (name value : List ℕ) → told (fresh n) name ops none ≡ some value → added (fresh n) name ops ≡ true
  fresh-told-added name = run-told-added (fresh n) first_free leaf (fresh-sound n low high) ops name (fresh-untold n low high name)

  pub fresh-added-told : (name : List ℕ) → added (fresh n) name ops ≡ true → (value : List ℕ) × (told (fresh n) name ops none ≡ some value)
  fresh-added-told name = run-added-told (fresh n) first_free leaf (fresh-sound n low high) ops name none

  -- ---- so no update is accepted before an add of its name is
  pub fresh-update-added : (name value : List ℕ) → number_in (call (after (fresh n) ops) (update name value)) ≡ no_refusal → added (fresh n) name ops ≡ true
  fresh-update-added name = run-update-added (fresh n) first_free leaf (fresh-sound n low high) ops name (fresh-untold n low high name)

  -- ---- listing lists exactly the names with an accepted add: each of them,
  pub fresh-run-lists : (grown : ℕ) (now : Tree) → Sound (after (fresh n) ops) grown now → (name : List ℕ) → added (fresh n) name ops ≡ true
      → (at : ℕ) × (count : ℕ) × (find_steps (after (fresh n) ops) name ≡ accepted (hit at count)) × Has at (listed now)
  fresh-run-lists grown now S name e =
      let t = run-added-told (fresh n) first_free leaf (fresh-sound n low high) ops name (told_by (shown (fresh n) name)) e in
      run-lists (fresh n) first_free leaf (fresh-sound n low high) ops grown now S name t.0 t.1

  -- ---- and no other
  pub fresh-run-listed : (grown : ℕ) (now : Tree) → Sound (after (fresh n) ops) grown now → (at : ℕ) → Has at (listed now)
      → (name : List ℕ) × (added (fresh n) name ops ≡ true) × (count : ℕ) × (find_steps (after (fresh n) ops) name ≡ accepted (hit at count))
  fresh-run-listed grown now S at has =
      let l = run-listed (fresh n) first_free leaf (fresh-sound n low high) ops grown now S at has in
      (l.0, fresh-told-added l.0 l.1 (rw (fresh-untold n low high l.0) at l.2), l.3, l.4)

  -- ---- demand 3, whole
  pub demand : Demand (fresh n) ops
  demand =
      let whole = fresh-sound n low high in
      let r = ran ops (fresh n) first_free leaf whole in
      let now = by-mark (after (fresh n) ops) r.grown r.now r.sound in
      record {
        shows = fresh-run-shows;
        undamaged = fresh-run-undamaged;
        tree = r.now;
        sound = now;
        apart = (room_says (used_of (after (fresh n) ops)) r.now now.front.low now.room).0;
        used = fresh-run-used;
        count = run-count (fresh n) first_free leaf whole ops;
        cost = sound-cost (after (fresh n) ops) r.grown r.now r.sound;
        reads = run-reads (fresh n) first_free leaf whole ops;
      }
