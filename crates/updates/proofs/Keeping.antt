-- Which bytes a refused update leaves, by name and raw.
use mathlib.Core.Path.{◌≡◌, refl}
use mathlib.Core.Bool.{Bool, true, false, not, ◌&&◌}
use mathlib.Core.List.{List}
use Prim.Native.Nat.{ℕ}
use lib.Dec.{eqb, leb}
use lib.ListN.{length}
use Rattle.words.specs.Stores.{run}
use Rattle.words.proofs.Laws.{bool_cases, clash}
use Rattle.std.specs.Prelude.{Ok, Err}
use Rattle.layout.specs.Layout.{slot_size, backup_size, entry_ok}
use Rattle.layout.specs.Refusals.{Verdict, Answer, accepted, refused, no_refusal, by_verdict, Outcome, leaves, refuse_leaving}
use Rattle.property_info.specs.Entry.{is_long}
use Rattle.trie.specs.Header.{header_ok}
use Rattle.property_area.specs.Find.{Hit, hit, by_hit, find_steps}
use Rattle.updates.specs.Update.{value_verdict, backup_past_area, backup_stores, slot_text, update_entry, update_steps, raw_entry, raw_steps}

-- ---- which bytes a refusal leaves: an outcome is accepted, or leaves these
abbrev pub Keeps : List ℕ → Outcome → Type 0
Keeps area (leaves number after) = (number ≡ no_refusal → ⊥) → after ≡ area

verdict-keeps : (area : List ℕ) (v : Verdict) (on : Outcome) → Keeps area on → Keeps area (by_verdict v (refuse_leaving area) on)
verdict-keeps area (Ok _) on k = k
verdict-keeps area (Err why) on k = λ n. refl

-- update by name: every refusal leaves every byte
entry-keeps : (area value : List ℕ) (at : ℕ) → Keeps area (update_entry area value at)
unfolding update_entry
entry-keeps area value at =
    bool_cases (is_long area at)
    (λ h. rw h (λ n. refl))
    (λ h. rw h (verdict-keeps area (value_verdict value) _
    (bool_cases (eqb (length (slot_text area at)) slot_size)
    (λ k. rw k (λ n. refl))
    (λ k. bool_cases (backup_past_area area (slot_text area at))
    (λ l. rw (k, l) (λ n. refl))
    (λ l. rw (k, l) (λ n. absurd (n refl)))))))

hit-keeps : (area : List ℕ) (a : Answer Hit) (on : ℕ → Outcome) → ((at : ℕ) → Keeps area (on at)) → Keeps area (by_hit (λ number. leaves number area) on a)
hit-keeps area (accepted (hit offset n)) on k = k offset
hit-keeps area (refused number) on k = λ n. refl

pub update-keeps : (area name value : List ℕ) → Keeps area (update_steps area name value)
unfolding update_steps
update-keeps area name value = hit-keeps area (find_steps area name) (update_entry area value) (entry-keeps area value)

-- raw update
raw-entry-keeps : (area value : List ℕ) (at : ℕ) → Keeps area (raw_entry area value at)
unfolding raw_entry
raw-entry-keeps area value at =
    bool_cases (entry_ok area at)
    (λ t. bool_cases (is_long area at)
    (λ h. rw (t, h) (λ n. refl))
    (λ h. rw (t, h) (verdict-keeps area (value_verdict value) _ (λ n. absurd (n refl)))))
    (λ t. rw t (λ n. refl))

-- before the backup is stored: 8, 6 and 5 leave every byte
abbrev pub raw_tests : List ℕ → List ℕ → Bool
raw_tests area backup = header_ok area && not (leb backup_size (length backup)) && not (backup_past_area area backup)

pub raw-early : (area : List ℕ) (at : ℕ) (backup value : List ℕ) → raw_tests area backup ≡ false → Keeps area (raw_steps area at backup value)
unfolding raw_steps
raw-early area at backup value e =
    bool_cases (header_ok area)
    (λ h. bool_cases (leb backup_size (length backup))
    (λ k. rw (h, k) (λ n. refl))
    (λ k. bool_cases (backup_past_area area backup)
    (λ l. rw (h, k, l) (λ n. refl))
    (λ l. let q : ◌≡◌ {A = Bool} true false = rw (h, k, l) at e in clash cc)))
    (λ h. rw h (λ n. refl))

-- after it: 5, 7 and 6 leave the area with the backup stored
pub raw-late : (area : List ℕ) (at : ℕ) (backup value : List ℕ) → raw_tests area backup ≡ true → Keeps (run area (backup_stores backup)) (raw_steps area at backup value)
unfolding raw_steps
raw-late area at backup value e =
    bool_cases (header_ok area)
    (λ h. bool_cases (leb backup_size (length backup))
    (λ k. let q : ◌≡◌ {A = Bool} false true = rw (h, k) at e in clash cc)
    (λ k. bool_cases (backup_past_area area backup)
    (λ l. let q : ◌≡◌ {A = Bool} false true = rw (h, k, l) at e in clash cc)
    (λ l. rw (h, k, l) (raw-entry-keeps (run area (backup_stores backup)) value at))))
    (λ h. let q : ◌≡◌ {A = Bool} false true = rw h at e in clash cc)
