-- Check and listing (RULES 7.1 to 7.5): the answer, and every byte of scratch and list afterwards.
use Rattle.std.specs.Prelude.{ℕ, ◌/◌, ◌≡◌, List, length, replicate, leb, Result}
use Rattle.words.specs.Words.{put}
use Rattle.layout.specs.declared.refusal.Refusal.{Refusal}
use Rattle.layout.specs.Layout.{word_size, used_field, header_word}
use Rattle.layout.specs.Refusals.{Answer, accepted, refuse, answered, guard, Verdict, verdict_number, Outcome, leaves, accept_leaving, refuse_leaving}
use Rattle.trie.specs.Header.{header_ok}
use Rattle.sound.specs.Tree.{Tree, listed}
use Rattle.sound.specs.Sound.{Sound}

abbrev pub used_of : List ℕ → ℕ
used_of area = header_word area used_field

-- whether an area is sound: a tree that shows it, or that there is none (every area is judged, and one way: `every-judged`, `one-tree`)
pub data Judged (area : List ℕ) : Type 0 where
  sound : (tree : Tree) → Sound area (used_of area) tree → Judged area
  unsound : ((tree : Tree) → Sound area (used_of area) tree → ⊥) → Judged area

-- damage, or the entries' offsets
abbrev pub by_judged : {A : Type 0} {area : List ℕ} → Judged area → A → (List ℕ → A) → A
by_judged (sound tree s) damaged on = on (listed tree)
by_judged (unsound none) damaged on = damaged

-- scratch, all zero
abbrev pub blank : List ℕ → List ℕ
blank scratch = replicate (length scratch) 0

-- check and listing need scratch of at least area length / 4 bytes
abbrev pub scratch_min : List ℕ → ℕ
scratch_min area = length area / word_size

-- 8 first, scratch next (10), then 5, each with scratch as it is left; a sound area's offsets go on with scratch all zero
unfoldable pub survey_steps : {A : Type 0} → (area scratch : List ℕ) → (Refusal → List ℕ → A) → (List ℕ → List ℕ → A) → Judged area → A
survey_steps area scratch refusing on judged =
    guard (header_ok area) (refusing Refusal.BadHeader scratch)
    (guard (leb (scratch_min area) (length scratch)) (refusing Refusal.ShortBuffer scratch)
    (by_judged judged (refusing Refusal.Damaged (blank scratch)) (on (blank scratch))))

abbrev pub check_steps : (area scratch : List ℕ) → Judged area → Outcome
check_steps area scratch judged = survey_steps area scratch (λ why left. refuse_leaving left why) (λ left offsets. accept_leaving left) judged

-- what check answers and leaves, however the area is judged
abbrev pub CheckSays : (area scratch : List ℕ) → Verdict → List ℕ → Type 0
CheckSays area scratch verdict after = (judged : Judged area) → leaves (verdict_number verdict) after ≡ check_steps area scratch judged

-- listing answers how many, and leaves scratch and list
pub data Listing : Type 0 where
  lists : (answer : Answer ℕ) (scratch list : List ℕ) → Listing

-- what each case of the answer means
abbrev pub listed_answer : Result ℕ Refusal → Answer ℕ
listed_answer = answered (λ (count : ℕ). count)

-- then the list (10, list kept); the offsets are written, list places beyond them stay
abbrev pub list_offsets : List ℕ → List ℕ → List ℕ → Listing
list_offsets list left offsets =
    guard (leb (length offsets) (length list)) (lists (refuse Refusal.ShortBuffer) left list)
    (lists (accepted (length offsets)) left (put list 0 offsets))

abbrev pub list_steps : (area scratch list : List ℕ) → Judged area → Listing
list_steps area scratch list judged = survey_steps area scratch (λ why left. lists (refuse why) left list) (list_offsets list) judged

-- what listing answers and leaves, however the area is judged
abbrev pub ListSays : (area scratch list : List ℕ) → Result ℕ Refusal → List ℕ → List ℕ → Type 0
ListSays area scratch list answer after noted = (judged : Judged area) → lists (listed_answer answer) after noted ≡ list_steps area scratch list judged
