-- The tests that check and listing begin with, in their order, however the area is judged: each way out has as premises what is known there. Assumes nothing.
use Prim.Native.Nat.{ℕ, ◌≤◌, ◌<◌}
use mathlib.Core.Path.{◌≡◌, refl, ap, ◌∙◌}
use mathlib.Core.Bool.{true, false}
use mathlib.Core.List.{List}
use lib.ListN.{length}
use lib.Dec.{leb}
use borrow.Author.Tests.{le-leb, lt-leb}
use Rattle.words.specs.Words.{put}
use Rattle.words.proofs.Laws.{bool_cases}
use Rattle.layout.specs.declared.refusal.Refusal.{Refusal}
use Rattle.layout.specs.Refusals.{accepted, refuse}
use Rattle.trie.specs.Header.{header_ok}
use Rattle.sound.specs.Tree.{Tree, listed}
use Rattle.sound.specs.Sound.{Sound}
use Rattle.sound.proofs.Promises.{one-tree}
use Rattle.audit.specs.Check.{used_of, Judged, sound, unsound, by_judged, blank, scratch_min, survey_steps, Listing, lists, list_steps}

module _ {A : Type 0} (area scratch : List ℕ) (refusing : Refusal → List ℕ → A) (on : List ℕ → List ℕ → A) where
  pub survey-header : header_ok area ≡ false → (judged : Judged area) → survey_steps area scratch refusing on judged ≡ refusing Refusal.BadHeader scratch
  unfolding survey_steps
  survey-header h judged = rw h refl

  module _ (header : header_ok area ≡ true) where
    pub survey-scratch : length scratch < scratch_min area → (judged : Judged area) → survey_steps area scratch refusing on judged ≡ refusing Refusal.ShortBuffer scratch
    unfolding survey_steps
    survey-scratch h judged = rw (header, lt-leb (scratch_min area) (length scratch) h) refl

    module _ (room : scratch_min area ≤ length scratch) where
      pub survey-damaged : ((tree : Tree) → Sound area (used_of area) tree → ⊥)
          → (judged : Judged area) → survey_steps area scratch refusing on judged ≡ refusing Refusal.Damaged (blank scratch)
      unfolding survey_steps
      survey-damaged none (sound tree S) = absurd (none tree S)
      survey-damaged none (unsound other) = rw (header, le-leb (scratch_min area) (length scratch) room) refl

      pub survey-sound : (tree : Tree) → Sound area (used_of area) tree → (judged : Judged area) → survey_steps area scratch refusing on judged ≡ on (blank scratch) (listed tree)
      unfolding survey_steps
      survey-sound tree S (sound other T) =
          rw (header, le-leb (scratch_min area) (length scratch) room) (ap (λ (t : Tree). on (blank scratch) (listed t)) (one-tree area (used_of area) other tree T S))
      survey-sound tree S (unsound none) = absurd (none tree S)

  -- what holds of every refusal, and of whatever goes on, holds of all that comes out
  pub survey-every : (P : A → Type 0) → ((why : Refusal) (left : List ℕ) → P (refusing why left)) → ((left offsets : List ℕ) → P (on left offsets))
      → (judged : Judged area) → P (survey_steps area scratch refusing on judged)
  unfolding survey_steps
  survey-every P refuses goes judged =
      bool_cases (header_ok area)
      (λ h. bool_cases (leb (scratch_min area) (length scratch)) (λ k. rw (h, k) (by judged)) (λ k. rw (h, k) (refuses Refusal.ShortBuffer scratch)))
      (λ h. rw h (refuses Refusal.BadHeader scratch))
    where
      by : (judged : Judged area) → P (by_judged judged (refusing Refusal.Damaged (blank scratch)) (on (blank scratch)))
      by (sound tree S) = goes (blank scratch) (listed tree)
      by (unsound none) = refuses Refusal.Damaged (blank scratch)

-- ---- then the list
module _ (area scratch : List ℕ) (header : header_ok area ≡ true) (room : scratch_min area ≤ length scratch) (list : List ℕ) (tree : Tree) (S : Sound area (used_of area) tree) where
  pub survey-short : length list < length (listed tree) → (judged : Judged area) → list_steps area scratch list judged ≡ lists (refuse Refusal.ShortBuffer) (blank scratch) list
  survey-short h judged = survey-sound area scratch _ _ header room tree S judged ∙ rw (lt-leb (length (listed tree)) (length list) h) refl

  pub survey-lists : length (listed tree) ≤ length list
      → (judged : Judged area) → list_steps area scratch list judged ≡ lists (accepted (length (listed tree))) (blank scratch) (put list 0 (listed tree))
  survey-lists h judged = survey-sound area scratch _ _ header room tree S judged ∙ rw (le-leb (length (listed tree)) (length list) h) refl

-- what holds of every refusal, and of every count, holds of what listing answers and leaves
pub list-every : (area scratch list : List ℕ) (P : Listing → Type 0) → ((why : Refusal) (left noted : List ℕ) → P (lists (refuse why) left noted))
    → ((n : ℕ) (left noted : List ℕ) → P (lists (accepted n) left noted)) → (judged : Judged area) → P (list_steps area scratch list judged)
list-every area scratch list P refuses goes judged =
    survey-every area scratch _ _ P (λ why left. refuses why left list)
    (λ left offsets. bool_cases (leb (length offsets) (length list))
    (λ k. rw k (goes (length offsets) left (put list 0 offsets)))
    (λ k. rw k (refuses Refusal.ShortBuffer left list)))
    judged
