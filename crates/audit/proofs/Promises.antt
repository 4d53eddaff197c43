-- What check and listing promise: every area is judged, one way; what each test refuses, and their order; check accepts exactly the sound ones; no second outcome.
-- Each is a law of SurveyLaws.antt, CheckLaws.antt or Telling.antt, where `ListTells` stands, too. Assumes nothing.
use Rattle.std.specs.Prelude.{Result, Ok}
use Prim.Native.Nat.{ℕ, ◌-◌, ◌*◌, ◌≤◌, ◌<◌}
use mathlib.Core.Path.{◌≡◌}
use mathlib.Core.Bool.{true, false}
use mathlib.Core.List.{List}
use lib.ListN.{length}
use Rattle.words.specs.Words.{put}
use Rattle.layout.specs.declared.refusal.Refusal.{Refusal}
use Rattle.layout.specs.Layout.{area_max, first_free}
use Rattle.layout.specs.Refusals.{Verdict, pass, accepted, refuse, accept_leaving, refuse_leaving}
use Rattle.layout.proofs.Promises.{one-outcome}
use Rattle.trie.specs.Header.{header_ok}
use Rattle.sound.specs.Tree.{Tree, listed}
use Rattle.sound.specs.Sound.{Sound}
use Rattle.audit.specs.Check.{used_of, Judged, blank, scratch_min, check_steps, CheckSays, lists, list_steps, ListSays}
use Rattle.audit.proofs.SurveyLaws.{survey-header, survey-scratch, survey-damaged, survey-sound, survey-short, survey-lists}
use Rattle.audit.proofs.CheckLaws.{judge}
use Rattle.audit.proofs.Telling.{one-listing, entries-few, ListTells, listing-tells, listing-few, accepted-sound}

-- ---- every area is sound or not, and the walk finds out which
pub every-judged : (area : List ℕ) → Judged area
every-judged = judge

-- ---- what each test refuses, however the area is judged; a law's premises are what the tests before it found, and so their order
module _ (area scratch : List ℕ) where
  -- 8 first: no byte changes
  pub check-header : header_ok area ≡ false → (judged : Judged area) → check_steps area scratch judged ≡ refuse_leaving scratch Refusal.BadHeader
  check-header = survey-header area scratch _ _

  pub list-header : (list : List ℕ) → header_ok area ≡ false → (judged : Judged area) → list_steps area scratch list judged ≡ lists (refuse Refusal.BadHeader) scratch list
  list-header list = survey-header area scratch _ _

  module _ (header : header_ok area ≡ true) where
    -- scratch next (10): no byte changes
    pub check-scratch : length scratch < scratch_min area → (judged : Judged area) → check_steps area scratch judged ≡ refuse_leaving scratch Refusal.ShortBuffer
    check-scratch = survey-scratch area scratch _ _ header

    pub list-scratch : (list : List ℕ) → length scratch < scratch_min area → (judged : Judged area) → list_steps area scratch list judged ≡ lists (refuse Refusal.ShortBuffer) scratch list
    list-scratch list = survey-scratch area scratch _ _ header

    module _ (room : scratch_min area ≤ length scratch) where
      -- then an area that is not sound (5): scratch ends zero, the list is kept
      pub check-refuses : ((tree : Tree) → Sound area (used_of area) tree → ⊥) → (judged : Judged area) → check_steps area scratch judged ≡ refuse_leaving (blank scratch) Refusal.Damaged
      check-refuses = survey-damaged area scratch _ _ header room

      pub list-damaged : (list : List ℕ) → ((tree : Tree) → Sound area (used_of area) tree → ⊥)
          → (judged : Judged area) → list_steps area scratch list judged ≡ lists (refuse Refusal.Damaged) (blank scratch) list
      list-damaged list = survey-damaged area scratch _ _ header room

      -- then a list with fewer places than the tree has entries (10): scratch ends zero, the list is kept
      pub list-short : (list : List ℕ) (tree : Tree) → Sound area (used_of area) tree → length list < length (listed tree)
          → (judged : Judged area) → list_steps area scratch list judged ≡ lists (refuse Refusal.ShortBuffer) (blank scratch) list
      list-short = survey-short area scratch header room

      -- ---- a sound area is accepted, scratch ends zero
      pub check-accepts : (tree : Tree) → Sound area (used_of area) tree → (judged : Judged area) → check_steps area scratch judged ≡ accept_leaving (blank scratch)
      check-accepts = survey-sound area scratch _ _ header room

      -- ---- a sound area is listed, if the list has the places: the offsets of its tree's entries, in the tree's order; list places beyond them stay
      pub list-accepts : (list : List ℕ) (tree : Tree) → Sound area (used_of area) tree → length (listed tree) ≤ length list
          → (judged : Judged area) → list_steps area scratch list judged ≡ lists (accepted (length (listed tree))) (blank scratch) (put list 0 (listed tree))
      list-accepts = survey-lists area scratch header room

-- ---- no second outcome
pub one-check : (area scratch : List ℕ) (v w : Verdict) (a b : List ℕ) → CheckSays area scratch v a → CheckSays area scratch w b → (v ≡ w) × (a ≡ b)
one-check area scratch v w a b p q = one-outcome (check_steps area scratch (judge area)) v w a b (p (judge area)) (q (judge area))

pub one_list : (area scratch list : List ℕ) (r s : Result ℕ Refusal) (a b c d : List ℕ) → ListSays area scratch list r a c → ListSays area scratch list s b d → (r ≡ s) × (a ≡ b) × (c ≡ d)
one_list = one-listing

-- ---- what an accepted check says: the area is sound
pub check-tells : (area scratch after : List ℕ) → CheckSays area scratch pass after → (tree : Tree) × Sound area (used_of area) tree
check-tells = accepted-sound

-- ---- what a listing that is not refused says: the area is sound, and these are its tree's entries
pub list_tells : (area scratch list : List ℕ) (n : ℕ) (a c : List ℕ) (judged : Judged area) → lists (accepted n) a c ≡ list_steps area scratch list judged
    → ListTells area scratch list n a c
list_tells = listing-tells

-- ---- how many entries there can be: one takes at least 100 bytes, and its node 24
pub listed-few : (area : List ℕ) (used : ℕ) (tree : Tree) → Sound area used tree → 124 * length (listed tree) ≤ used - first_free
listed-few = entries-few

-- ---- so the answer of listing fits 32 bits
pub answer-few : (area scratch list : List ℕ) (r : Result ℕ Refusal) (a c : List ℕ) → ListSays area scratch list r a c → (n : ℕ) → r ≡ Ok n → n ≤ area_max
answer-few = listing-few
