-- Laws of check and listing: for the ways out of the code, whatever is judged of the area.
use Rattle.std.specs.Prelude.{Result, Ok, Err}
use Prim.Native.Nat.{ℕ, ◌+◌, ◌*◌, ◌/◌, ◌≤◌, ◌<◌}
use native.Mathlib.Omega.{arith}
use native.Mathlib.Decide.{dec_lt}
use mathlib.Core.Path.{◌≡◌, refl, sym, ap, ◌∙◌}
use mathlib.Core.Bool.{Bool, true, false, false≢true}
use mathlib.Core.List.{List, []}
use lib.Dec.{leb}
use lib.ListN.{length, get_or, replicate, length-replicate, get_or-replicate, get_or-eq_default}
use borrow.Author.Tests.{le-leb, leb-true}
use Rattle.words.proofs.Laws.{bool_cases, clash}
use Rattle.words.specs.Words.{put}
use Rattle.layout.specs.declared.refusal.Refusal.{Refusal}
use Rattle.layout.specs.Layout.{word_size, used_field}
use Rattle.layout.specs.Refusals.{pass, fail, Answer, accepted, refused, refuse, no_refusal, verdict_number, Outcome, leaves}
use Rattle.trie.specs.Header.{header_ok}
use Rattle.trie.proofs.HeaderLaws.{header-min, header-max}
use Rattle.sound.specs.Tree.{Tree, listed}
use Rattle.sound.specs.Sound.{Front, Sound}
use Rattle.walk.specs.Model.{front_ok, steps_max, ended, entries_of}
use Rattle.walk.proofs.FrontLaws.{front-inv, front_of}
use Rattle.walk.proofs.Deciding.{Blank}
use Rattle.walk.proofs.Promises.{walk-finds, walk_ends, walk-lists}
use Rattle.audit.specs.Check.{used_of, Judged, sound, unsound, blank, survey_steps, check_steps, Listing, lists, listed_answer, list_offsets, list_steps}
use Rattle.probes.specs.Limits.{UsedIn}
use Rattle.tour.specs.View.{toured}
use Rattle.audit.specs.View.{judged_answer, count_steps}
use Rattle.audit.proofs.SurveyLaws.{survey-damaged, survey-sound}

pub blank-zero : (scratch marks : List ℕ) → marks ≡ blank scratch → Blank marks
blank-zero scratch marks e i = ap (λ (m : List ℕ). get_or m i 0) e ∙ by (dec_lt i (length scratch))
  where
    by : Dec (i < length scratch) → get_or (blank scratch) i 0 ≡ 0
    by (yes h) = get_or-replicate (length scratch) i 0 0 h
    by (no h) = get_or-eq_default (blank scratch) 0 (let z : length (blank scratch) ≤ i = omega (arith, length-replicate {A = ℕ} (length scratch) 0) in z)

pub blank-again : (a b : List ℕ) → length b ≡ length a → blank b ≡ blank a
blank-again a b e = ap (λ (k : ℕ). replicate k 0) e

pub header-word : (area : List ℕ) → header_ok area ≡ true → used_field + word_size ≤ length area
header-word area h = omega (arith, header-min area h)

module _ (area : List ℕ) (used : ℕ) (mark : used ≡ used_of area) where
  pub tour-fits : header_ok area ≡ true → front_ok area used ≡ true → UsedIn area used
  tour-fits h f =
      let F = front-inv area (used_of area) h refl (ap (front_ok area) (sym mark) ∙ f) in
      (omega (arith, F.high, header-min area h, mark), header-max area h)

  -- a front that is not as it ought to be: no tree
  pub front-none : front_ok area used ≡ false → (tree : Tree) → Sound area (used_of area) tree → ⊥
  front-none h tree S = false≢true (sym h ∙ ap (front_ok area) mark ∙ front_of area (used_of area) S.front)

  module _ (header : header_ok area ≡ true) (front : front_ok area used ≡ true) (scratch marks : List ℕ) (clear : marks ≡ blank scratch) (room : length area / word_size ≤ length scratch) where
    F : Front area (used_of area)
    F = front-inv area (used_of area) header refl (ap (front_ok area) (sym mark) ∙ front)

    marked : used_of area ≤ 4 * length marks
    marked = let e : length marks ≡ length scratch = ap length clear ∙ length-replicate (length scratch) 0 in omega (arith, F.high, e, room)

    same : toured area used marks ≡ toured area (used_of area) marks
    same = ap (λ (u : ℕ). toured area u marks) mark

    -- a walk that does not end: no tree
    pub walk_none : (t : Bool) → t ≡ ended (toured area used marks) → t ≡ false → (tree : Tree) → Sound area (used_of area) tree → ⊥
    walk_none t e h tree S = false≢true (sym h ∙ e ∙ ap ended same ∙ walk_ends area (used_of area) F marks (blank-zero scratch marks clear) marked tree S)

    pub walk-tree : (t : Bool) → t ≡ ended (toured area used marks) → t ≡ true → (tree : Tree) × Sound area (used_of area) tree
    walk-tree t e h = walk-finds area (used_of area) F marks (blank-zero scratch marks clear) (steps_max area) (sym (ap ended same) ∙ sym e ∙ h)

    pub walk-listed : (tree : Tree) → Sound area (used_of area) tree → entries_of (toured area used marks) ≡ listed tree
    walk-listed tree S = ap entries_of same ∙ walk-lists area (used_of area) F marks (blank-zero scratch marks clear) marked tree S

-- every area is judged: the walk decides it
pub judge : (area : List ℕ) → Judged area
judge area =
    bool_cases (header_ok area)
    (λ h. bool_cases (front_ok area (used_of area))
    (λ f. bool_cases (ended (toured area (used_of area) (blank area)))
    (λ e. let T = walk-tree area (used_of area) refl h f area (blank area) refl (omega arith) true (sym e) refl in sound T.0 T.1)
    (λ e. unsound (walk_none area (used_of area) refl h f area (blank area) refl (omega arith) false (sym e) refl)))
    (λ f. unsound (front-none area (used_of area) refl f)))
    (λ h. unsound (λ tree S. false≢true (sym h ∙ S.front.header)))

-- ---- answers
pub none-judged : (area : List ℕ) → ((tree : Tree) → Sound area (used_of area) tree → ⊥) → (judged : Judged area) → refuse Refusal.Damaged ≡ judged_answer judged
none-judged area none (sound tree S) = absurd (none tree S)
none-judged area none (unsound h) = refl

pub tree-judged : (area : List ℕ) (tree : Tree) → Sound area (used_of area) tree → (n : ℕ) → ((t : Tree) → Sound area (used_of area) t → n ≡ length (listed t))
    → (judged : Judged area) → accepted n ≡ judged_answer judged
tree-judged area tree S n e (sound t T) = ap accepted (e t T)
tree-judged area tree S n e (unsound none) = absurd (none tree S)

module _ (area scratch : List ℕ) where
  module _ (header : header_ok area ≡ true) where
    pub count-judged : length area / word_size ≤ length scratch → (answer : Answer ℕ) → (after : List ℕ) → after ≡ blank scratch → ((judged : Judged area) → answer ≡ judged_answer judged)
        → (judged : Judged area) → lists answer after [] ≡ count_steps area scratch judged
    count-judged room answer after e f (sound tree S) = rw (e, f (sound tree S)) (sym (survey-sound area scratch _ _ header room tree S (sound tree S)))
    count-judged room answer after e f (unsound none) = rw (e, f (unsound none)) (sym (survey-damaged area scratch _ _ header room none (unsound none)))

-- ---- check, from the count
abbrev told : Listing → Outcome
told (lists (accepted n) left list) = leaves no_refusal left
told (lists (refused number) left list) = leaves number left

told-count : (area scratch : List ℕ) (judged : Judged area) → told (count_steps area scratch judged) ≡ check_steps area scratch judged
unfolding survey_steps
told-count area scratch (sound tree S) =
    bool_cases (header_ok area)
    (λ h. bool_cases (leb (length area / word_size) (length scratch)) (λ k. rw (h, k) refl) (λ k. rw (h, k) refl))
    (λ h. rw h refl)
told-count area scratch (unsound none) =
    bool_cases (header_ok area)
    (λ h. bool_cases (leb (length area / word_size) (length scratch)) (λ k. rw (h, k) refl) (λ k. rw (h, k) refl))
    (λ h. rw h refl)

module _ (area scratch after : List ℕ) (r : Result ℕ Refusal) (counts : (judged : Judged area) → lists (listed_answer r) after [] ≡ count_steps area scratch judged) where
  pub check-entries : (n : ℕ) → r ≡ Ok n → (judged : Judged area) → leaves (verdict_number pass) after ≡ check_steps area scratch judged
  check-entries n e judged = ap (λ (x : Result ℕ Refusal). told (lists (listed_answer x) after [])) (sym e) ∙ ap told (counts judged) ∙ told-count area scratch judged

  pub check-refused : (why : Refusal) → r ≡ Err why → (judged : Judged area) → leaves (verdict_number (fail why)) after ≡ check_steps area scratch judged
  check-refused why e judged = ap (λ (x : Result ℕ Refusal). told (lists (listed_answer x) after [])) (sym e) ∙ ap told (counts judged) ∙ told-count area scratch judged

-- ---- listing, from the count
abbrev relist : {area : List ℕ} → List ℕ → Judged area → Listing → Listing
relist list (sound tree S) (lists (accepted n) left none) = list_offsets list left (listed tree)
relist list (sound tree S) (lists (refused number) left none) = lists (refused number) left list
relist list (unsound h) (lists answer left none) = lists answer left list

relist-count : (area scratch list : List ℕ) (judged : Judged area) → relist list judged (count_steps area scratch judged) ≡ list_steps area scratch list judged
unfolding survey_steps
relist-count area scratch list (sound tree S) =
    bool_cases (header_ok area)
    (λ h. bool_cases (leb (length area / word_size) (length scratch)) (λ k. rw (h, k) refl) (λ k. rw (h, k) refl))
    (λ h. rw h refl)
relist-count area scratch list (unsound none) =
    bool_cases (header_ok area)
    (λ h. bool_cases (leb (length area / word_size) (length scratch)) (λ k. rw (h, k) refl) (λ k. rw (h, k) refl))
    (λ h. rw h refl)

-- what a count that is not refused says of an area and its tree
pub record Counted (area scratch after : List ℕ) (n : ℕ) (tree : Tree) : Type 0 where
  pub header : header_ok area ≡ true
  pub room : length area / word_size ≤ length scratch
  pub clear : after ≡ blank scratch
  pub many : n ≡ length (listed tree)

module _ (area scratch after : List ℕ) (n : ℕ) where
  pub tree-counted : (tree : Tree) (S : Sound area (used_of area) tree) → lists (accepted n) after [] ≡ count_steps area scratch (sound tree S) → Counted area scratch after n tree
  unfolding survey_steps
  tree-counted tree S e =
      bool_cases (header_ok area)
      (λ h. bool_cases (leb (length area / word_size) (length scratch))
      (λ k. let q : lists (accepted n) after [] ≡ lists (accepted (length (listed tree))) (blank scratch) [] = rw (h, k) at e in
      let a : after ≡ blank scratch = cc in
      let b : n ≡ length (listed tree) = cc in
      record { header = h; room = leb-true (length area / word_size) (length scratch) k; clear = a; many = b })
      (λ k. let q : lists (accepted n) after [] ≡ lists (refuse Refusal.ShortBuffer) scratch [] = rw (h, k) at e in clash cc))
      (λ h. let q : lists (accepted n) after [] ≡ lists (refuse Refusal.BadHeader) scratch [] = rw h at e in clash cc)

  none-counted : (none : (tree : Tree) → Sound area (used_of area) tree → ⊥) → lists (accepted n) after [] ≡ count_steps area scratch (unsound none) → ⊥
  unfolding survey_steps
  none-counted none e =
      bool_cases (header_ok area)
      (λ h. bool_cases (leb (length area / word_size) (length scratch))
      (λ k. let q : lists (accepted n) after [] ≡ lists (refuse Refusal.Damaged) (blank scratch) [] = rw (h, k) at e in clash cc)
      (λ k. let q : lists (accepted n) after [] ≡ lists (refuse Refusal.ShortBuffer) scratch [] = rw (h, k) at e in clash cc))
      (λ h. let q : lists (accepted n) after [] ≡ lists (refuse Refusal.BadHeader) scratch [] = rw h at e in clash cc)

module _ (area scratch after : List ℕ) (r : Result ℕ Refusal) (counts : (judged : Judged area) → lists (listed_answer r) after [] ≡ count_steps area scratch judged) (list : List ℕ) where
  again : (x : Result ℕ Refusal) → r ≡ x → (judged : Judged area) → relist list judged (lists (listed_answer x) after []) ≡ list_steps area scratch list judged
  again x e judged = ap (λ (v : Result ℕ Refusal). relist list judged (lists (listed_answer v) after [])) (sym e) ∙ ap (relist list judged) (counts judged) ∙ relist-count area scratch list judged

  module _ (n : ℕ) (e : r ≡ Ok n) where
    tells : (judged : Judged area) → lists (accepted n) after [] ≡ count_steps area scratch judged
    tells judged = ap (λ (v : Result ℕ Refusal). lists (listed_answer v) after []) (sym e) ∙ counts judged

    -- so header and scratch are as the survey needs them
    pub list-room : (header_ok area ≡ true) × (length area / word_size ≤ length after)
    list-room = by (judge area)
      where
        by : Judged area → (header_ok area ≡ true) × (length area / word_size ≤ length after)
        by (sound tree S) =
            let C = tree-counted area scratch after n tree S (tells (sound tree S)) in
            let size : length after ≡ length scratch = ap length C.clear ∙ length-replicate (length scratch) 0 in
            (C.header, omega (arith, C.room, size))
        by (unsound none) = absurd (none-counted area scratch after n none (tells (unsound none)))

    pub list-listed : n ≤ length list → (s : Result ℕ Refusal) (last noted : List ℕ) → last ≡ blank after → ((judged : Judged area) → listed_answer s ≡ judged_answer judged)
        → ((tree : Tree) → Sound area (used_of area) tree → noted ≡ put list 0 (listed tree)) → (judged : Judged area) → lists (listed_answer s) last noted ≡ list_steps area scratch list judged
    list-listed h s last noted clear answers notes (sound tree S) =
        let C = tree-counted area scratch after n tree S (tells (sound tree S)) in
        let size : length after ≡ length scratch = ap length C.clear ∙ length-replicate (length scratch) 0 in
        let kept : last ≡ after = clear ∙ blank-again scratch after size ∙ sym C.clear in
        rw (answers (sound tree S), kept, notes tree S) (sym (rw (le-leb (length (listed tree)) (length list) (omega (arith, h, C.many))) refl))
        ∙ again (Ok n) e (sound tree S)
    list-listed h s last noted clear answers notes (unsound none) = absurd (none-counted area scratch after n none (tells (unsound none)))
