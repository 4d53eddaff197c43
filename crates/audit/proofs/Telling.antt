-- What check and listing tell of an area, by the cases of its judgement and of the tests before it.
-- Assumes nothing.
use Rattle.std.specs.Prelude.{Result, Ok, Err}
use Prim.Native.Nat.{ℕ, ◌+◌, ◌-◌, ◌*◌, ◌≤◌}
use native.Mathlib.Omega.{arith}
use mathlib.Core.Path.{◌≡◌, sym, ap, ◌∙◌}
use mathlib.Core.List.{List, ◌++◌}
use lib.ListN.{length, length-append}
use lib.Dec.{leb}
use borrow.Author.Tests.{leb-true}
use Rattle.words.proofs.Laws.{bool_cases, clash}
use Rattle.words.specs.Words.{put}
use Rattle.layout.specs.declared.refusal.Refusal.{Refusal}
use Rattle.layout.specs.Layout.{area_max, first_free}
use Rattle.layout.specs.Refusals.{pass, accepted, refused, accept_leaving}
use Rattle.layout.proofs.Numbers.{outcome-clash}
use Rattle.layout.proofs.Promises.{one-refusal}
use Rattle.trie.specs.Header.{header_ok}
use Rattle.trie.proofs.HeaderLaws.{header-max}
use Rattle.sound.specs.Tree.{Entry, bare, entry, Tree, leaf, node, listed_own, listed}
use Rattle.sound.specs.Sound.{Sound}
use Rattle.sound.proofs.Counting.{entry_taken, taken, taken-few}
use Rattle.audit.specs.Check.{used_of, Judged, sound, unsound, blank, scratch_min, survey_steps, check_steps, CheckSays, lists, listed_answer, list_steps, ListSays}
use Rattle.audit.proofs.CheckLaws.{judge}

-- ---- two listings of the same say the same
one-listed : (r s : Result ℕ Refusal) → listed_answer r ≡ listed_answer s → r ≡ s
one-listed (Ok n) (Ok k) e = cc
one-listed (Ok n) (Err why) e = clash cc
one-listed (Err why) (Ok k) e = clash cc
one-listed (Err why) (Err reason) e = ap Err (one-refusal why reason (cc))

pub one-listing : (area scratch list : List ℕ) (r s : Result ℕ Refusal) (a b c d : List ℕ) → ListSays area scratch list r a c → ListSays area scratch list s b d → (r ≡ s) × (a ≡ b) × (c ≡ d)
one-listing area scratch list r s a b c d p q =
    let e : lists (listed_answer r) a c ≡ lists (listed_answer s) b d = p (judge area) ∙ sym (q (judge area)) in
    (one-listed r s (cc), (cc), (cc))

-- ---- an entry takes at least 100 bytes, and the node that it needs takes 24, so there are few
own-takes : (own : Entry) → 124 * length (listed_own own) ≤ 24 + entry_taken own
unfolding listed_own
own-takes bare = omega arith
own-takes (entry at serial name value) = omega arith

listed-takes : (tree : Tree) → 124 * length (listed tree) ≤ taken tree
unfolding listed taken
listed-takes leaf = omega arith
listed-takes (node at name own left below right) =
    omega (
      arith,
      length-append (listed left ++ listed_own own ++ listed below) (listed right),
      length-append (listed left ++ listed_own own) (listed below),
      length-append (listed left) (listed_own own),
      own-takes own,
      listed-takes left,
      listed-takes below,
      listed-takes right,
    )

pub entries-few : (area : List ℕ) (used : ℕ) (tree : Tree) → Sound area used tree → 124 * length (listed tree) ≤ used - first_free
entries-few area used tree S = omega (arith, listed-takes tree, taken-few area used tree S)

-- ---- what a listing that is not refused says: the area is sound, and these are its tree's entries
pub record ListTells (area scratch list : List ℕ) (n : ℕ) (a c : List ℕ) : Type 0 where
  pub tree : Tree
  pub sound : Sound area (used_of area) tree
  pub count : n ≡ length (listed tree)
  pub fits : n ≤ length list
  pub cleared : a ≡ blank scratch
  pub notes : c ≡ put list 0 (listed tree)

pub listing-tells : (area scratch list : List ℕ) (n : ℕ) (a c : List ℕ) (judged : Judged area) → lists (accepted n) a c ≡ list_steps area scratch list judged
    → ListTells area scratch list n a c
unfolding survey_steps
listing-tells area scratch list n a c judged q = by judged q
  where
    refuses : (number : ℕ) (x y : List ℕ) → lists (accepted n) a c ≡ lists (refused number) x y → ListTells area scratch list n a c
    refuses number x y q = clash cc

    by : (judged : Judged area) → lists (accepted n) a c ≡ list_steps area scratch list judged → ListTells area scratch list n a c
    by (sound tree S) q =
        bool_cases (header_ok area)
        (λ h. bool_cases (leb (scratch_min area) (length scratch))
        (λ k. bool_cases (leb (length (listed tree)) (length list))
        (λ l.
        let x : lists (accepted n) a c ≡ lists (accepted (length (listed tree))) (blank scratch) (put list 0 (listed tree)) = rw (h, k, l) at q in
        let m : n ≡ length (listed tree) = cc in
        record { tree = tree; sound = S; count = m; fits = omega (arith, m, leb-true (length (listed tree)) (length list) l); cleared = cc; notes = cc })
        (λ l. refuses _ _ _ (rw (h, k, l) at q)))
        (λ k. refuses _ _ _ (rw (h, k) at q)))
        (λ h. refuses _ _ _ (rw h at q))
    by (unsound none) q =
        bool_cases (header_ok area)
        (λ h. bool_cases (leb (scratch_min area) (length scratch)) (λ k. refuses _ _ _ (rw (h, k) at q)) (λ k. refuses _ _ _ (rw (h, k) at q)))
        (λ h. refuses _ _ _ (rw h at q))

pub listing-few : (area scratch list : List ℕ) (r : Result ℕ Refusal) (a c : List ℕ) → ListSays area scratch list r a c → (n : ℕ) → r ≡ Ok n → n ≤ area_max
listing-few area scratch list r a c says n e =
    let t = listing-tells area scratch list n a c (judge area) (ap (λ (x : Result ℕ Refusal). lists (listed_answer x) a c) (sym e) ∙ says (judge area)) in
    omega (arith, t.count, entries-few area (used_of area) t.tree t.sound, t.sound.front.high, header-max area t.sound.front.header)

-- ---- what an accepted check says
pub accepted-sound : (area scratch after : List ℕ) → CheckSays area scratch pass after → (tree : Tree) × Sound area (used_of area) tree
unfolding survey_steps
accepted-sound area scratch after says = by (judge area) (says (judge area))
  where
    by : (judged : Judged area) → accept_leaving after ≡ check_steps area scratch judged → (tree : Tree) × Sound area (used_of area) tree
    by (sound tree S) q = (tree, S)
    by (unsound none) q =
        bool_cases (header_ok area)
        (λ h. bool_cases (leb (scratch_min area) (length scratch)) (λ k. outcome-clash after (blank scratch) Refusal.Damaged (rw (h, k) at q)) (λ k. outcome-clash after scratch Refusal.ShortBuffer (rw (h, k) at q)))
        (λ h. outcome-clash after scratch Refusal.BadHeader (rw h at q))
