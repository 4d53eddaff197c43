-- A node's record: two numbers written into the first six of its marks read back, and change no count.
use Prim.Native.Nat.{ℕ, zero, suc, ◌+◌, ◌-◌, ◌*◌, ◌≤◌, ◌<◌}
use native.Mathlib.Nat.{add-zero}
use native.Mathlib.Omega.{arith}
use native.Mathlib.Decide.{dec_lt}
use mathlib.Core.Path.{◌≡◌, sym, ap, ◌∙◌}
use mathlib.Core.Logic.{◌≢◌}
use mathlib.Core.Bool.{true}
use mathlib.Core.List.{List}
use lib.ListN.{length, get_or}
use Rattle.words.proofs.Laws.{put_same}
use Rattle.walk.specs.Marks.{can_take, fill, base, digits, write, read}
use Rattle.walk.proofs.Growing.{Grew, Keeps, read-agree}
use Rattle.walk.proofs.MarkLaws.{can-inv, Only, put_only, only-trans, only-grew, fill-only, fill-in, word_of, counted, counted-taken, counted-agree}

-- ---- a number written into three marks
abbrev pub record_max : ℕ
record_max = base * base * base

digits-some : (x j : ℕ) → j < 3 → get_or (digits x) j 0 ≢ 0
digits-some x zero h z = omega (arith, z)
digits-some x (suc zero) h z = omega (arith, z)
digits-some x (suc (suc zero)) h z = omega (arith, z)
digits-some x (suc (suc (suc j))) h z = omega arith

module _ (marks : List ℕ) (n x : ℕ) (room : n + 3 ≤ length marks) where
  written : (j : ℕ) → j < 3 → get_or (write marks n x) (n + j) 0 ≡ get_or (digits x) j 0
  unfolding write
  written j h = put_same marks n (digits x) j h room

  write-some : (w : ℕ) → n ≤ w → w < n + 3 → get_or (write marks n x) w 0 ≢ 0
  write-some w low high z =
      let e : n + (w - n) ≡ w = omega arith in
      digits-some x (w - n) (omega arith) (sym (written (w - n) (omega arith)) ∙ ap (λ (j : ℕ). get_or (write marks n x) j 0) e ∙ z)

  write_keeps : x < record_max → Keeps (write marks n x) n x
  unfolding read
  write_keeps small = record {
    one = write-some n (omega arith) (omega arith);
    two = write-some (n + 1) (omega arith) (omega arith);
    three = write-some (n + 2) (omega arith) (omega arith);
    reads = omega (arith, rw add-zero at (written 0 (omega arith)), written 1 (omega arith), written 2 (omega arith));
  }

write-only : (n k : ℕ) (marks : List ℕ) (at x : ℕ) → n ≤ at → at + 3 ≤ n + k → Only n k marks (write marks at x)
unfolding write
write-only n k marks at x low high = put_only n k marks at (digits x) low high

-- over marks that are taken already it changes no count
write-counted : (marks : List ℕ) (n x : ℕ) → n + 3 ≤ length marks → ((w : ℕ) → n ≤ w → w < n + 3 → get_or marks w 0 ≢ 0) →
    (i : ℕ) → counted (write marks n x) i ≡ counted marks i
write-counted marks n x room some i = by (dec_lt (word_of i) n) (dec_lt (word_of i) (n + 3))
  where
    by : Dec (word_of i < n) → Dec (word_of i < n + 3) → counted (write marks n x) i ≡ counted marks i
    by (yes p) q = counted-agree (write marks n x) marks i ((write-only n 3 marks n x (omega arith) (omega arith)).below (word_of i) p)
    by (no p) (yes q) =
        counted-taken (write marks n x) i (write-some marks n x room (word_of i) (omega arith) q) ∙ sym (counted-taken marks i (some (word_of i) (omega arith) q))
    by (no p) (no q) = counted-agree (write marks n x) marks i ((write-only n 3 marks n x (omega arith) (omega arith)).above (word_of i) (omega arith))

-- it stays where marks change behind it alone
keeps-before : (n x at k : ℕ) (marks after : List ℕ) → n + 3 ≤ at → Only at k marks after → Keeps marks n x → Keeps after n x
keeps-before n x at k marks after h o kept = record {
  one = λ z. kept.one (sym (o.below n (omega arith)) ∙ z);
  two = λ z. kept.two (sym (o.below (n + 1) (omega arith)) ∙ z);
  three = λ z. kept.three (sym (o.below (n + 2) (omega arith)) ∙ z);
  reads = read-agree after marks n (o.below n (omega arith)) (o.below (n + 1) (omega arith)) (o.below (n + 2) (omega arith)) ∙ kept.reads;
}

-- ---- words taken, and two numbers written into their first six marks
module _ (marks : List ℕ) (n k x o : ℕ) (six : 6 ≤ k) (can : can_take marks n k ≡ true) where
  abbrev filled : List ℕ
  filled = fill marks n k

  abbrev first : List ℕ
  first = write filled n x

  room : n + 6 ≤ length filled
  room = omega (arith, (can-inv marks n k can).0, (fill-only marks n k).long)

  ahead : Only n 3 filled first
  ahead = write-only n 3 filled n x (omega arith) (omega arith)

  filled-some : (w : ℕ) → n ≤ w → w < n + 6 → get_or filled w 0 ≢ 0
  filled-some w low high z = omega (arith, z, fill-in marks n k w (can-inv marks n k can).0 low (omega arith))

  pub record-grew : Grew marks (write (write (fill marks n k) n x) (n + 3) o)
  record-grew =
      only-grew n k marks (write first (n + 3) o) can
      (only-trans n k marks filled (write first (n + 3) o) (fill-only marks n k)
      (only-trans n k filled first (write first (n + 3) o) (write-only n k filled n x (omega arith) (omega arith)) (write-only n k first (n + 3) o (omega arith) (omega arith))))

  pub record-counted : (i : ℕ) → counted (write (write (fill marks n k) n x) (n + 3) o) i ≡ counted (fill marks n k) i
  record-counted i =
      write-counted first (n + 3) o (omega (arith, room, ahead.long))
      (λ w low high z. filled-some w (omega arith) (omega arith) (sym (ahead.above w (omega arith)) ∙ z)) i
      ∙ write-counted filled n x (omega (arith, room)) (λ w low high. filled-some w low (omega arith)) i

  pub record-first : x < record_max → Keeps (write (write (fill marks n k) n x) (n + 3) o) n x
  record-first small =
      keeps-before n x (n + 3) 3 first (write first (n + 3) o) (omega arith) (write-only (n + 3) 3 first (n + 3) o (omega arith) (omega arith))
      (write_keeps filled n x (omega (arith, room)) small)

  pub record-second : o < record_max → Keeps (write (write (fill marks n k) n x) (n + 3) o) (n + 3) o
  record-second small = write_keeps first (n + 3) o (omega (arith, room, ahead.long)) small
