-- Laws of `decimal`: a number's last digit stands behind the digits of what is left of it, found from the last one on;
-- how many digits there are, and what they mean.
use Prim.Native.Nat.{ℕ, zero, suc, ◌+◌, ◌-◌, ◌*◌, ◌/◌, ◌%◌, ◌^◌, ◌≤◌, ◌<◌}
use mathlib.Core.Path.{◌≡◌, refl, ◌∙◌}
use mathlib.Core.Bool.{cond}
use mathlib.Core.List.{List, [], ◌∷◌, ◌++◌}
use native.Mathlib.Nat.{pow-suc, div-lt_iff_lt-mul}
use native.Mathlib.Omega.{arith}
use native.Mathlib.Decide.{dec_lt}
use borrow.Author.Tests.{le-ltb, ltb-true, ltb-false}
use lib.Dec.{ltb}
use lib.ListN.{length, get_or, set, drop, length-append, length-set, get_or-append}
use lib.Seq.{append_snoc, drop-cons, drop-set-lt, get_or-set_same, get_or-append-add}
use Rattle.words.proofs.Laws.{bool_cases}
use Rattle.texts.specs.Text.{digit, decimal_in, decimal}

-- the digits above a number's last one
abbrev pub above : ℕ → ℕ → List ℕ
above more n = cond (ltb n 10) [] (decimal_in more (n / 10))

stored : (s : List ℕ) (k b : ℕ) → k < length s → drop k (set s k b) ≡ b ∷ drop (suc k) s
stored s k b h =
    drop-cons (set s k b) k 0 (rw length-set h) ∙ rw (get_or-set_same s k b 0 h, drop-set-lt (suc k) s k b (omega arith))

splits : (more n : ℕ) → decimal_in (suc more) n ≡ above more n ++ digit (n % 10) ∷ []
unfolding decimal_in
splits more n =
    bool_cases (ltb n 10)
    (λ t. let e : n % 10 ≡ n = omega (arith, ltb-true n 10 t) in rw (t, e))
    (λ t. rw t)

stores : (s : List ℕ) (k n b : ℕ) → k < length s → b ≡ digit (n % 10) → decimal_in (suc k) n ++ drop (suc k) s ≡ above k n ++ drop k (set s k b)
stores s k n b h e = rw (splits k n, stored s k b h, e) (append_snoc (above k n) (digit (n % 10)) (drop (suc k) s))

-- ---- the last digit; one digit more, where there are more
pub digits-start : (n b : ℕ) → b ≡ digit (n % 10) → decimal n ≡ above 19 n ++ b ∷ []
digits-start n b e = rw e (splits 19 n)

module _ (s : List ℕ) (from rest : ℕ) (text : List ℕ) (e : text ≡ above from rest ++ drop from s) where
  pub digits-turn : from < length s → 10 ≤ rest → 1 ≤ from → (b : ℕ) → b ≡ digit (rest / 10 % 10) → text ≡ above (from - 1) (rest / 10) ++ drop (from - 1) (set s (from - 1) b)
  digits-turn l h some b d =
      let k : from ≡ suc (from - 1) = omega arith in
      let more : text ≡ decimal_in from (rest / 10) ++ drop from s = rw (le-ltb rest 10 h) at e in
      let again : text ≡ decimal_in (suc (from - 1)) (rest / 10) ++ drop (suc (from - 1)) s = rw k at more in
      again ∙ stores s (from - 1) (rest / 10) b (omega arith) d

-- ---- there is room for the digits
module _ (from rest : ℕ) (fits : rest < 10 ^ suc from) (h : 10 ≤ rest) where
  pub digits-left : 1 ≤ from
  digits-left = more from fits
    where
      more : (k : ℕ) → rest < 10 ^ suc k → 1 ≤ k
      more zero f = absurd (omega (arith, h, f))
      more (suc k) f = omega arith

  pub digits-fit : rest / 10 < 10 ^ suc (from - 1)
  digits-fit =
      let k : suc (from - 1) ≡ from = omega (arith, digits-left) in
      rw k ((div-lt_iff_lt-mul {k = 10} (omega arith)).1 (rw pow-suc at fits))

-- ---- how many digits there are
pub decimal-few : (k n : ℕ) → length (decimal_in k n) ≤ k
unfolding decimal_in
decimal-few zero n = omega arith
decimal-few (suc more) n =
    bool_cases (ltb n 10)
    (λ t. rw t (omega arith))
    (λ t. rw (t, length-append) (omega (arith, decimal-few more (n / 10))))

-- ---- what the digits mean: read as a number, behind what was read before, they are the number
abbrev pub read_from : ℕ → List ℕ → ℕ
read_from got [] = got
read_from got (d ∷ ds) = read_from (10 * got + (d - 48)) ds

read-append : (got : ℕ) (a b : List ℕ) → read_from got (a ++ b) ≡ read_from (read_from got a) b
read-append got [] b = refl
read-append got (d ∷ a) b = read-append (10 * got + (d - 48)) a b

pub decimal-reads : (k n : ℕ) → n < 10 ^ k → read_from 0 (decimal_in k n) ≡ n
unfolding decimal_in
decimal-reads zero n h = omega arith
decimal-reads (suc k) n h =
    bool_cases (ltb n 10)
    (λ t. rw t (omega arith))
    (λ t.
    let few : n / 10 < 10 ^ k = (div-lt_iff_lt-mul {k = 10} (omega arith)).1 (rw pow-suc at h) in
    rw (t, read-append 0 (decimal_in k (n / 10)) (digit (n % 10) ∷ []), decimal-reads k (n / 10) few) (omega arith))

-- each is one of 0 to 9, and no zero stands in front
abbrev pub IsDigit : ℕ → Type 0
IsDigit b = (digit 0 ≤ b) × (b ≤ digit 9)

digit-behind : (ds : List ℕ) (d i : ℕ) → d < 10 → ((j : ℕ) → j < length ds → IsDigit (get_or ds j 0)) → i < length (ds ++ digit d ∷ []) → IsDigit (get_or (ds ++ digit d ∷ []) i 0)
digit-behind ds d i few all h = by (dec_lt i (length ds))
  where
    by : Dec (i < length ds) → IsDigit (get_or (ds ++ digit d ∷ []) i 0)
    by (yes p) = rw (get_or-append ds (digit d ∷ []) 0 i p) (all i p)
    by (no p) =
        let e : i ≡ length ds + 0 = omega (arith, length-append ds (digit d ∷ []), h) in
        rw (e, get_or-append-add ds (digit d ∷ []) 0 0) (omega arith, omega arith)

pub decimal-digits : (k n i : ℕ) → i < length (decimal_in k n) → IsDigit (get_or (decimal_in k n) i 0)
unfolding decimal_in
decimal-digits zero n i h = absurd (omega arith)
decimal-digits (suc k) n i h =
    bool_cases (ltb n 10)
    (λ t. rw t (digit-behind [] n i (ltb-true n 10 t) (λ j l. absurd (omega arith)) (rw t at h)))
    (λ t. rw t (digit-behind (decimal_in k (n / 10)) (n % 10) i (omega arith) (decimal-digits k (n / 10)) (rw t at h)))

pub decimal-leads : (k n : ℕ) → n < 10 ^ k → 1 ≤ n → (1 ≤ length (decimal_in k n)) × (digit 0 < get_or (decimal_in k n) 0 0)
unfolding decimal_in
decimal-leads zero n h some = absurd (omega arith)
decimal-leads (suc k) n h some =
    bool_cases (ltb n 10)
    (λ t. rw t (omega arith, omega arith))
    (λ t.
    let many : 10 ≤ n = ltb-false n 10 t in
    let few : n / 10 < 10 ^ k = (div-lt_iff_lt-mul {k = 10} (omega arith)).1 (rw pow-suc at h) in
    let leads = decimal-leads k (n / 10) few (omega arith) in
    rw t (rw length-append (omega arith), rw (get_or-append (decimal_in k (n / 10)) (digit (n % 10) ∷ []) 0 0 leads.0) leads.1))
