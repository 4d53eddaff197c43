-- Laws of specs/Stores.antt: a run in two parts, bytes and texts as runs, lengths.
use mathlib.Core.Path.{◌≡◌, refl, ◌∙◌}
use mathlib.Core.List.{List, [], ◌∷◌, ◌++◌}
use Prim.Native.Nat.{ℕ, suc, ◌+◌, ◌≤◌, ◌<◌}
use native.Mathlib.Nat.{add-zero}
use native.Mathlib.Omega.{arith}
use lib.ListN.{length, get_or, set}
use Rattle.words.specs.Words.{put}
use Rattle.words.specs.Stores.{Store, store, run, byte_stores, text_stores}
use Rattle.words.proofs.Laws.{put-length, put-before}

-- ---- a run of stores after another
pub run-append : (s : List ℕ) (a b : List Store) → run s (a ++ b) ≡ run (run s a) b
unfolding run
run-append s [] b = refl
run-append s (store at bs ∷ a) b = run-append (put s at bs) a b

pub run_length : (s : List ℕ) (a : List Store) → length (run s a) ≡ length s
unfolding run
run_length s [] = refl
run_length s (store at bs ∷ a) = run_length (put s at bs) a ∙ put-length s at bs

-- ---- bytes put one after the other are a run of single stores
pub run-bytes : (s : List ℕ) (at : ℕ) (bs : List ℕ) → run s (byte_stores at bs) ≡ put s at bs
unfolding run byte_stores put
run-bytes s at [] = refl
run-bytes s at (b ∷ bs) = run-bytes (set s at b) (at + 1) bs

pub put-append : (s : List ℕ) (at : ℕ) (bs cs : List ℕ) → put s at (bs ++ cs) ≡ put (put s at bs) (at + length bs) cs
unfolding put
put-append s at [] cs = rw add-zero
put-append s at (b ∷ bs) cs =
    let e : at + suc (length bs) ≡ at + 1 + length bs = omega arith in
    put-append (set s at b) (at + 1) bs cs ∙ rw e

pub run-text : (s : List ℕ) (at : ℕ) (text : List ℕ) → run s (text_stores at text) ≡ set (put s at text) (at + length text) 0
unfolding put
run-text s at text = run-bytes s at (text ++ (0 ∷ [])) ∙ put-append s at text (0 ∷ [])

-- ---- stores behind a place leave what stands before it
pub data Behind (place : ℕ) : List Store → Type 0 where
  none : Behind place []
  one : (at : ℕ) (bs : List ℕ) (rest : List Store) → place ≤ at → Behind place rest → Behind place (store at bs ∷ rest)

pub behind-append : (place : ℕ) (a b : List Store) → Behind place a → Behind place b → Behind place (a ++ b)
behind-append place [] b p q = q
behind-append place (store at bs ∷ a) b (one _ _ _ h p) q = one at bs (a ++ b) h (behind-append place a b p q)

pub behind-bytes : (place at : ℕ) (bs : List ℕ) → place ≤ at → Behind place (byte_stores at bs)
unfolding byte_stores
behind-bytes place at [] h = none
behind-bytes place at (b ∷ bs) h = one at (b ∷ []) (byte_stores (at + 1) bs) h (behind-bytes place (at + 1) bs (omega arith))

pub run-before : (s : List ℕ) (place : ℕ) (stores : List Store) → Behind place stores → (j : ℕ) → j < place → get_or (run s stores) j 0 ≡ get_or s j 0
unfolding run
run-before s place [] p j h = refl
run-before s place (store at bs ∷ rest) (one _ _ _ k p) j h = run-before (put s at bs) place rest p j h ∙ put-before s at bs j (omega arith)
