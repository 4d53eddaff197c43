-- Stores made in their order: the bytes that they leave as they were, and the words and texts that are read back behind them.
use Prim.Native.Nat.{ℕ, ◌+◌, ◌≤◌, ◌<◌}
use native.Mathlib.Omega.{arith}
use native.Mathlib.Decide.{dec_lt}
use mathlib.Core.Path.{◌≡◌, refl, ap, ◌∙◌}
use mathlib.Core.List.{List, [], ◌∷◌, ◌++◌}
use lib.ListN.{length, get_or}
use Rattle.words.specs.Words.{little_at, little_bytes, put}
use Rattle.words.specs.Stores.{Store, store, run, word_store, byte_stores, text_stores}
use Rattle.words.proofs.Laws.{length-little, put-before, put-after, put_same}
use Rattle.words.proofs.StoreLaws.{run_length, run-bytes}
use Rattle.words.proofs.Promises.{little-put-before}
use Rattle.layout.specs.Layout.{word_size}
use Rattle.sound.specs.Tree.{inside}
use Rattle.sound.specs.Sound.{Holds, HoldsText}
use Rattle.sound.proofs.Inside.{inside-yes, inside-above, inside-part}
use Rattle.sound.proofs.Holding.{text-length}

-- ---- what is left as it was
-- b is an area of the same length, with the same bytes wherever a count is zero
pub record Changed (area b : List ℕ) (count : ℕ → ℕ) : Type 0 where
  pub size : length b ≡ length area
  pub kept : (i : ℕ) → count i ≡ 0 → get_or b i 0 ≡ get_or area i 0

pub changed_then : (a b c : List ℕ) (one two count : ℕ → ℕ) → Changed a b one → Changed b c two → ((i : ℕ) → count i ≡ 0 → one i + two i ≡ 0) → Changed a c count
changed_then a b c one two count f g h = record {
  size = g.size ∙ f.size;
  kept = λ i z. g.kept i (omega (arith, h i z)) ∙ f.kept i (omega (arith, h i z));
}

-- every store lies between two places
unfoldable pub StoresIn : ℕ → ℕ → List Store → Type 0
StoresIn from size [] = Unit {0}
StoresIn from size (store at bs ∷ rest) = (from ≤ at) × (at + length bs ≤ from + size) × StoresIn from size rest

module _ (from size : ℕ) where
  pub within_none : StoresIn from size []
  unfolding StoresIn
  within_none = tt

  pub within-store : (at : ℕ) (bs : List ℕ) (rest : List Store) → from ≤ at → at + length bs ≤ from + size → StoresIn from size rest → StoresIn from size (store at bs ∷ rest)
  unfolding StoresIn
  within-store at bs rest low high w = (low, high, w)

  pub within_word : (at v : ℕ) (rest : List Store) → from ≤ at → at + word_size ≤ from + size → StoresIn from size rest → StoresIn from size (word_store at v ∷ rest)
  within_word at v rest low high w = within-store at (little_bytes word_size v) rest low (omega (arith, length-little word_size v)) w

  pub within-append : (a b : List Store) → StoresIn from size a → StoresIn from size b → StoresIn from size (a ++ b)
  unfolding StoresIn
  within-append [] b f g = g
  within-append (store at bs ∷ a) b f g = (f.0, f.1, within-append a b f.2 g)

  within-bytes : (at : ℕ) (bs : List ℕ) → from ≤ at → at + length bs ≤ from + size → StoresIn from size (byte_stores at bs)
  unfolding byte_stores
  within-bytes at [] low high = within_none
  within-bytes at (b ∷ bs) low high = within-store at (b ∷ []) (byte_stores (at + 1) bs) low (omega arith) (within-bytes (at + 1) bs (omega arith) (omega arith))

  pub within_text : (at : ℕ) (text : List ℕ) → from ≤ at → at + (length text + 1) ≤ from + size → StoresIn from size (text_stores at text)
  within_text at text low high = within-bytes at (text ++ 0 ∷ []) low (omega (arith, text-length text))

put-outside : (s : List ℕ) (at : ℕ) (bs : List ℕ) (i : ℕ) → inside at (length bs) i ≡ 0 → get_or (put s at bs) i 0 ≡ get_or s i 0
put-outside s at bs i h = by (dec_lt i at) (dec_lt i (at + length bs))
  where
    by : Dec (i < at) → Dec (i < at + length bs) → get_or (put s at bs) i 0 ≡ get_or s i 0
    by (yes p) q = put-before s at bs i p
    by (no p) (yes q) = absurd (omega (arith, inside-yes at (length bs) i (omega arith) q))
    by (no p) (no q) = put-after s at bs i (omega arith)

pub run-outside : (s : List ℕ) (from size : ℕ) (stores : List Store) (i : ℕ) → StoresIn from size stores → inside from size i ≡ 0 → get_or (run s stores) i 0 ≡ get_or s i 0
unfolding StoresIn run
run-outside s from size [] i w h = refl
run-outside s from size (store at bs ∷ rest) i w h =
    run-outside (put s at bs) from size rest i w.2 h ∙ put-outside s at bs i (omega (arith, inside-part from size at (length bs) i w.0 w.1))

pub run-changed : (s : List ℕ) (from size : ℕ) (stores : List Store) → StoresIn from size stores → Changed s (run s stores) (inside from size)
run-changed s from size stores w = record { size = run_length s stores; kept = λ i h. run-outside s from size stores i w h }

-- bytes behind a change
pub holds-above : (a b : List ℕ) (from size : ℕ) → Changed a b (inside from size) → (place : ℕ) (bs : List ℕ) → from + size ≤ place → Holds a place bs → Holds b place bs
holds-above a b from size changed place bs l h k m = changed.kept (place + k) (inside-above from size (place + k) (omega arith)) ∙ h k m

-- ---- what is read back
module _ (s : List ℕ) (at : ℕ) (text : List ℕ) where
  pub text-stored : at + (length text + 1) ≤ length s → HoldsText (run s (text_stores at text)) at text
  text-stored fits k l =
      ap (λ (t : List ℕ). get_or t (at + k) 0) (run-bytes s at (text ++ 0 ∷ [])) ∙ put_same s at (text ++ 0 ∷ []) k l (omega (arith, text-length text))

  pub word-before-text : (place : ℕ) → place + word_size ≤ at → little_at word_size (run s (text_stores at text)) place ≡ little_at word_size s place
  word-before-text place h =
      ap (λ (t : List ℕ). little_at word_size t place) (run-bytes s at (text ++ 0 ∷ [])) ∙ little-put-before word_size s at (text ++ 0 ∷ []) place h

  pub text-before-text : (place : ℕ) (other : List ℕ) → place + (length other + 1) ≤ at → HoldsText s place other → HoldsText (run s (text_stores at text)) place other
  text-before-text place other l h k m =
      ap (λ (t : List ℕ). get_or t (place + k) 0) (run-bytes s at (text ++ 0 ∷ []))
      ∙ put-before s at (text ++ 0 ∷ []) (place + k) (omega (arith, text-length other)) ∙ h k m
