-- What an answer tells: its case, by the refusals' numbers; and of find, that the entry it found can be touched, and how many nodes it compared.
use Rattle.std.proofs.Common.{◌≡◌, ℕ, suc, ◌+◌, ◌*◌, ◌%◌, ◌<◌, ◌≤◌, true, eqb, List, [], ◌∷◌, ◌++◌, length, refl, inl, suc-mul, arith, length-append}
use Rattle.words.proofs.Laws.{bool_cases, clash}
use Rattle.names.specs.Names.{segments}
use Rattle.layout.specs.declared.refusal.Refusal.{Refusal}
use Rattle.layout.specs.Layout.{root_at, prop_field, node_ok, entry_ok, word_at}
use Rattle.layout.specs.Refusals.{Answer, accepted, refuse}
use Rattle.layout.proofs.Numbers.{answered-tells}
use Rattle.std.specs.Prelude.{Result, Ok, Err}
use Rattle.layout.specs.declared.text.Span.{Span}
use Rattle.trie.specs.declared.trie.Searched.{Searched}
use Rattle.property_area.specs.declared.descent.Found.{Found}
use Rattle.trie.specs.Header.{header_ok}
use Rattle.trie.specs.Trie.{nodes_max, segment_steps}
use Rattle.trie.specs.Visits.{visits}
use Rattle.trie.proofs.Promises.{segment-bound, segment-counts}
use Rattle.property_area.specs.Find.{Hit, hit, count_limit, found_answer, by_search, prop_steps, find_from, find_steps}
use Rattle.property_area.specs.Walked.{by_named, walked_from, walked}
use Rattle.property_area.specs.Value.{bytes, part_answer, serial_answer}

-- ---- an answer by its number tells the case
pub found-tells : (a b : Result Found Refusal) → found_answer a ≡ found_answer b → a ≡ b
found-tells =
    answered-tells (λ (found : Found). hit found.offset found.compared)
    (λ a b e. let f : a.offset ≡ b.offset = cc in let g : a.compared ≡ b.compared = cc in λ i. record { offset = f i; compared = g i })

pub part-tells : (a b : Result Span Refusal) → part_answer a ≡ part_answer b → a ≡ b
part-tells =
    answered-tells (λ (span : Span). bytes span.from span.to)
    (λ a b e. let f : a.from ≡ b.from = cc in let g : a.to ≡ b.to = cc in λ i. record { from = f i; to = g i })

pub serial-tells : (a b : Result ℕ Refusal) → serial_answer a ≡ serial_answer b → a ≡ b
serial-tells = answered-tells (λ (n : ℕ). n) (λ a b e. cc)

-- ---- what holds of every refusal, and of every hit at an entry that can be touched that tells the count of the nodes compared, holds of what find answers
module _ (area : List ℕ) (P : Answer Hit → Type 0) (refuses : (why : Refusal) → P (refuse why)) where
  prop-every : (node n : ℕ) → ((offset : ℕ) → entry_ok area offset ≡ true → P (accepted (hit offset n))) → P (prop_steps area node n)
  unfolding prop_steps
  prop-every node n finds =
      let prop = word_at area node prop_field in
      bool_cases (node_ok area node)
      (λ t. bool_cases (eqb prop 0)
      (λ z. rw (t, z) (refuses Refusal.Missing))
      (λ z. bool_cases (entry_ok area prop) (λ o. rw (t, z, o) (finds prop o)) (λ o. rw (t, z, o) (refuses Refusal.Damaged))))
      (λ t. rw t (refuses Refusal.Damaged))

  -- a hit at the end of these nodes, n nodes compared before
  abbrev Finds : ℕ → List ℕ → Type 0
  Finds n nodes = (offset m : ℕ) → entry_ok area offset ≡ true → m ≡ (n + length nodes) % count_limit → P (accepted (hit offset m))

  from-every : (segs : List (List ℕ)) (node n : ℕ) → n < count_limit → Finds n (walked_from area segs node) → P (find_from area segs node n)
  unfolding find_from walked_from
  from-every [] node n small finds = prop-every node n (λ offset o. finds offset n o (omega arith))
  from-every (segment ∷ rest) node n small finds = by (segment_steps area segment node) refl finds (from-every rest)
    where
      by : (s : Result Searched Refusal) → segment_steps area segment node ≡ s → Finds n (visits (nodes_max area) area segment node ++ by_named s (walked_from area rest))
          → ((at more : ℕ) → more < count_limit → Finds more (walked_from area rest at) → P (find_from area rest at more))
          → P (by_search s (λ named more. find_from area rest named ((n + more) % count_limit)))
      by (Ok (Searched.Named at more)) e finds on =
          on at ((n + more) % count_limit) (omega arith)
          (λ offset m o f. finds offset m o
          (omega (arith, f, segment-counts area segment node at more (inl e), length-append (visits (nodes_max area) area segment node) (walked_from area rest at))))
      by (Ok (Searched.Absent link more)) e finds on = refuses Refusal.Missing
      by (Err why) e finds on = refuses why

  found-every : (name : List ℕ) → (header_ok area ≡ true → (offset m : ℕ) → entry_ok area offset ≡ true → m ≡ length (walked area name) % count_limit → P (accepted (hit offset m))) → P (find_steps area name)
  unfolding find_steps walked
  found-every name finds =
      bool_cases (header_ok area)
      (λ h. rw h (from-every (segments name) root_at 0 (omega arith) (λ offset m o e. finds h offset m o (rw h (omega (arith, e))))))
      (λ h. rw h (refuses Refusal.BadHeader))

  pub find-every : (header_ok area ≡ true → (offset n : ℕ) → entry_ok area offset ≡ true → P (accepted (hit offset n))) → (name : List ℕ) → P (find_steps area name)
  find-every finds name = found-every name (λ h offset m o e. finds h offset m o)

-- ---- what find finds is an entry that can be touched, and the count is that of the nodes compared
pub found_ok : (area name : List ℕ) (offset m : ℕ) → find_steps area name ≡ accepted (hit offset m) → entry_ok area offset ≡ true
found_ok area name offset m e =
    find-every area (λ (a : Answer Hit). a ≡ accepted (hit offset m) → entry_ok area offset ≡ true) (λ why k. clash cc) (λ h at n o k. let p : at ≡ offset = cc in rw (← p) o) name e

pub find-counted : (area name : List ℕ) (offset m : ℕ) → find_steps area name ≡ accepted (hit offset m) → m ≡ length (walked area name) % count_limit
find-counted area name offset m e =
    found-every area (λ (a : Answer Hit). a ≡ accepted (hit offset m) → m ≡ length (walked area name) % count_limit) (λ why k. clash cc) name
    (λ h at n o count k. let p : n ≡ m = cc in rw (← p) count) e

-- ---- so many for each segment, at most
from-most : (segs : List (List ℕ)) (area : List ℕ) (node : ℕ) → length (walked_from area segs node) ≤ length segs * nodes_max area
unfolding walked_from
from-most [] area node = omega arith
from-most (segment ∷ rest) area node = by (segment_steps area segment node) (from-most rest area)
  where
    most : (after : List ℕ) → length after ≤ length rest * nodes_max area → length (visits (nodes_max area) area segment node ++ after) ≤ suc (length rest) * nodes_max area
    most after few = omega (
      arith,
      few,
      segment-bound area segment node,
      length-append (visits (nodes_max area) area segment node) after,
      suc-mul (length rest) (nodes_max area),
    )

    by : (s : Result Searched Refusal) → ((at : ℕ) → length (walked_from area rest at) ≤ length rest * nodes_max area)
        → length (visits (nodes_max area) area segment node ++ by_named s (walked_from area rest)) ≤ suc (length rest) * nodes_max area
    by (Ok (Searched.Named at more)) on = most (walked_from area rest at) (on at)
    by (Ok (Searched.Absent link more)) on = most [] (omega arith)
    by (Err why) on = most [] (omega arith)

pub walked-most : (area name : List ℕ) → length (walked area name) ≤ length (segments name) * nodes_max area
unfolding walked
walked-most area name =
    bool_cases (header_ok area)
    (λ h. rw h (from-most (segments name) area root_at))
    (λ h. rw h (omega arith))
