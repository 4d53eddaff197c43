-- The name's verdict, told by its segments: it is accepted if and only if each may name a node. So a name that is refused is no entry's.
use Prim.Native.Nat.{ℕ, zero, suc}
use native.Mathlib.Omega.{arith}
use mathlib.Core.Path.{◌≡◌}
use mathlib.Core.Logic.{◌≢◌}
use mathlib.Core.Bool.{true, false}
use mathlib.Core.List.{List, [], ◌∷◌}
use lib.Dec.{eqb}
use lib.ListN.{length}
use borrow.Author.Tests.{ltb-true, ltb-false, eqb-false}
use Rattle.words.specs.Words.{first_in, has_zero}
use Rattle.words.proofs.Laws.{bool_cases, clash}
use Rattle.words.proofs.Promises.{first-none, first-there}
use Rattle.names.specs.Names.{dot, on_first, segments}
use Rattle.layout.specs.declared.refusal.Refusal.{Refusal}
use Rattle.layout.specs.Refusals.{pass, fail}
use Rattle.builder.specs.Add.{any_empty, name_verdict}
use Rattle.sound.specs.Sound.{Without}
use Rattle.history.proofs.AddPath.{AllNamed}

-- ---- the two tests of a verdict
module _ (name : List ℕ) where
  accepted-tests : name_verdict name ≡ pass → (has_zero name ≡ false) × (any_empty (segments name) ≡ false)
  unfolding name_verdict
  accepted-tests e =
      bool_cases (has_zero name)
      (λ t. let k : fail Refusal.ZeroByte ≡ pass = rw t at e in clash cc)
      (λ t. bool_cases (any_empty (segments name))
      (λ u. let k : fail Refusal.EmptySegment ≡ pass = rw (t, u) at e in clash cc)
      (λ u. (t, u)))

  -- what is accepted is not refused
  pub not-refused : {P : Type 0} → name_verdict name ≡ pass → (why : Refusal) → name_verdict name ≡ fail why → P
  not-refused e why f = clash cc

  pub none-empty : name_verdict name ≡ pass → any_empty (segments name) ≡ false
  none-empty e = (accepted-tests e).1

  -- no test of a name tells of damage or of a bad header
  pub verdict-refused : (why : Refusal) → name_verdict name ≡ fail why → (why ≢ Refusal.Damaged) × (why ≢ Refusal.BadHeader)
  unfolding name_verdict
  verdict-refused why e =
      bool_cases (has_zero name)
      (λ t. let k : fail Refusal.ZeroByte ≡ fail why = rw t at e in ((λ d. clash cc), (λ h. clash cc)))
      (λ t. bool_cases (any_empty (segments name))
      (λ u. let k : fail Refusal.EmptySegment ≡ fail why = rw (t, u) at e in ((λ d. clash cc), (λ h. clash cc)))
      (λ u. let k : pass ≡ fail why = rw (t, u) at e in clash cc))

  -- the scan for a zero
  zero-none : has_zero name ≡ false → Without 0 name
  zero-none t k l = first-none 0 name 0 (length name) k (omega arith) (omega (arith, ltb-false (first_in 0 name 0 (length name)) (length name) t))

  none-zero : Without 0 name → has_zero name ≡ false
  none-zero whole =
      bool_cases (has_zero name)
      (λ t.
      let l = ltb-true (first_in 0 name 0 (length name)) (length name) t in
      absurd (whole (first_in 0 name 0 (length name)) l (first-there 0 name 0 (length name) (omega (arith, l)))))
      (λ t. t)

-- ---- there is a segment at least
pub segments-some : (name : List ℕ) → segments name ≢ []
unfolding segments
segments-some [] e = clash cc
segments-some (x ∷ xs) e =
    bool_cases (eqb x dot)
    (λ t. let k : [] ∷ segments xs ≡ [] = rw t at e in clash cc)
    (λ t. by (segments xs) (rw t at e))
  where
    by : (segs : List (List ℕ)) → on_first x segs ≢ []
    by [] k = clash cc
    by (segment ∷ rest) k = clash cc

-- ---- segments without zeros and dots: those of a name without zeros
abbrev Clean : List (List ℕ) → Type 0
Clean [] = Unit {0}
Clean (segment ∷ rest) = Without 0 segment × Without dot segment × Clean rest

none-without : (b : ℕ) → Without b []
none-without b k l = absurd (omega arith)

more-without : (b x : ℕ) (s : List ℕ) → x ≢ b → Without b s → Without b (x ∷ s)
more-without b x s first rest zero l = first
more-without b x s first rest (suc k) l = rest k (omega arith)

less-without : (b x : ℕ) (s : List ℕ) → Without b (x ∷ s) → Without b s
less-without b x s all k l = all (suc k) (omega arith)

clean-more : (x : ℕ) (segs : List (List ℕ)) → x ≢ 0 → x ≢ dot → Clean segs → Clean (on_first x segs)
clean-more x [] whole plain clean = (more-without 0 x [] whole (none-without 0), more-without dot x [] plain (none-without dot), tt)
clean-more x (segment ∷ rest) whole plain clean = (more-without 0 x segment whole clean.0, more-without dot x segment plain clean.1, clean.2)

whole-clean : (name : List ℕ) → Without 0 name → Clean (segments name)
unfolding segments
whole-clean [] whole = (none-without 0, none-without dot, tt)
whole-clean (x ∷ xs) whole =
    let clean = whole-clean xs (less-without 0 x xs whole) in
    bool_cases (eqb x dot)
    (λ t. rw t (none-without 0, none-without dot, clean))
    (λ t. rw t (clean-more x (segments xs) (whole 0 (omega arith)) (eqb-false x dot t) clean))

-- ---- each segment of an accepted name may name a node
clean-named : (segs : List (List ℕ)) → Clean segs → any_empty segs ≡ false → AllNamed segs
unfolding any_empty
clean-named [] clean full = tt
clean-named (segment ∷ rest) clean full =
    bool_cases (eqb (length segment) 0)
    (λ t. let k : true ≡ false = rw t at full in clash cc)
    (λ t. (
      record { some = omega (arith, eqb-false (length segment) 0 t); whole = clean.0; plain = clean.1 },
      clean-named rest clean.2 (rw t at full),
    ))

pub all_named : (name : List ℕ) → name_verdict name ≡ pass → AllNamed (segments name)
all_named name e =
    let tests = accepted-tests name e in
    clean-named (segments name) (whole-clean name (zero-none name tests.0)) tests.1
