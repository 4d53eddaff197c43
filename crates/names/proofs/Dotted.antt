-- A name is its segments with dots between them.
use mathlib.Core.Path.{◌≡◌, refl, ap, ◌∙◌}
use mathlib.Core.List.{List, [], ◌∷◌, ◌++◌}
use Prim.Native.Nat.{ℕ}
use borrow.Author.Tests.{eqb-true}
use lib.Dec.{eqb}
use Rattle.words.proofs.Laws.{bool_cases}
use Rattle.names.specs.Names.{dot, on_first, segments}

abbrev pub dotted : List (List ℕ) → List ℕ
dotted [] = []
dotted (s ∷ []) = s
dotted (s ∷ t ∷ rest) = s ++ (dot ∷ dotted (t ∷ rest))

dotted-first : (x : ℕ) (segs : List (List ℕ)) → dotted (on_first x segs) ≡ x ∷ dotted segs
dotted-first x [] = refl
dotted-first x (s ∷ []) = refl
dotted-first x (s ∷ t ∷ rest) = refl

-- there is one at least
data Some : List (List ℕ) → Type 0 where
  some : (s : List ℕ) (rest : List (List ℕ)) → Some (s ∷ rest)

some_first : (x : ℕ) (segs : List (List ℕ)) → Some (on_first x segs)
some_first x [] = some (x ∷ []) []
some_first x (s ∷ rest) = some (x ∷ s) rest

some-segments : (name : List ℕ) → Some (segments name)
unfolding segments
some-segments [] = some [] []
some-segments (x ∷ xs) =
    bool_cases (eqb x dot)
    (λ e. rw e (some [] (segments xs)))
    (λ e. rw e (some_first x (segments xs)))

dotted-more : (segs : List (List ℕ)) → Some segs → dotted ([] ∷ segs) ≡ dot ∷ dotted segs
dotted-more (s ∷ rest) m = refl
dotted-more [] m = elim m [ ]

pub segments-name : (name : List ℕ) → dotted (segments name) ≡ name
unfolding segments
segments-name [] = refl
segments-name (x ∷ xs) =
    bool_cases (eqb x dot)
    (λ e. rw e (dotted-more (segments xs) (some-segments xs) ∙ cc (eqb-true x dot e, segments-name xs)))
    (λ e. rw e (dotted-first x (segments xs) ∙ ap (λ (l : List ℕ). x ∷ l) (segments-name xs)))
