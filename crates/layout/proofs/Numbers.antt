-- Each refusal has a number of its own, and none has 0: computed over the cases of the enum, however many there are. So a number tells its verdict.
use mathlib.Core.Path.{◌≡◌, refl, sym, ap, subst, ◌∙◌}
use mathlib.Core.Logic.{◌≢◌, inl, inr}
use mathlib.Core.Bool.{Bool, true, false, not, ◌&&◌}
use mathlib.Core.List.{List, [], ◌∷◌}
use Prim.Native.Nat.{ℕ}
use borrow.Author.Tests.{eqb-false, not-true}
use lib.Dec.{eqb}
use denote.Struct.Field.{Field}
use denote.Enum.Declared.{Choice}
use Rattle.words.proofs.Laws.{clash}
use Rattle.layout.specs.declared.refusal.Refusal.{Refusal}
use Rattle.std.specs.Prelude.{Result, Ok, Err}
use Rattle.layout.specs.Refusals.{accepted, answered, Verdict, fail, number_of, no_refusal, verdict_number, Outcome, leaves, accept_leaving, refuse_leaving}
use Rattle.layout.specs.contracts.refusal.Refusal.{the_parts as parts, as_values, the_make as make, the_eta as eta}

-- both of two tests hold
pub both : (s t : Bool) → s && t ≡ true → (s ≡ true) × (t ≡ true)
both true true e = (refl, refl)
both true false e = clash cc
both false t e = clash cc

-- ---- an enum whose cases hold nothing, with a number for each: no case has this one
abbrev fresh : (cases : List (List Field)) → (Choice cases → ℕ) → ℕ → Bool
fresh [] number n = true
fresh ([] ∷ rest) number n = not (eqb (number (inl tt)) n) && fresh rest (λ c. number (inr c)) n
fresh ((f ∷ fs) ∷ rest) number n = false

fresh-says : (cases : List (List Field)) (number : Choice cases → ℕ) (n : ℕ) → fresh cases number n ≡ true → (c : Choice cases) → number c ≢ n
fresh-says [] number n e c = absurd c
fresh-says ([] ∷ rest) number n e (inl v) = eqb-false (number (inl tt)) n (not-true _ (both _ _ e).0)
fresh-says ([] ∷ rest) number n e (inr c) = fresh-says rest (λ c. number (inr c)) n (both (not (eqb (number (inl tt)) n)) _ e).1 c
fresh-says ((f ∷ fs) ∷ rest) number n e c = clash cc

-- no two cases have the same
abbrev distinct : (cases : List (List Field)) → (Choice cases → ℕ) → Bool
distinct [] number = true
distinct ([] ∷ rest) number = fresh rest (λ c. number (inr c)) (number (inl tt)) && distinct rest (λ c. number (inr c))
distinct ((f ∷ fs) ∷ rest) number = false

distinct-says : (cases : List (List Field)) (number : Choice cases → ℕ) → distinct cases number ≡ true → (c d : Choice cases) → number c ≡ number d → c ≡ d
distinct-says [] number e c d same = absurd c
distinct-says ([] ∷ rest) number e (inl v) (inl w) same = refl
distinct-says ([] ∷ rest) number e (inl v) (inr d) same = absurd (fresh-says rest (λ c. number (inr c)) (number (inl tt)) (both _ _ e).0 d (sym same))
distinct-says ([] ∷ rest) number e (inr c) (inl w) same = absurd (fresh-says rest (λ c. number (inr c)) (number (inl tt)) (both _ _ e).0 c same)
distinct-says ([] ∷ rest) number e (inr c) (inr d) same =
    ap inr (distinct-says rest (λ c. number (inr c)) (both (fresh rest (λ c. number (inr c)) (number (inl tt))) _ e).1 c d same)
distinct-says ((f ∷ fs) ∷ rest) number e c d same = clash cc

-- ---- the refusals
abbrev numbered : Choice parts → ℕ
numbered c = number_of (make c)

pub number-some : (why : Refusal) → number_of why ≢ 0
number-some why = subst (λ (r : Refusal). number_of r ≢ 0) (eta why) (fresh-says parts numbered 0 refl (as_values why))

-- so what is accepted is not refused
pub outcome-clash : {P : Type 0} (after left : List ℕ) (why : Refusal) → accept_leaving after ≡ refuse_leaving left why → P
outcome-clash after left why e = let z : no_refusal ≡ number_of why = cc in absurd (number-some why (sym z))

pub number-one : (a b : Refusal) → number_of a ≡ number_of b → a ≡ b
number-one a b e =
    let same : numbered (as_values a) ≡ numbered (as_values b) = ap number_of (eta a) ∙ e ∙ sym (ap number_of (eta b)) in
    sym (eta a) ∙ ap make (distinct-says parts numbered refl (as_values a) (as_values b) same) ∙ eta b

-- ---- an answer by its number tells the case, where its value tells what it was read from
pub answered-tells : {A B : Type 0} (f : A → B) → ((a b : A) → accepted (f a) ≡ accepted (f b) → a ≡ b) → (r s : Result A Refusal) → answered f r ≡ answered f s → r ≡ s
answered-tells f one (Ok a) (Ok b) e = ap Ok (one a b e)
answered-tells f one (Ok a) (Err w) e = clash cc
answered-tells f one (Err v) (Ok b) e = clash cc
answered-tells f one (Err v) (Err w) e = let k : number_of v ≡ number_of w = cc in ap Err (number-one v w k)

-- ---- the verdicts
pub verdict-one : (v w : Verdict) → verdict_number v ≡ verdict_number w → v ≡ w
verdict-one (Ok _) (Ok _) e = refl
verdict-one (Ok _) (Err b) e = absurd (number-some b (sym e))
verdict-one (Err a) (Ok _) e = absurd (number-some a e)
verdict-one (Err a) (Err b) e = ap fail (number-one a b e)

pub outcome-one : (o : Outcome) (v w : Verdict) (a b : List ℕ) → leaves (verdict_number v) a ≡ o → leaves (verdict_number w) b ≡ o → (v ≡ w) × (a ≡ b)
outcome-one o v w a b p q =
    let n : verdict_number v ≡ verdict_number w = cc in
    (verdict-one v w n, cc)
