-- Numbers of refusal (RULES 9), and what a call answers with.
use Rattle.std.specs.Prelude.{ℕ, Bool, cond, List, Result, Ok, Err, ⊤}
use Rattle.layout.specs.declared.refusal.Refusal.{Refusal}

abbrev pub number_of : Refusal → ℕ
number_of Refusal.ZeroByte = 1
number_of Refusal.EmptySegment = 2
number_of Refusal.Missing = 3
number_of Refusal.NoRoom = 4
number_of Refusal.Damaged = 5
number_of Refusal.TooLong = 6
number_of Refusal.LongEntry = 7
number_of Refusal.BadHeader = 8
number_of Refusal.TooLarge = 9
number_of Refusal.ShortBuffer = 10

-- a refusal returns its number only
pub data Answer (A : Type 0) : Type 0 where
  accepted : A → Answer A
  refused : ℕ → Answer A

abbrev pub refuse : {A : Type 0} → Refusal → Answer A
refuse why = refused (number_of why)

-- what a call's result says: the value as it is to be read, or the refusal
abbrev pub answered : {A B : Type 0} → (A → B) → Result A Refusal → Answer B
answered f (Ok a) = accepted (f a)
answered f (Err why) = refuse why

-- what was accepted, made into something else; a refusal stays
abbrev pub on_accepted : {A B : Type 0} → (A → B) → Answer A → Answer B
on_accepted f (accepted a) = accepted (f a)
on_accepted f (refused number) = refused number

-- a test and its refusal, then what follows: `guard` where the test says what must hold, `cond` where it says what is refused
abbrev pub guard : {A : Type 0} → Bool → A → A → A
guard holds refusing on = cond holds on refusing

-- a call that has no other result gives a verdict; as a number alone, 0 for accepted
abbrev pub Verdict : Type 0
Verdict = Result ⊤ Refusal

abbrev pub pass : Verdict
pass = Ok tt

abbrev pub fail : Refusal → Verdict
fail why = Err why

abbrev pub no_refusal : ℕ
no_refusal = 0

abbrev pub verdict_number : Verdict → ℕ
verdict_number (Ok done) = no_refusal
verdict_number (Err why) = number_of why

-- that number, and the lent bytes afterwards
pub data Outcome : Type 0 where
  leaves : (number : ℕ) (bytes : List ℕ) → Outcome

abbrev pub number_in : Outcome → ℕ
number_in (leaves number bytes) = number

abbrev pub bytes_in : Outcome → List ℕ
bytes_in (leaves number bytes) = bytes

abbrev pub accept_leaving : List ℕ → Outcome
accept_leaving bytes = leaves no_refusal bytes

abbrev pub refuse_leaving : List ℕ → Refusal → Outcome
refuse_leaving bytes why = leaves (number_of why) bytes

-- a test that a call makes: it goes on, or refuses
abbrev pub by_verdict : {A : Type 0} → Verdict → (Refusal → A) → A → A
by_verdict (Ok done) refusing on = on
by_verdict (Err why) refusing on = refusing why
