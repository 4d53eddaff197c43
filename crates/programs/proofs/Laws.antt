-- The programs' buffers begin as zeros: what holds of a number holds of the length of so many. What is owed, said in two parts.
-- What counts of a file, by the read behind its bytes.
use Prim.Native.Nat.{ℕ, zero, suc}
use mathlib.Core.Path.{◌≡◌, refl, sym, ◌∙◌, subst}
use mathlib.Core.List.{List, ◌++◌, append_assoc}
use native.Mathlib.Omega.{arith}
use lib.ListN.{length, replicate, length-replicate}
use lib.IntN.{ℤ, pos, negsuc}
use mir.Syntax.{w64}
use mir.Val.{SFits, of_z}
use Rattle.io.specs.Counts.{IsPrefixLen}
use Rattle.programs.specs.Reading.{readable_size}

pub lends : (P : ℕ → Type 0) (size : ℕ) → P size → P (length {A = ℕ} (replicate size 0))
lends P size h = subst P (sym (length-replicate {A = ℕ} size 0)) h

pub owes-on : (before mid after : List ℕ → List ℕ) (text more : List ℕ) → ((later : List ℕ) → before later ≡ text ++ mid later)
    → ((later : List ℕ) → mid later ≡ more ++ after later) → (later : List ℕ) → before later ≡ text ++ more ++ after later
owes-on before mid after text more e f later = e later ∙ rw (f later) (sym (append_assoc text more (after later)))

pub readable-all : (size : ℕ) (behind : ℤ) → SFits w64 behind → of_z w64 behind ≡ 0 → size ≡ readable_size size behind
unfolding readable_size
readable-all size (pos n) fits e = rw e
readable-all size (negsuc n) fits e = absurd (omega (arith, fits.sfits))

pub readable-none : (size : ℕ) (behind : ℤ) → (of_z w64 behind ≡ 0 → ⊥) → 0 ≡ readable_size size behind
unfolding readable_size
readable-none size (pos zero) some = absurd (some refl)
readable-none size (pos (suc k)) some = refl
readable-none size (negsuc k) some = refl

pub readable-counts : (size : ℕ) (behind : ℤ) (bytes : List ℕ) → IsPrefixLen size bytes → IsPrefixLen (readable_size size behind) bytes
unfolding readable_size
readable-counts size (pos zero) bytes counts = counts
readable-counts size (pos (suc k)) bytes counts = (omega arith, refl)
readable-counts size (negsuc k) bytes counts = (omega arith, refl)
