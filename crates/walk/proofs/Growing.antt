-- Marks only grow: a mark that is not zero never changes. So numbers that are kept in marks stay, and with them the dotted prefix that owners spell.
use Prim.Native.Nat.{ℕ, suc, ◌+◌, ◌*◌, ◌≤◌}
use native.Mathlib.Omega.{arith}
use mathlib.Core.Path.{◌≡◌, refl, sym, ◌∙◌}
use mathlib.Core.Logic.{◌≢◌}
use mathlib.Core.List.{List, [], ◌∷◌, ◌++◌}
use lib.ListN.{length, get_or}
use Rattle.names.specs.Names.{dot}
use Rattle.sound.specs.Ways.{Dir}
use Rattle.walk.specs.Marks.{read}
use Rattle.walk.specs.Model.{name_at, dir_number}

pub record Grew (marks after : List ℕ) : Type 0 where
  pub long : length after ≡ length marks
  pub kept : (w : ℕ) → get_or marks w 0 ≢ 0 → get_or after w 0 ≡ get_or marks w 0

pub grew_refl : (marks : List ℕ) → Grew marks marks
grew_refl marks = record { long = refl; kept = λ w h. refl }

pub grew_trans : (a b c : List ℕ) → Grew a b → Grew b c → Grew a c
grew_trans a b c f g = record { long = g.long ∙ f.long; kept = λ w h. g.kept w (λ e. h (sym (f.kept w h) ∙ e)) ∙ f.kept w h }

-- three marks keep a number
pub record Keeps (marks : List ℕ) (n x : ℕ) : Type 0 where
  pub one : get_or marks n 0 ≢ 0
  pub two : get_or marks (n + 1) 0 ≢ 0
  pub three : get_or marks (n + 2) 0 ≢ 0
  pub reads : read marks n ≡ x

pub read-agree : (a b : List ℕ) (n : ℕ) → get_or a n 0 ≡ get_or b n 0 → get_or a (n + 1) 0 ≡ get_or b (n + 1) 0 → get_or a (n + 2) 0 ≡ get_or b (n + 2) 0 → read a n ≡ read b n
unfolding read
read-agree a b n e f g = omega (arith, e, f, g)

pub keeps-grew : (a b : List ℕ) (n x : ℕ) → Grew a b → Keeps a n x → Keeps b n x
keeps-grew a b n x g k = record {
  one = λ z. k.one (sym (g.kept n k.one) ∙ z);
  two = λ z. k.two (sym (g.kept (n + 1) k.two) ∙ z);
  three = λ z. k.three (sym (g.kept (n + 2) k.three) ∙ z);
  reads = read-agree b a n (g.kept n k.one) (g.kept (n + 1) k.two) (g.kept (n + 2) k.three) ∙ k.reads;
}

-- a node's number fits into its record, also tripled: an area has at most 16 MiB
abbrev pub number_max : ℕ
number_max = 4194304

-- node n came from node p in a direction; its owner is node o
abbrev pub Came : List ℕ → ℕ → ℕ → Dir → Type 0
Came marks n p dir = Keeps marks n (p * 3 + dir_number dir)

pub record Owned (marks : List ℕ) (n o : ℕ) : Type 0 where
  pub keeps : Keeps marks (n + 3) o
  pub small : o ≤ number_max

pub owned-grew : (a b : List ℕ) (n o : ℕ) → Grew a b → Owned a n o → Owned b n o
owned-grew a b n o g w = record { keeps = keeps-grew a b (n + 3) o g w.keeps; small = w.small }

-- what stands before the names in the tree of siblings whose owner is node o
pub data Prefix (area marks : List ℕ) : ℕ → List ℕ → Type 0 where
  top : Prefix area marks 0 []
  more : (n o : ℕ) (prefix : List ℕ) → Owned marks (suc n) o → Prefix area marks o prefix → Prefix area marks (suc n) (prefix ++ name_at area (suc n) ++ dot ∷ [])

pub prefix-grew : (area a b : List ℕ) (o : ℕ) (prefix : List ℕ) → Grew a b → Prefix area a o prefix → Prefix area b o prefix
prefix-grew area a b o prefix g top = top
prefix-grew area a b o prefix g (more n p before w rest) = more n p before (owned-grew a b (suc n) p g w) (prefix-grew area a b p before g rest)
