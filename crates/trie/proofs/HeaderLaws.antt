-- What a header that passes says of the length, and the magic byte by byte.
use mathlib.Core.Path.{◌≡◌, sym}
use mathlib.Core.Bool.{Bool, true, false, not}
use mathlib.Core.List.{List, [], ◌∷◌}
use Prim.Native.Nat.{ℕ, ◌+◌, ◌≤◌, ◌<◌}
use native.Mathlib.Numerals.{add-one}
use native.Mathlib.Omega.{arith}
use borrow.Author.Tests.{leb-true, le-leb}
use lib.ListN.{length, get_or, drop}
use lib.Seq.{drop-cons}
use lib.Dec.{eqb, leb}
use Rattle.std.specs.Prelude.{cond, nat_eq}
use Rattle.std.specs.Cmp.Lexicographic.{pointwise}
use Rattle.words.specs.Words.{part, same_bytes}
use Rattle.words.proofs.Laws.{bool_cases, clash, same_pointwise}
use Rattle.layout.specs.Layout.{area_min, area_max, magic_field, magic_size, magic, version_field, version, header_word}
use Rattle.trie.specs.Header.{header_ok}

-- ---- an area that passes is not too short, and not too long
pub header-min : (area : List ℕ) → header_ok area ≡ true → area_min ≤ length area
unfolding header_ok
header-min area h =
    bool_cases (leb area_min (length area))
    (λ e. leb-true area_min (length area) e)
    (λ e. let k : ◌≡◌ {A = Bool} false true = rw e at h in clash cc)

pub header-max : (area : List ℕ) → header_ok area ≡ true → length area ≤ area_max
unfolding header_ok
header-max area h =
    bool_cases (leb area_min (length area))
    (λ e. bool_cases (leb (length area) area_max)
    (λ f. leb-true (length area) area_max f)
    (λ f. let k : ◌≡◌ {A = Bool} false true = rw (e, f) at h in clash cc))
    (λ e. let k : ◌≡◌ {A = Bool} false true = rw e at h in clash cc)

-- ---- the magic, as it is compared: byte by byte
abbrev pub magic_read : List ℕ → List ℕ
magic_read area = get_or area magic_field 0 ∷ get_or area (magic_field + 1) 0 ∷ get_or area (magic_field + 2) 0 ∷ get_or area (magic_field + 3) 0 ∷ []

magic-told : (area : List ℕ) → area_min ≤ length area → same_bytes (part area magic_field (magic_field + magic_size)) magic ≡ pointwise nat_eq (magic_read area) magic
magic-told area h =
    let cons : (i : ℕ) → i < magic_size → drop (magic_field + i) area ≡ get_or area (magic_field + i) 0 ∷ drop (magic_field + i + 1) area =
    λ i f. rw add-one (drop-cons area (magic_field + i) 0 (omega (arith, h, f))) in
    let cut : part area magic_field (magic_field + magic_size) ≡ magic_read area =
    rw (cons 0 (omega arith), cons 1 (omega arith), cons 2 (omega arith), cons 3 (omega arith)) in
    rw cut (sym (same_pointwise (magic_read area) magic))

-- other is whether the code found another magic
pub header-told : (area : List ℕ) → area_min ≤ length area → length area ≤ area_max → (other : Bool) → other ≡ not (pointwise nat_eq (magic_read area) magic)
    → cond other false (eqb (header_word area version_field) version) ≡ header_ok area
unfolding header_ok
header-told area low high other e =
    bool_cases (pointwise nat_eq (magic_read area) magic)
    (λ t. rw (e, le-leb area_min (length area) low, le-leb (length area) area_max high, magic-told area low, t))
    (λ f. rw (e, le-leb area_min (length area) low, le-leb (length area) area_max high, magic-told area low, f))
