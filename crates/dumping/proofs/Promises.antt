-- What the dump promises: no second outcome, scratch and list with it; and that a refusal keeps the caller's room. That it tells the area's tree is the crate printed's.
use Prim.Native.Nat.{ℕ}
use mathlib.Core.Path.{◌≡◌, sym, ◌∙◌}
use mathlib.Core.List.{List}
use lib.Dec.{leb}
use lib.ListN.{length}
use Rattle.words.proofs.Laws.{bool_cases, clash}
use Rattle.layout.specs.declared.refusal.Refusal.{Refusal}
use Rattle.layout.specs.Refusals.{accepted, refused, refuse}
use Rattle.layout.proofs.Numbers.{answered-tells}
use Rattle.audit.specs.Check.{Listing, lists, list_steps}
use Rattle.audit.proofs.Promises.{every-judged}
use Rattle.texts.specs.Text.{saying}
use Rattle.std.specs.Prelude.{Result, Err}
use Rattle.dumping.specs.Dump.{dump_text, dumps, DumpSays, fills, fill_listing, text_answer, FillSays}

-- ---- no second outcome of a dump, whichever way the area is judged
pub one-dump : (area scratch list out : List ℕ) (r s : ℕ) (a b c d f g : List ℕ) → DumpSays area scratch list out r a c f
    → DumpSays area scratch list out s b d g → (r ≡ s) × (a ≡ b) × (c ≡ d) × (f ≡ g)
one-dump area scratch list out r s a b c d f g p q =
    let e : dumps (saying r a) c f ≡ dumps (saying s b) d g = p (every-judged area) ∙ sym (q (every-judged area)) in
    ((cc), (cc), (cc), (cc))

-- ---- nor of a dump in the caller's room
one-text : (r s : Result ℕ Refusal) → text_answer r ≡ text_answer s → r ≡ s
one-text = answered-tells (λ (size : ℕ). size) (λ n k e. cc)

pub one-fill : (area scratch list room : List ℕ) (r s : Result ℕ Refusal) (a b c d f g : List ℕ) → FillSays area scratch list room r a c f
    → FillSays area scratch list room s b d g → (r ≡ s) × (a ≡ b) × (c ≡ d) × (f ≡ g)
one-fill area scratch list room r s a b c d f g p q =
    let e : fills (text_answer r) a c f ≡ fills (text_answer s) b d g = p (every-judged area) ∙ sym (q (every-judged area)) in
    (one-text r s (cc), (cc), (cc), (cc))

-- ---- a refusal keeps every byte of the room
pub fill-keeps : (area scratch list room : List ℕ) (why : Refusal) (after left noted : List ℕ)
    → FillSays area scratch list room (Err why) after left noted → after ≡ room
fill-keeps area scratch list room why after left noted e = by (list_steps area scratch list (every-judged area)) (e (every-judged area))
  where
    by : (l : Listing) → fills (refuse why) after left noted ≡ fill_listing area room l → after ≡ room
    by (lists (refused number) s n) q = cc
    by (lists (accepted count) s n) q =
        bool_cases (leb (length (dump_text area (accepted count) n)) (length room))
        (λ t. let k : fills (refuse why) after left noted ≡ fills (accepted _) _ s n = rw t at q in clash cc)
        (λ t. let k : fills (refuse why) after left noted ≡ fills (refuse Refusal.ShortBuffer) room s n = rw t at q in cc)
