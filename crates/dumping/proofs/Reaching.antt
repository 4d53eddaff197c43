-- Place and length after a dump: the next place lies within the output, whose length does not change.
use Prim.Native.Nat.{ℕ}
use mathlib.Core.Path.{◌≡◌}
use mathlib.Core.List.{List}
use Rattle.texts.specs.Text.{saying, said}
use Rattle.texts.proofs.Laws.{said-within}
use Rattle.audit.specs.Check.{Listing, lists}
use Rattle.audit.proofs.Promises.{every-judged}
use Rattle.answers.proofs.Reaching.{Fits}
use Rattle.dumping.specs.Dump.{dumps, dump_text, dump_listing, file_listing, DumpSays}

pub dump-within : (area scratch list out : List ℕ) (next : ℕ) (after left noted : List ℕ)
    → DumpSays area scratch list out next after left noted → Fits out after next
dump-within area scratch list out next after left noted e = by (file_listing area scratch list (every-judged area)) (e (every-judged area))
  where
    by : (l : Listing) → dumps (saying next after) left noted ≡ dump_listing area out l → Fits out after next
    by (lists answer s n) q =
        let p : saying next after ≡ said out 0 (dump_text area answer n) = cc in
        let w = said-within out 0 (dump_text area answer n) next after p in
        record { place = w.0; size = w.1 }
