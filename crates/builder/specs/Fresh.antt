-- Formatting (RULES 5.1): it zeroes the whole buffer and sets used to 112, magic and version; length outside 240 to 131,072: 8.
use Rattle.std.specs.Prelude.{ℕ, ◌&&◌, List, [], ◌∷◌, length, replicate, leb}
use Rattle.words.specs.Stores.{store, word_store, run}
use Rattle.layout.specs.declared.refusal.Refusal.{Refusal}
use Rattle.layout.specs.Refusals.{guard, Outcome, accept_leaving, refuse_leaving}
use Rattle.layout.specs.Layout.{format_min, area_max, used_field, magic_field, version_field, magic, version, first_free}

unfoldable pub fresh : ℕ → List ℕ
fresh n = run (replicate n 0) (word_store used_field first_free ∷ store magic_field magic ∷ word_store version_field version ∷ [])

unfoldable pub format_steps : List ℕ → Outcome
format_steps area =
    guard (leb format_min (length area) && leb (length area) area_max) (refuse_leaving area Refusal.BadHeader) (accept_leaving (fresh (length area)))
