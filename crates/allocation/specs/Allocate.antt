-- Allocate (RULES 3.8).
use Rattle.std.specs.Prelude.{ℕ, ◌+◌, cond, List, [], ◌∷◌, ltb}
use Rattle.words.specs.Stores.{run, word_store}
use Rattle.layout.specs.declared.refusal.Refusal.{Refusal}
use Rattle.layout.specs.Layout.{word_max, used_field, data_size, header_word}
use Rattle.allocation.specs.Steps.{Step, goes, stop_by}

-- of a padded size. It, or used plus it, above 4,294,967,295: 9 (the sum is no less); sum above data size: 4; otherwise used moves and the object has
-- been given room
unfoldable pub allocate : List ℕ → ℕ → Step
allocate area room =
    let used = header_word area used_field in
    cond (ltb word_max (used + room)) (stop_by area Refusal.TooLarge)
    (cond (ltb (data_size area) (used + room)) (stop_by area Refusal.NoRoom)
    (goes used (run area (word_store used_field (used + room) ∷ [])) (room ∷ [])))
