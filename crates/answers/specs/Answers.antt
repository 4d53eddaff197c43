-- What the programs print (RULES 8.3 to 8.5): what both say, and the lookup's answer to a name.
use Rattle.std.specs.Prelude.{ℕ, ◌+◌, ◌*◌, Bool, ◌&&◌, List, [], ◌∷◌, ◌++◌, length, leb}
use Rattle.layout.specs.declared.refusal.Refusal.{Refusal}
use Rattle.layout.specs.Refusals.{Answer, accepted, refused, refuse, on_accepted, guard}
use Rattle.trie.specs.Header.{header_ok}
use Rattle.property_area.specs.Value.{Part, part_bytes}
use Rattle.property_area.specs.Lookup.{lookup_steps}
use Rattle.texts.specs.Text.{escaped, decimal, line_feed}

-- area.bin longer than 65,536 bytes is 8, a name over 65,536 bytes is 6
abbrev pub file_max : ℕ
file_max = 65536

abbrev pub name_max : ℕ
name_max = 65536

-- no answer and no dump is longer (`answer-small`, `dump-small`)
abbrev pub text_max : ℕ
text_max = 4 * file_max + 64

-- the texts: "refused " and the line feed that ends every line
abbrev pub ending : List ℕ
ending = line_feed ∷ []

abbrev pub refused_word : List ℕ
refused_word = 114 ∷ 101 ∷ 102 ∷ 117 ∷ 115 ∷ 101 ∷ 100 ∷ 32 ∷ []

-- ---- "refused" and the number
abbrev pub refused_text : ℕ → List ℕ
refused_text number = refused_word ++ decimal number ++ ending

-- ---- the lookup's answer to a name: 8, then 6, then what find and value say
abbrev pub file_ok : List ℕ → Bool
file_ok area = leb (length area) file_max && header_ok area

unfoldable pub ask_steps : List ℕ → List ℕ → Answer Part
ask_steps area name = guard (file_ok area) (refuse Refusal.BadHeader) (guard (leb (length name) name_max) (refuse Refusal.TooLong) (lookup_steps area name))

-- the value, escaped, alone on its line; or "refused" and the number
abbrev pub answer_line : Answer (List ℕ) → List ℕ
answer_line (accepted value) = escaped value ++ ending
answer_line (refused number) = refused_text number

unfoldable pub answer_text : List ℕ → List ℕ → List ℕ
answer_text area name = answer_line (on_accepted (part_bytes area) (ask_steps area name))
