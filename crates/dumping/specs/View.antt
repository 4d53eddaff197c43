-- What functions that are not exported promise. Their contracts cite these; no promise does.
use Rattle.std.specs.Prelude.{ℕ, ◌≡◌, List, ◌++◌, length, Result}
use Rattle.layout.specs.declared.refusal.Refusal.{Refusal}
use Rattle.audit.specs.Check.{used_of, Judged, lists, listed_answer}
use Rattle.dumping.specs.Dump.{head_text, entry_lines, file_listing}

-- the dump of an area with these entries
abbrev pub listing_text : List ℕ → List ℕ → List ℕ
listing_text area offsets = head_text (length offsets) (used_of area) ++ entry_lines area offsets

-- listing, of an area that is no longer than area.bin may be
abbrev pub FileListSays : (area scratch list : List ℕ) → Result ℕ Refusal → List ℕ → List ℕ → Type 0
FileListSays area scratch list r left noted = (judged : Judged area) → lists (listed_answer r) left noted ≡ file_listing area scratch list judged
