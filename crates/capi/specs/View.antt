-- What functions that are not exported ask. Their contracts cite these; no promise does.
use Rattle.std.specs.Prelude.{ℕ, ◌≤◌, Result, IfOk}
use Rattle.layout.specs.declared.refusal.Refusal.{Refusal}
use Rattle.layout.specs.declared.text.Span.{Span}
use Rattle.layout.specs.Layout.{word_max}

-- a part ends no earlier than it begins, at a place of 32 bits
abbrev pub PartFits : Result Span Refusal → Type 0
PartFits place = IfOk place (λ (span : Span). (span.from ≤ span.to) × (span.from ≤ word_max))

-- a count of 32 bits
abbrev pub CountFits : Result ℕ Refusal → Type 0
CountFits counted = IfOk counted (λ (count : ℕ). count ≤ word_max)
