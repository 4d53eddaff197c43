-- Laws of specs/Value.antt: what is read of an entry that can be touched, and where a value and a name stand.
use Rattle.std.proofs.Common.{◌≡◌, ℕ, ◌≤◌, true, List, length, sym, refl, ◌∙◌}
use Rattle.words.proofs.Laws.{bool_cases, clash}
use Rattle.layout.specs.declared.refusal.Refusal.{Refusal}
use Rattle.std.specs.Prelude.{Option, Some, None, Result, Ok, Err, IfOk}
use Rattle.layout.specs.declared.text.Span.{Span}
use Rattle.layout.specs.Layout.{area_max, entry_size, entry_ok, span_at}
use Rattle.layout.specs.Refusals.{Answer, accepted, refuse}
use Rattle.layout.proofs.Laws.{touch-in}
use Rattle.property_info.specs.Entry.{name_of, value_of}
use Rattle.property_info.proofs.Lies.{Lies}
use Rattle.property_info.proofs.Promises.{value-lies, name-lies}
use Rattle.trie.proofs.HeaderLaws.{header-max}
use Rattle.trie.specs.Header.{header_ok}
use Rattle.property_area.specs.Value.{Part, bytes, part_answer, by_span, touch_steps, part_steps, LiesIn}

-- ---- of whatever is read
pub touch-read : {A : Type 0} (area : List ℕ) (offset : ℕ) (read : Answer A) → header_ok area ≡ true → entry_ok area offset ≡ true → (a : Answer A) → a ≡ read → a ≡ touch_steps area offset read
unfolding touch_steps
touch-read area offset read h t a e = rw (h, t, e)

-- ---- of a text: s is the span that was found
pub part_bytes : (area : List ℕ) (offset : ℕ) (span : Option Span) → header_ok area ≡ true → entry_ok area offset ≡ true → (s : Option Span) → s ≡ span
    → (from to : ℕ) → s ≡ span_at from to → accepted (bytes from to) ≡ part_steps area offset span
part_bytes area offset span h t s e from to f = touch-read area offset (by_span span) h t (accepted (bytes from to)) (rw (← e, f))

-- a result that tells a part
abbrev pub part_at : ℕ → ℕ → Result Span Refusal
part_at from to = Ok (record { from = from; to = to })

-- ---- a text that is shown is a part of an area that is not too long
pub record PartIn (area : List ℕ) (from to : ℕ) : Type 0 where
  pub low : from ≤ to
  pub high : to ≤ length area
  pub small : length area ≤ area_max

-- where an entry can be touched, such a span of it lies in the area
abbrev pub Stands : List ℕ → ℕ → Option Span → Type 0
Stands area offset span = entry_ok area offset ≡ true → (from to : ℕ) → span ≡ span_at from to → Lies area from to

pub value-stands : (area : List ℕ) (offset : ℕ) → Stands area offset (value_of area offset)
value-stands area offset t from to = value-lies area offset from to (touch-in area entry_size offset t)

pub name-stands : (area : List ℕ) (offset : ℕ) → Stands area offset (name_of area offset)
name-stands area offset t from to = name-lies area offset from to

-- what holds of every refusal, and of what is read where the entry can be touched, holds of the answer
pub touch-every : {A : Type 0} (area : List ℕ) (offset : ℕ) (read : Answer A) (P : Answer A → Type 0) → ((why : Refusal) → P (refuse why))
    → (header_ok area ≡ true → entry_ok area offset ≡ true → P read) → P (touch_steps area offset read)
unfolding touch_steps
touch-every area offset read P refuses shows =
    bool_cases (header_ok area)
    (λ h. bool_cases (entry_ok area offset) (λ t. rw (h, t) (shows h t)) (λ t. rw (h, t) (refuses Refusal.Damaged)))
    (λ h. rw h (refuses Refusal.BadHeader))

module _ (area : List ℕ) (offset : ℕ) (span : Option Span) (stands : Stands area offset span) where
  pub part-every : (P : Answer Part → Type 0) → ((why : Refusal) → P (refuse why)) → ((from to : ℕ) → PartIn area from to → P (accepted (bytes from to))) → P (part_steps area offset span)
  part-every P refuses shows = touch-every area offset (by_span span) P refuses (λ h t. by h (stands t) span refl)
    where
      by : header_ok area ≡ true → ((from to : ℕ) → span ≡ span_at from to → Lies area from to) → (s : Option Span) → span ≡ s → P (by_span s)
      by h lies (Some text) e = let l = lies text.from text.to e in shows text.from text.to (record { low = l.low; high = l.high; small = header-max area h })
      by h lies None e = refuses Refusal.Damaged

  pub accepted-in : (from to : ℕ) → part_steps area offset span ≡ accepted (bytes from to) → PartIn area from to
  accepted-in from to e =
      part-every (λ (a : Answer Part). a ≡ accepted (bytes from to) → PartIn area from to) (λ why k. clash cc)
      (λ start end l k. let p : start ≡ from = cc in let q : end ≡ to = cc in rw (p, q) at l)
      e

  -- for a caller that has the answer in hand
  pub part_in : (s : Result Span Refusal) → part_answer s ≡ part_steps area offset span → (from to : ℕ) → s ≡ part_at from to → PartIn area from to
  part_in s e from to f = accepted-in from to (sym e ∙ rw f)

  -- so that part may be taken out of the area
  pub part_lies : (s : Result Span Refusal) → part_answer s ≡ part_steps area offset span → IfOk s (LiesIn area)
  part_lies (Ok text) e = let p = part_in (Ok text) e text.from text.to refl in (p.low, p.high)
  part_lies (Err why) e = tt
