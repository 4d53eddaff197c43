-- Laws that the papers name and that no proof here needs any more.
use mathlib.Core.Path.{◌≡◌, refl, ap, ◌∙◌}
use mathlib.Core.Bool.{true, false}
use mathlib.Core.List.{List}
use Prim.Native.Nat.{ℕ}
use Rattle.words.proofs.Laws.{clash}
use Rattle.names.specs.Names.{segments}
use Rattle.layout.specs.declared.refusal.Refusal.{Refusal}
use Rattle.std.specs.Prelude.{Result, Ok, Err}
use Rattle.layout.specs.Layout.{root_at}
use Rattle.layout.specs.Refusals.{leaves, no_refusal, number_of, pass, refuse_leaving}
use Rattle.trie.specs.Header.{header_ok}
use Rattle.allocation.specs.Steps.{Step, goes, stops, stop_by, and_then, outcome}
use Rattle.allocation.specs.View.{seen, placed_step}
use Rattle.allocation.proofs.Named.{placed_on, outcome-seen}
use Rattle.nodes.specs.Nodes.{add_path}
use Rattle.entries.specs.Entries.{add_entry}
use Rattle.builder.specs.Add.{name_verdict, add_steps}

-- a step that stops is the outcome, whatever would follow it
stops-there : (s : Step) (on : ℕ → List ℕ → Step) (why : Refusal) (area : List ℕ) → stop_by area why ≡ seen s → refuse_leaving area why ≡ outcome (and_then s on)
unfolding seen
stops-there (goes at given rooms) on why area e = clash cc
stops-there (stops number given rooms) on why area e = ap outcome e

-- what a step's answer says by its number
abbrev placed_number : Result ℕ Refusal → ℕ
placed_number (Ok at) = no_refusal
placed_number (Err why) = number_of why

told : (s : Result ℕ Refusal) (last : List ℕ) → leaves (placed_number s) last ≡ outcome (placed_step s last)
told (Ok at) last = refl
told (Err why) last = refl

-- ---- add
module _ (area name value : List ℕ) where
  pub add-header : header_ok area ≡ false → leaves (number_of Refusal.BadHeader) area ≡ outcome (add_steps area name value)
  unfolding add_steps
  add-header h = rw h

  module _ (h : header_ok area ≡ true) (v : name_verdict name ≡ pass) (r : Result ℕ Refusal) (after : List ℕ) (g : placed_step r after ≡ seen (add_path area (segments name) root_at)) where
    walks : outcome (and_then (add_path area (segments name) root_at) (λ node after. add_entry after name value node)) ≡ outcome (add_steps area name value)
    unfolding add_steps
    walks = rw (h, v)

    pub add-stop : (why : Refusal) → r ≡ Err why → refuse_leaving after why ≡ outcome (add_steps area name value)
    add-stop why k = stops-there (add_path area (segments name) root_at) (λ node after. add_entry after name value node) why after (rw k at g) ∙ walks

    pub add_done : (node : ℕ) → r ≡ Ok node → (s : Result ℕ Refusal) (last : List ℕ) → placed_step s last ≡ seen (add_entry after name value node)
        → leaves (placed_number s) last ≡ outcome (add_steps area name value)
    add_done node k s last l =
        told s last
        ∙ ap outcome (l ∙ placed_on (add_path area (segments name) root_at) r after g (λ node after. add_entry after name value node) node k)
        ∙ outcome-seen (and_then (add_path area (segments name) root_at) (λ node after. add_entry after name value node))
        ∙ walks
