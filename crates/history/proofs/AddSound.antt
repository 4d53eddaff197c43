-- An add over a sound area: it is refused for its name or for want of room, or accepted; the area is sound again, and only the entry of its own name can be new.
use Prim.Native.Nat.{ℕ, ◌+◌, ◌-◌, ◌≤◌, ◌<◌}
use native.Mathlib.Omega.{arith}
use native.Mathlib.Decide.{dec_lt}
use mathlib.Core.Path.{◌≡◌, refl, sym, ap, ◌∙◌}
use mathlib.Core.Logic.{◌≢◌}
use mathlib.Core.List.{List, [], ◌∷◌, ◌++◌, append-nil}
use lib.ListN.{length, length-append}
use Rattle.names.specs.Names.{segments}
use Rattle.layout.specs.declared.refusal.Refusal.{Refusal}
use Rattle.std.specs.Prelude.{Ok, Err}
use Rattle.layout.specs.Refusals.{Verdict, pass, fail}
use Rattle.layout.specs.Layout.{slot_size, data_size, root_at, entry_takes}
use Rattle.builder.proofs.Used.{total-append}
use Rattle.allocation.specs.Steps.{Step, goes, stops, stop_by, and_then, with_rooms, total}
use Rattle.nodes.specs.Nodes.{add_path}
use Rattle.entries.specs.Entries.{add_entry}
use Rattle.builder.specs.Add.{name_verdict, add_steps}
use Rattle.sound.specs.Tree.{Value, Entry, bare, entry, Tree, node}
use Rattle.sound.specs.Sound.{Sound}
use Rattle.sound.specs.Ways.{reached}
use Rattle.growth.specs.Plug.{plug}
use Rattle.growth.proofs.Rules.{prefix_at}
use Rattle.finding.proofs.Spelling.{one_name}
use Rattle.history.specs.Lack.{seek, entry_of, missing, entry_rooms, entry_needs, own_lacks, lacks}
use Rattle.history.specs.Stays.{Stays}
use Rattle.history.proofs.Rooms.{full_number}
use Rattle.history.proofs.Leading.{names-spelled, finds-own, finds-new, finds-others}
use Rattle.history.proofs.Stood.{at_root, above}
use Rattle.history.proofs.Hung.{hung-seek, hung-keeps}
use Rattle.history.proofs.Missing.{missing-stood, missing-bare}
use Rattle.history.proofs.AddPath.{Went, Halted, path-goes, path-halts, NodeThere, stood-node}
use Rattle.history.proofs.EntryAdded.{EntryAdded, kept, added, no_entry, no_value, needs-least, needs-short, Laid}
use Rattle.history.proofs.AddEntry.{add-entry}
use Rattle.history.proofs.Naming.{all_named, segments-some}

-- every name leads to the entry that it led to
abbrev pub Alike : Tree → Tree → Type 0
Alike tree now = (segs : List (List ℕ)) (own : Entry) → seek segs own now ≡ seek segs own tree

pub data AddDone (area : List ℕ) (used : ℕ) (tree : Tree) (name value : List ℕ) (step : Step) : Type 0 where
  -- the name is no name: nothing changed
  bad_name : (why : Refusal) → name_verdict name ≡ fail why → step ≡ stop_by area why → AddDone area used tree name value step
  -- there is not room for all that is lacking
  no_room : (wanted : ℕ) (b rooms : List ℕ) (grown : ℕ) (now : Tree) → name_verdict name ≡ pass → data_size area < wanted → wanted ≤ used + lacks tree name value
      → step ≡ stops (full_number wanted) b rooms → Sound b grown now → Alike tree now → Stays area used tree name value rooms now
      → AddDone area used tree name value step
  -- it has an entry already
  stays : (at : ℕ) (b rooms : List ℕ) (grown : ℕ) (now : Tree) (serial : ℕ) (v : Value) → name_verdict name ≡ pass → used + lacks tree name value ≤ data_size area
      → step ≡ goes at b rooms → total rooms ≡ lacks tree name value → entry_of tree name ≡ entry at serial name v → Sound b grown now → Alike tree now → AddDone area used tree name value step
  -- it has one now, just laid: it shows the value
  adds : (at : ℕ) (b rooms : List ℕ) (grown : ℕ) (now : Tree) (serial : ℕ) (v : Value) → name_verdict name ≡ pass → used + lacks tree name value ≤ data_size area
      → step ≡ goes at b rooms → total rooms ≡ lacks tree name value → entry_of tree name ≡ bare → Sound b grown now → entry_of now name ≡ entry at serial name v → Laid at name value serial v
      → ((other : List ℕ) → other ≢ name → entry_of now other ≡ entry_of tree other) → AddDone area used tree name value step

lacks-bare : (tree : Tree) (name value : List ℕ) → entry_of tree name ≡ bare → lacks tree name value ≡ missing (segments name) tree + entry_needs name value
unfolding own_lacks
lacks-bare tree name value e = rw e refl

lacks-some : (tree : Tree) (name value : List ℕ) (at serial : ℕ) (full : List ℕ) (v : Value) → entry_of tree name ≡ entry at serial full v → lacks tree name value ≡ missing (segments name) tree + 0
unfolding own_lacks
lacks-some tree name value at serial full v e = rw e refl

module _ (area : List ℕ) (used : ℕ) (tree : Tree) (sound : Sound area used tree) (name value : List ℕ) where
  module _ (named : name_verdict name ≡ pass) where
    steps : Step
    steps = and_then (add_path area (segments name) root_at) (λ at after. add_entry after name value at)

    steps-are : steps ≡ add_steps area name value
    unfolding steps add_steps
    steps-are = rw (sound.front.header, named) refl

    -- the walk did not come to its end
    halted : Halted area used tree [] root_at (segments name) → data_size area < used + missing (segments name) tree → AddDone area used tree name value (add_steps area name value)
    unfolding steps reached above
    halted H full =
        no_room (used + total H.rooms + H.wanted) H.after H.rooms (used + total H.rooms) H.now named H.full (omega (arith, H.within))
        (sym steps-are ∙ ap (λ (s : Step). and_then s (λ at after. add_entry after name value at)) H.is ∙ ap (λ (k : ℕ). stops k H.after H.rooms) H.why)
        H.sound same (record {
          kept = hung-keeps tree H.now H.hung;
          entries = λ other. same (segments other) bare;
          unlinked = same (segments name) bare ∙ missing-bare tree name sound.rule (omega (arith, sound.front.high, full));
          linked = λ short. (omega (arith, H.still, left_over), H.count);
          unwritten = λ fits. absurd (omega (arith, fits, full));
        })
      where
        same : Alike tree H.now
        same = hung-seek tree H.now H.hung

        -- what is missing now is what was left of the path
        left_over : missing (segments name) H.now ≡ missing H.left (reached H.now H.way)
        left_over = ap (λ (s : List (List ℕ)). missing s H.now) (sym H.names) ∙ missing-stood H.now H.way H.at H.left H.sound.rule H.stood

    -- it did: at a node with that name for its path
    module _ (W : Went area used tree [] root_at (segments name)) (fits : used + missing (segments name) tree ≤ data_size area) where
      there : NodeThere W.now W.at (segments name)
      unfolding above
      there = stood-node W.now W.way W.at (segments name) W.stood W.names (segments-some name)

      abbrev full : List ℕ
      full = prefix_at [] W.now there.way ++ there.name

      whole : name ≡ full
      whole = one_name name full
          (sym (names-spelled W.at there.name there.own there.left there.below there.right there.way W.now there.there W.sound.rule ∙ there.names))

      same : Alike tree W.now
      same = hung-seek tree W.now W.hung

      has : entry_of tree name ≡ there.own
      has = sym (same (segments name) bare) ∙ ap (λ (n : List ℕ). seek (segments n) bare W.now) whole
          ∙ finds-own W.at there.name there.own there.left there.below there.right there.way W.now there.there W.sound.rule

      on_entry : (s : Step) → add_entry W.after name value W.at ≡ s → add_steps area name value ≡ with_rooms W.rooms s
      unfolding steps
      on_entry s e = sym steps-are ∙ ap (λ (x : Step). and_then x (λ at after. add_entry after name value at)) W.is ∙ ap (with_rooms W.rooms) e

      size : data_size W.after ≡ data_size area
      size = ap (λ (k : ℕ). k - 128) W.size

      sized : total W.rooms ≡ missing (segments name) tree
      unfolding reached
      sized = W.given

      -- no node is missing now
      full-path : missing (segments name) W.now ≡ 0
      unfolding above missing
      full-path =
          ap (λ (s : List (List ℕ)). missing s W.now) (sym (append-nil (above W.now W.way) ∙ W.names))
          ∙ missing-stood W.now W.way W.at [] W.sound.rule W.stood

      sums : total W.rooms + total (entry_rooms name value) ≡ missing (segments name) tree + entry_needs name value
      unfolding entry_needs
      sums = ap (λ (k : ℕ). k + total (entry_rooms name value)) sized

      -- the entry fits, and what it needs does not: its value is long
      long-value : used + total W.rooms + entry_takes (length name) ≤ data_size W.after → data_size W.after < used + total W.rooms + entry_needs name value → slot_size ≤ length value
      long-value room over = on (dec_lt (length value) slot_size)
        where
          on : Dec (length value < slot_size) → slot_size ≤ length value
          on (yes few) = absurd (omega (arith, room, over, needs-short name value few))
          on (no many) = omega arith

      by : EntryAdded W.after (used + total W.rooms) W.now there.way W.at there.name there.own there.left there.below there.right name value
          (add_entry W.after name value W.at) → AddDone area used tree name value (add_steps area name value)
      by (kept far serial v own is) =
          stays far W.after (W.rooms ++ []) (used + total W.rooms) W.now serial v named
          (omega (arith, fits, lacks-some tree name value far serial name v (has ∙ own))) (on_entry _ is)
          (omega (arith, total-append W.rooms [], sized, lacks-some tree name value far serial name v (has ∙ own))) (has ∙ own) W.sound same
      by (added b serial v own room is S laid) =
          let new : Entry = entry (used + total W.rooms) serial name v in
          adds (used + total W.rooms) b _ (used + total W.rooms + entry_needs name value)
          (plug W.now there.way (node W.at there.name new there.left there.below there.right)) serial v named
          (omega (arith, room, sized, lacks-bare tree name value (has ∙ own), size)) (on_entry _ is)
          (total-append W.rooms (entry_rooms name value) ∙ sums ∙ sym (lacks-bare tree name value (has ∙ own))) (has ∙ own) S
          (ap (λ (n : List ℕ). seek (segments n) bare (plug W.now there.way (node W.at there.name new there.left there.below there.right))) whole
          ∙ finds-new W.at there.name there.own there.left there.below there.right there.way W.now there.there W.sound.rule new)
          laid
          (λ other differs. finds-others W.at there.name there.own there.left there.below there.right there.way W.now there.there W.sound.rule new other
          (λ e. differs (e ∙ sym whole)) ∙ same (segments other) bare)
      by (no_entry own over is) =
          no_room (used + total W.rooms + entry_takes (length name)) W.after _ (used + total W.rooms) W.now named (omega (arith, over, size))
          (omega (arith, sized, lacks-bare tree name value (has ∙ own), needs-least name value)) (on_entry _ is) W.sound same
          (record {
            kept = hung-keeps tree W.now W.hung;
            entries = λ other. same (segments other) bare;
            unlinked = same (segments name) bare ∙ has ∙ own;
            linked = λ short. (omega (arith, total-append W.rooms [], sized, full-path), omega (arith, W.count, length-append W.rooms []));
            unwritten = λ room. absurd (omega (arith, room, over, size, sized));
          })
      by (no_value b own room over is S) =
          no_room (used + total W.rooms + entry_needs name value) b _ _ W.now named (omega (arith, over, size)) (omega (arith, sized, lacks-bare tree name value (has ∙ own))) (on_entry _ is) S same
          (record {
            kept = hung-keeps tree W.now W.hung;
            entries = λ other. same (segments other) bare;
            unlinked = same (segments name) bare ∙ has ∙ own;
            linked = λ short. absurd (omega (arith, short, room, size, sized));
            unwritten = λ fit. (
              long-value room over,
              full-path,
              omega (arith, total-append W.rooms (entry_takes (length name) ∷ []), sized),
              omega (arith, W.count, length-append W.rooms (entry_takes (length name) ∷ [])),
            );
          })

      went : AddDone area used tree name value (add_steps area name value)
      went = by (add-entry W.after (used + total W.rooms) W.now there.way W.at there.name there.own there.left there.below there.right there.there W.sound name value whole)

    accepted-name : AddDone area used tree name value (add_steps area name value)
    unfolding reached
    accepted-name = on (dec_lt (data_size area) (used + missing (segments name) tree))
      where
        on : Dec (data_size area < used + missing (segments name) tree) → AddDone area used tree name value (add_steps area name value)
        on (yes over) = halted (path-halts (segments name) area used tree [] root_at sound at_root (all_named name named) over) over
        on (no less) = let fits : used + missing (segments name) tree ≤ data_size area = omega arith in
            went (path-goes (segments name) area used tree [] root_at sound at_root (all_named name named) fits) fits

  refused-name : (why : Refusal) → name_verdict name ≡ fail why → AddDone area used tree name value (add_steps area name value)
  unfolding add_steps
  refused-name why e = bad_name why e (rw (sound.front.header, e) refl)

  pub add-sound : AddDone area used tree name value (add_steps area name value)
  add-sound = on (name_verdict name) refl
    where
      on : (v : Verdict) → name_verdict name ≡ v → AddDone area used tree name value (add_steps area name value)
      on (Ok _) e = accepted-name e
      on (Err why) e = refused-name why e
