-- How far an add moves the used mark, in any area, accepted or refused: by the rooms that it gave, and every length stays.
use mathlib.Core.Path.{◌≡◌, refl, ◌∙◌}
use mathlib.Core.List.{List, [], ◌∷◌, ◌++◌}
use Prim.Native.Nat.{ℕ, ◌+◌, ◌-◌, ◌≤◌}
use native.Mathlib.Omega.{arith}
use borrow.Author.Tests.{ltb-false}
use lib.Dec.{eqb, ltb}
use lib.ListN.{length}
use Rattle.words.specs.Words.{little_bytes}
use Rattle.words.specs.Stores.{Store, run, text_stores, word_store}
use Rattle.words.proofs.Laws.{bool_cases, little-agree, put-length}
use Rattle.words.proofs.StoreLaws.{run_length, Behind, none, one, behind-append, behind-bytes, run-before}
use Rattle.words.proofs.Promises.{little-put-same}
use Rattle.names.specs.Names.{segments}
use Rattle.std.specs.Prelude.{Result, Ok, Err}
use Rattle.layout.specs.declared.refusal.Refusal.{Refusal}
use Rattle.layout.specs.Layout.{word_size, word_max, header_size, byte_of, used_field, node_size, node_takes, namelen_field, prop_field, left_field, right_field, children_field}
use Rattle.layout.specs.Layout.{entry_takes, value_takes, entry_size, serial_field, slot_field, slot_size, message_field, long_offset_field, root_at, data_size, place_of, header_word, word_at, node_ok, entry_ok}
use Rattle.layout.specs.Refusals.{Verdict, by_verdict}
use Rattle.property_info.specs.Written.{short_stores, long_stores}
use Rattle.trie.specs.declared.trie.Searched.{Searched}
use Rattle.trie.specs.Header.{header_ok}
use Rattle.trie.specs.Trie.{nodes_max, search_from}
use Rattle.trie.proofs.HeaderLaws.{header-min}
use Rattle.allocation.specs.Steps.{total, Step, goes, stops, stop_by, with_rooms, and_then, link_to}
use Rattle.allocation.specs.Allocate.{allocate}
use Rattle.nodes.specs.Nodes.{node_stores, lay_node, new_node, hang_node, or_hang, add_node, add_segment, add_path}
use Rattle.entries.specs.Entries.{lay_entry, long_entry, new_entry, add_entry}
use Rattle.builder.specs.Add.{name_verdict, add_steps}

pub total-append : (a b : List ℕ) → total (a ++ b) ≡ total a + total b
total-append [] b = omega arith
total-append (r ∷ a) b = omega (arith, total-append a b)

-- ---- what holds of the bytes after a step: as long as before, and used moved by the rooms
pub record Moves (area after rooms : List ℕ) : Type 0 where
  pub kept : length after ≡ length area
  pub used : header_word after used_field ≡ header_word area used_field + total rooms

abbrev pub Moved : List ℕ → Step → Type 0
Moved area (goes at after rooms) = Moves area after rooms
Moved area (stops number after rooms) = Moves area after rooms

still : (area : List ℕ) → Moves area area []
still area = record { kept = refl; used = omega arith }

both-moves : (area mid after a b : List ℕ) → Moves area mid a → Moves mid after b → Moves area after (a ++ b)
both-moves area mid after a b p q = record { kept = q.kept ∙ p.kept; used = omega (arith, p.used, q.used, total-append a b) }

rooms-moved : (area mid given : List ℕ) (s : Step) → Moves area mid given → Moved mid s → Moved area (with_rooms given s)
rooms-moved area mid given (goes at after rooms) p q = both-moves area mid after given rooms p q
rooms-moved area mid given (stops number after rooms) p q = both-moves area mid after given rooms p q

then-moved : (area : List ℕ) (s : Step) (on : ℕ → List ℕ → Step) → Moved area s → ((at : ℕ) (mid : List ℕ) → length mid ≡ length area → Moved mid (on at mid)) → Moved area (and_then s on)
then-moved area (goes at mid rooms) on p f = rooms-moved area mid rooms (on at mid) p (f at mid p.kept)
then-moved area (stops number mid rooms) on p f = p

-- ---- stores behind the header leave used
run-still : (area : List ℕ) (stores : List Store) → Behind header_size stores → Moves area (run area stores) []
run-still area stores p =
    record {
      kept = run_length area stores;
      used = little-agree 4 (run area stores) area used_field (λ j a b. run-before area header_size stores p j (omega arith)) ∙ omega arith;
    }

text-behind : (at : ℕ) (text : List ℕ) → header_size ≤ at → Behind header_size (text_stores at text)
text-behind at text h = behind-bytes header_size at (text ++ 0 ∷ []) h

node-behind : (at : ℕ) (name : List ℕ) → Behind header_size (node_stores at name)
unfolding node_stores
node-behind at name =
    one (place_of at prop_field) _ _ (omega arith)
    (one (place_of at left_field) _ _ (omega arith)
    (one (place_of at right_field) _ _ (omega arith)
    (one (place_of at children_field) _ _ (omega arith)
    (one (place_of at namelen_field) _ _ (omega arith) (text-behind (place_of at node_size) name (omega arith))))))

short-behind : (at : ℕ) (value : List ℕ) → Behind header_size (short_stores at value)
unfolding short_stores
short-behind at value = one (place_of at serial_field) _ _ (omega arith) (text-behind (place_of at slot_field) value (omega arith))

long-behind : (at relative : ℕ) → Behind header_size (long_stores at relative)
unfolding long_stores
long-behind at relative =
    one (place_of at serial_field) _ _ (omega arith) (one (place_of at message_field) _ _ (omega arith) (one (place_of at long_offset_field) _ _ (omega arith) none))

-- ---- each step
allocate-moved : (area : List ℕ) (room : ℕ) → word_size ≤ length area → Moved area (allocate area room)
unfolding allocate run
allocate-moved area room h =
    let end = header_word area used_field + room in
    bool_cases (ltb word_max end)
    (λ t. rw t (still area))
    (λ t. bool_cases (ltb (data_size area) end)
    (λ u. rw (t, u) (still area))
    (λ u. rw (t, u) (record {
      kept = put-length area used_field (little_bytes 4 end);
      used = little-put-same 4 area used_field end h (omega (arith, ltb-false word_max end t)) ∙ omega arith;
    })))

new-moved : (area name : List ℕ) → word_size ≤ length area → Moved area (new_node area name)
unfolding new_node
new-moved area name h =
    then-moved area (allocate area (node_takes (length name))) (λ at given. lay_node given name at) (allocate-moved area (node_takes (length name)) h)
    (λ at given k. bool_cases (node_ok given at) (λ t. rw t (run-still given (node_stores at name) (node-behind at name))) (λ t. rw t (still given)))

link-moved : (area : List ℕ) (link at : ℕ) → Moved area (link_to area link at)
link-moved area link at = run-still area (word_store (byte_of link) at ∷ []) (one _ _ _ (omega arith) none)

hang-moved : (area : List ℕ) (link : ℕ) (name : List ℕ) → word_size ≤ length area → Moved area (hang_node area link name)
unfolding hang_node
hang-moved area link name h = then-moved area (new_node area name) (λ at laid. link_to laid link at) (new-moved area name h) (λ at laid k. link-moved laid link at)

or-hang-moved : (area segment : List ℕ) (s : Result Searched Refusal) → word_size ≤ length area → Moved area (or_hang area segment s)
or-hang-moved area segment (Ok (Searched.Named node n)) h = still area
or-hang-moved area segment (Ok (Searched.Absent link n)) h = hang-moved area link segment h
or-hang-moved area segment (Err why) h = still area

node-moved : (area segment : List ℕ) (first : ℕ) → word_size ≤ length area → Moved area (add_node area segment first)
unfolding add_node
node-moved area segment first h = or-hang-moved area segment (search_from area segment (nodes_max area) first 0) h

segment-moved : (area segment : List ℕ) (parent : ℕ) → word_size ≤ length area → Moved area (add_segment area segment parent)
unfolding add_segment
segment-moved area segment parent h =
    let first = word_at area parent children_field in
    bool_cases (node_ok area parent)
    (λ t. bool_cases (eqb first 0)
    (λ z. rw (t, z) (then-moved area (hang_node area (parent + children_field) segment) (λ at laid. add_node laid segment at) (hang-moved area (parent + children_field) segment h) (λ at laid k. node-moved laid segment at (omega arith))))
    (λ z. rw (t, z) (node-moved area segment first h)))
    (λ t. rw t (still area))

path-moved : (segs : List (List ℕ)) (area : List ℕ) (node : ℕ) → word_size ≤ length area → Moved area (add_path area segs node)
unfolding add_path
path-moved [] area node h = still area
path-moved (seg ∷ rest) area node h =
    then-moved area (add_segment area seg node) (λ next after. add_path after rest next) (segment-moved area seg node h) (λ next after k. path-moved rest after next (omega arith))

lay-moved : (area name : List ℕ) (at : ℕ) (stores : List Store) → Behind header_size stores → Moved area (lay_entry area name at stores)
unfolding lay_entry
lay-moved area name at stores p =
    bool_cases (entry_ok area at)
    (λ t. rw t (run-still area (stores ++ text_stores (place_of at entry_size) name) (behind-append header_size stores (text_stores (place_of at entry_size) name) p (text-behind (place_of at entry_size) name (omega arith)))))
    (λ t. rw t (still area))

-- a text behind the header, then a step
text-moved : (area : List ℕ) (at : ℕ) (text : List ℕ) (s : Step) → header_size ≤ at → Moved (run area (text_stores at text)) s → Moved area s
text-moved area at text (goes place after rooms) h p = both-moves area (run area (text_stores at text)) after [] rooms (run-still area (text_stores at text) (text-behind at text h)) p
text-moved area at text (stops number after rooms) h p = both-moves area (run area (text_stores at text)) after [] rooms (run-still area (text_stores at text) (text-behind at text h)) p

long-moved : (area name value : List ℕ) (at : ℕ) → word_size ≤ length area → Moved area (long_entry area name value at)
unfolding long_entry
long-moved area name value at h =
    then-moved area (allocate area (value_takes (length value))) _ (allocate-moved area (value_takes (length value)) h)
    (λ far given k.
    text-moved given (byte_of far) value (lay_entry (run given (text_stores (byte_of far) value)) name at (long_stores at (far - at))) (omega arith)
    (lay-moved (run given (text_stores (byte_of far) value)) name at (long_stores at (far - at)) (long-behind at (far - at))))

entry-moved : (area name value : List ℕ) → word_size ≤ length area → Moved area (new_entry area name value)
unfolding new_entry
entry-moved area name value h =
    then-moved area (allocate area (entry_takes (length name))) _ (allocate-moved area (entry_takes (length name)) h)
    (λ at given k. bool_cases (ltb (length value) slot_size)
    (λ t. rw t (lay-moved given name at (short_stores at value) (short-behind at value)))
    (λ t. rw t (long-moved given name value at (omega arith))))

add-entry-moved : (area name value : List ℕ) (node : ℕ) → word_size ≤ length area → Moved area (add_entry area name value node)
unfolding add_entry
add-entry-moved area name value node h =
    let prop = word_at area node prop_field in
    bool_cases (node_ok area node)
    (λ t. bool_cases (eqb prop 0)
    (λ z. rw (t, z) (then-moved area (new_entry area name value) (λ at laid. link_to laid (node + prop_field) at) (entry-moved area name value h) (λ at laid k. link-moved laid (node + prop_field) at)))
    (λ z. rw (t, z) (still area)))
    (λ t. rw t (still area))

verdict-moved : (area : List ℕ) (v : Verdict) (on : Step) → Moved area on → Moved area (by_verdict v (stop_by area) on)
verdict-moved area (Ok _) on p = p
verdict-moved area (Err why) on p = still area

-- ---- the promise
pub used-moves : (area name value : List ℕ) → Moved area (add_steps area name value)
unfolding add_steps
used-moves area name value =
    bool_cases (header_ok area)
    (λ h. rw h (verdict-moved area (name_verdict name) _
    (then-moved area (add_path area (segments name) root_at) (λ node after. add_entry after name value node)
    (path-moved (segments name) area root_at (omega (arith, header-min area h)))
    (λ node after k. add-entry-moved after name value node (omega (arith, header-min area h))))))
    (λ h. rw h (still area))
