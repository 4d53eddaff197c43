-- Which bytes a refused allocation and a refused add leave; and what an add or a format that answers 0 has done.
use mathlib.Core.Path.{◌≡◌, refl, sym, ◌∙◌}
use mathlib.Core.Bool.{Bool, true, false, ◌||◌, ◌&&◌}
use mathlib.Core.List.{List, [], ◌∷◌}
use Prim.Native.Nat.{ℕ, zero, suc, ◌+◌, ◌-◌}
use lib.Dec.{eqb, leb, ltb}
use lib.ListN.{length}
use Rattle.words.specs.Stores.{Store, run, text_stores}
use Rattle.words.proofs.Laws.{bool_cases, clash}
use Rattle.names.specs.Names.{segments}
use Rattle.layout.specs.declared.refusal.Refusal.{Refusal}
use Rattle.std.specs.Prelude.{Result, Ok, Err}
use Rattle.trie.proofs.Bounds.{Damage, visit_damage}
use Rattle.layout.specs.Layout.{word_max, area_max, format_min, byte_of, used_field, node_takes, entry_takes, value_takes, slot_size, root_at, prop_field, children_field, data_size, header_word, word_at, node_ok, entry_ok}
use Rattle.layout.specs.Refusals.{Verdict, number_of, no_refusal, by_verdict, accept_leaving, refuse_leaving}
use Rattle.layout.proofs.Numbers.{outcome-clash}
use Rattle.property_info.specs.Written.{short_stores, long_stores}
use Rattle.trie.specs.declared.trie.Visited.{Visited}
use Rattle.trie.specs.declared.trie.Searched.{Searched}
use Rattle.trie.specs.Header.{header_ok}
use Rattle.trie.specs.Trie.{visit_node, by_visit, nodes_max, search_from}
use Rattle.allocation.specs.Steps.{Step, goes, stops, stop_by, with_rooms, and_then, link_to, outcome}
use Rattle.allocation.specs.Allocate.{allocate}
use Rattle.nodes.specs.Nodes.{lay_node, new_node, hang_node, or_hang, add_node, add_segment, add_path}
use Rattle.entries.specs.Entries.{lay_entry, long_entry, new_entry, add_entry}
use Rattle.builder.specs.Fresh.{fresh, format_steps}
use Rattle.builder.specs.Add.{name_verdict, add_steps}

-- ---- a refused allocation changes no byte and gives no room
abbrev pub StopKeeps : List ℕ → Step → Type 0
StopKeeps area (goes at after rooms) = Unit {0}
StopKeeps area (stops number after rooms) = (after ≡ area) × (rooms ≡ [])

pub allocate-keeps : (area : List ℕ) (room : ℕ) → StopKeeps area (allocate area room)
unfolding allocate
allocate-keeps area room =
    let end = header_word area used_field + room in
    bool_cases (ltb word_max end)
    (λ t. rw t (refl, refl))
    (λ t. bool_cases (ltb (data_size area) end)
    (λ u. rw (t, u) (refl, refl))
    (λ u. rw (t, u) tt))

-- ---- the walk and the entry stop late alone: with no room, at damage, or too large
abbrev pub late : ℕ → Bool
late number = eqb number (number_of Refusal.NoRoom) || eqb number (number_of Refusal.Damaged) || eqb number (number_of Refusal.TooLarge)

abbrev StopsLate : Step → Type 0
StopsLate (goes at area rooms) = Unit {0}
StopsLate (stops number area rooms) = late number ≡ true

rooms-late : (given : List ℕ) (s : Step) → StopsLate s → StopsLate (with_rooms given s)
rooms-late given (goes at area rooms) k = tt
rooms-late given (stops number area rooms) k = k

then-late : (s : Step) (on : ℕ → List ℕ → Step) → StopsLate s → ((at : ℕ) (area : List ℕ) → StopsLate (on at area)) → StopsLate (and_then s on)
then-late (goes at area rooms) on k f = rooms-late rooms (on at area) (f at area)
then-late (stops number area rooms) on k f = k

allocate-late : (area : List ℕ) (room : ℕ) → StopsLate (allocate area room)
unfolding allocate
allocate-late area room =
    let end = header_word area used_field + room in
    bool_cases (ltb word_max end)
    (λ t. rw t refl)
    (λ t. bool_cases (ltb (data_size area) end) (λ u. rw (t, u) refl) (λ u. rw (t, u) tt))

new-late : (area name : List ℕ) → StopsLate (new_node area name)
unfolding new_node
new-late area name =
    then-late (allocate area (node_takes (length name))) (λ at given. lay_node given name at) (allocate-late area (node_takes (length name)))
    (λ at given. bool_cases (node_ok given at) (λ t. rw t tt) (λ t. rw t refl))

hang-late : (area : List ℕ) (link : ℕ) (name : List ℕ) → StopsLate (hang_node area link name)
unfolding hang_node
hang-late area link name = then-late (new_node area name) (λ at laid. link_to laid link at) (new-late area name) (λ at laid. tt)

-- a search refuses as damage alone
abbrev Damages : Result Searched Refusal → Type 0
Damages (Ok found) = Unit {0}
Damages (Err why) = why ≡ Refusal.Damaged

visit-damages : (v : Result Visited Refusal) → Damage v → (node n : ℕ) (on : ℕ → Result Searched Refusal) → ((m : ℕ) → Damages (on m)) → Damages (by_visit v node n on)
visit-damages (Ok Visited.Same) d node n on f = tt
visit-damages (Ok (Visited.Next m)) d node n on f = f m
visit-damages (Ok (Visited.Stop l)) d node n on f = tt
visit-damages (Err why) d node n on f = d

search-damages : (more : ℕ) (area segment : List ℕ) (node n : ℕ) → Damages (search_from area segment more node n)
unfolding search_from
search-damages zero area segment node n = refl
search-damages (suc more) area segment node n = visit-damages (visit_node area segment node) (visit_damage area segment node) node (n + 1) _ (λ m. search-damages more area segment m (n + 1))

or-hang-late : (area segment : List ℕ) (s : Result Searched Refusal) → Damages s → StopsLate (or_hang area segment s)
or-hang-late area segment (Ok (Searched.Named node n)) d = tt
or-hang-late area segment (Ok (Searched.Absent link n)) d = hang-late area link segment
or-hang-late area segment (Err why) d = rw d refl

node-late : (area segment : List ℕ) (first : ℕ) → StopsLate (add_node area segment first)
unfolding add_node
node-late area segment first = or-hang-late area segment (search_from area segment (nodes_max area) first 0) (search-damages (nodes_max area) area segment first 0)

segment-late : (area segment : List ℕ) (parent : ℕ) → StopsLate (add_segment area segment parent)
unfolding add_segment
segment-late area segment parent =
    let first = word_at area parent children_field in
    bool_cases (node_ok area parent)
    (λ t. bool_cases (eqb first 0)
    (λ z. rw (t, z) (then-late (hang_node area (parent + children_field) segment) (λ at laid. add_node laid segment at) (hang-late area (parent + children_field) segment) (λ at laid. node-late laid segment at)))
    (λ z. rw (t, z) (node-late area segment first)))
    (λ t. rw t refl)

path-late : (segs : List (List ℕ)) (area : List ℕ) (node : ℕ) → StopsLate (add_path area segs node)
unfolding add_path
path-late [] area node = tt
path-late (seg ∷ rest) area node =
    then-late (add_segment area seg node) (λ next after. add_path after rest next) (segment-late area seg node) (λ next after. path-late rest after next)

lay-late : (area name : List ℕ) (at : ℕ) (stores : List Store) → StopsLate (lay_entry area name at stores)
unfolding lay_entry
lay-late area name at stores = bool_cases (entry_ok area at) (λ t. rw t tt) (λ t. rw t refl)

long-late : (area name value : List ℕ) (at : ℕ) → StopsLate (long_entry area name value at)
unfolding long_entry
long-late area name value at =
    then-late (allocate area (value_takes (length value))) _ (allocate-late area (value_takes (length value)))
    (λ far given. lay-late (run given (text_stores (byte_of far) value)) name at (long_stores at (far - at)))

entry-late : (area name value : List ℕ) → StopsLate (new_entry area name value)
unfolding new_entry
entry-late area name value =
    then-late (allocate area (entry_takes (length name))) _ (allocate-late area (entry_takes (length name)))
    (λ at given. bool_cases (ltb (length value) slot_size)
    (λ t. rw t (lay-late given name at (short_stores at value)))
    (λ t. rw t (long-late given name value at)))

add-entry-late : (area name value : List ℕ) (node : ℕ) → StopsLate (add_entry area name value node)
unfolding add_entry
add-entry-late area name value node =
    let prop = word_at area node prop_field in
    bool_cases (node_ok area node)
    (λ t. bool_cases (eqb prop 0)
    (λ z. rw (t, z) (then-late (new_entry area name value) (λ at laid. link_to laid (node + prop_field) at) (entry-late area name value) (λ at laid. tt)))
    (λ z. rw (t, z) tt))
    (λ t. rw t refl)

-- ---- what holds of every refusal that leaves the area as it is, and of every step that stops late alone, holds of add
verdict-every : (area : List ℕ) (P : Step → Type 0) → ((why : Refusal) → P (stop_by area why)) → (v : Verdict) (on : Step) → P on → P (by_verdict v (stop_by area) on)
verdict-every area P refuses (Ok _) on k = k
verdict-every area P refuses (Err why) on k = refuses why

add-every : (area name value : List ℕ) (P : Step → Type 0) → ((why : Refusal) → P (stop_by area why)) → ((s : Step) → StopsLate s → P s) → P (add_steps area name value)
unfolding add_steps
add-every area name value P refuses lates =
    let walk = and_then (add_path area (segments name) root_at) (λ node after. add_entry after name value node) in
    let k : StopsLate walk = then-late (add_path area (segments name) root_at) _ (path-late (segments name) area root_at) (λ node after. add-entry-late after name value node) in
    bool_cases (header_ok area)
    (λ h. rw h (search (verdict-every area P refuses (name_verdict name) walk (lates walk k))))
    (λ h. rw h (search (refuses Refusal.BadHeader)))

-- ---- so a refusal that is not late leaves every byte, and gives no room
abbrev pub EarlyKeeps : List ℕ → Step → Type 0
EarlyKeeps area (goes at after rooms) = Unit {0}
EarlyKeeps area (stops number after rooms) = late number ≡ false → (after ≡ area) × (rooms ≡ [])

late-keeps : (area : List ℕ) (s : Step) → StopsLate s → EarlyKeeps area s
late-keeps area (goes at after rooms) k = tt
late-keeps area (stops number after rooms) k = λ e. let q : ◌≡◌ {A = Bool} true false = sym k ∙ e in clash cc

pub add-keeps : (area name value : List ℕ) → EarlyKeeps area (add_steps area name value)
add-keeps area name value = add-every area name value (EarlyKeeps area) (λ why e. (refl, refl)) (late-keeps area)

-- ---- and an add that answers 0 went on to its end: no refusal has 0
abbrev WentOn : List ℕ → Step → Type 0
WentOn after s = accept_leaving after ≡ outcome s → (prop : ℕ) × (rooms : List ℕ) × (s ≡ goes prop after rooms)

late-went : (after : List ℕ) (s : Step) → StopsLate s → WentOn after s
late-went after (goes at area rooms) k = λ e. let p : after ≡ area = cc in (at, rooms, rw p refl)
late-went after (stops number area rooms) k =
    λ e.
    let z : no_refusal ≡ number = cc in
    let q : ◌≡◌ {A = Bool} false true = rw (← z) at k in
    clash cc

pub add-tells : (area name value after : List ℕ) → WentOn after (add_steps area name value)
add-tells area name value after =
    add-every area name value (WentOn after) (λ why. outcome-clash after area why) (late-went after)

-- ---- a format that answers 0 made a fresh area
pub format-tells : (area after : List ℕ) → accept_leaving after ≡ format_steps area → after ≡ fresh (length area)
unfolding format_steps
format-tells area after e =
    bool_cases (leb format_min (length area) && leb (length area) area_max)
    (λ t. let k : accept_leaving after ≡ accept_leaving (fresh (length area)) = rw t at e in cc)
    (λ t. let k : accept_leaving after ≡ refuse_leaving area Refusal.BadHeader = rw t at e in clash cc)
