-- The settled examples of RULES 11.1 to 11.3, computed from the definitions: one table.
use mathlib.Core.Path.{◌≡◌, refl}
use mathlib.Core.List.{List, [], ◌∷◌}
use Prim.Native.Nat.{ℕ}
use lib.ListN.{replicate}
use Rattle.words.specs.Words.{little_at, little_bytes, first_in, same_bytes, put}
use Rattle.words.specs.Stores.{run, byte_stores}
use Rattle.names.specs.Names.{segments, segment_order, byte_order}
use Rattle.layout.specs.Layout.{used_field, root_at, children_field, left_field, prop_field, serial_field, long_offset_field, header_word, word_at, touch, text_in}
use Rattle.layout.specs.Refusals.{refused, Outcome, number_in, bytes_in}
use Rattle.property_info.specs.Entry.{is_long, short_value, name_of, long_value, value_of}
use Rattle.serials.specs.Serial.{updated_serial}
use Rattle.property_info.specs.Written.{short_stores, long_stores, message, write_stores}
use Rattle.trie.specs.Header.{header_ok}
use Rattle.trie.specs.Trie.{visit_node, search_from, segment_steps}
use Rattle.property_area.specs.Find.{prop_steps, find_from, find_steps}
use Rattle.property_area.specs.Value.{touch_steps, value_steps, part_or_none}
use Rattle.allocation.specs.Steps.{outcome}
use Rattle.builder.specs.Fresh.{fresh}
use Rattle.allocation.specs.Allocate.{allocate}
use Rattle.nodes.specs.Nodes.{node_stores, new_node, hang_node, add_node, add_segment, add_path}
use Rattle.entries.specs.Entries.{lay_entry, long_entry, new_entry, add_entry}
use Rattle.builder.specs.Add.{any_empty, name_verdict, add_steps}
use Rattle.updates.specs.Update.{value_verdict, update_stores, update_entry, update_steps}
use Rattle.counters.specs.Distance.{distance}

-- names and values: a, b, ab.c, a..b; x, q, 12, 345
abbrev pub a : List ℕ
a = 97 ∷ []

abbrev pub b : List ℕ
b = 98 ∷ []

abbrev pub ab-c : List ℕ
ab-c = 97 ∷ 98 ∷ 46 ∷ 99 ∷ []

abbrev pub a-b : List ℕ
a-b = 97 ∷ 46 ∷ 46 ∷ 98 ∷ []

-- "a" added with a value to a fresh area of n bytes
abbrev pub one_name : ℕ → List ℕ → Outcome
one_name n value = outcome (add_steps (fresh n) a value)

-- fresh 4,096 bytes, "ab.c" is "12"; then "b" is "q"
abbrev pub first : Outcome
first = outcome (add_steps (fresh 4096) ab-c (49 ∷ 50 ∷ []))

abbrev pub second : Outcome
second = outcome (add_steps (bytes_in first) b (113 ∷ []))

-- an answer's number, and words of its bytes: used; or a field of the record at an offset
abbrev pub used_in : Outcome → ℕ
used_in o = header_word (bytes_in o) used_field

abbrev pub word_in : Outcome → ℕ → ℕ → ℕ
word_in o at field = word_at (bytes_in o) at field

pub record Table : Type 0 where
  -- RULES 11.1: "a" with "x" in 364, in 363 and in 263 bytes
  pub at-364 : number_in (one_name 364 (120 ∷ [])) ∷ used_in (one_name 364 (120 ∷ [])) ∷ [] ≡ 0 ∷ 236 ∷ []
  pub at-363 : number_in (one_name 363 (120 ∷ [])) ∷ used_in (one_name 363 (120 ∷ [])) ∷ word_in (one_name 363 (120 ∷ [])) root_at children_field ∷ [] ≡ 4 ∷ 136 ∷ 112 ∷ []
  pub at-263 : number_in (one_name 263 (120 ∷ [])) ∷ used_in (one_name 263 (120 ∷ [])) ∷ [] ≡ 4 ∷ 112 ∷ []
  -- nodes 112 and 136, entry 160, used 264, serial 0x02000000; then node 264 is left of 112, entry 288, used 388
  pub first-name :
      number_in first ∷ word_in first root_at children_field ∷ word_in first 112 children_field ∷ word_in first 136 prop_field ∷ used_in first ∷ word_in first 160 serial_field ∷ []
      ≡ 0 ∷ 112 ∷ 136 ∷ 160 ∷ 264 ∷ 0x02000000 ∷ []
  pub second-name : number_in second ∷ word_in second 112 left_field ∷ word_in second 264 prop_field ∷ used_in second ∷ [] ≡ 0 ∷ 264 ∷ 288 ∷ 388 ∷ []
  -- 91 bytes: serial 0x5b000000; 92 bytes: entry 136, value 236, relative 100, used 332
  pub bytes-91 : word_in (one_name 512 (replicate 91 120)) 136 serial_field ≡ 0x5b000000
  pub bytes-92 :
      word_in (one_name 512 (replicate 92 120)) 112 prop_field ∷ word_in (one_name 512 (replicate 92 120)) 136 long_offset_field ∷ used_in (one_name 512 (replicate 92 120)) ∷ []
      ≡ 136 ∷ 100 ∷ 332 ∷ []
  pub value-92 : part_or_none (bytes_in (one_name 512 (replicate 92 120))) (value_steps (bytes_in (one_name 512 (replicate 92 120))) 136) ≡ replicate 92 120
  -- RULES 11.3: two serials, updated; the distance between the second pair
  pub update-345 : word_in (update_steps (bytes_in first) ab-c (51 ∷ 52 ∷ 53 ∷ [])) 160 serial_field ≡ 0x03000002
  pub serial-round : updated_serial 0x0102fffe 1 ≡ 0x01020000
  pub distance-round : distance 0x0102fffe 0x01020000 ≡ 1
  -- find "a..b" in an empty area: 3; with "a" present: 2
  pub dots-empty : find_steps (fresh 364) a-b ≡ refused 3
  pub dots-a : find_steps (bytes_in (one_name 364 (120 ∷ []))) a-b ≡ refused 2

pub settled : Table
unfolding little_at little_bytes first_in same_bytes put run byte_stores segments segment_order byte_order touch text_in is_long short_value name_of long_value value_of updated_serial short_stores long_stores message write_stores header_ok visit_node search_from segment_steps prop_steps find_from find_steps touch_steps fresh allocate node_stores new_node hang_node add_node add_segment add_path lay_entry long_entry new_entry add_entry any_empty name_verdict add_steps value_verdict update_stores update_entry update_steps
settled =
    record {
      at-364 = refl;
      at-363 = refl;
      at-263 = refl;
      first-name = refl;
      second-name = refl;
      bytes-91 = refl;
      bytes-92 = refl;
      value-92 = refl;
      update-345 = refl;
      serial-round = refl;
      distance-round = refl;
      dots-empty = refl;
      dots-a = refl;
    }
