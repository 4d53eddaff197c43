-- The C structs that an answer becomes: refusal 0 and the result, or the refusal's number and zeros; and what the C functions of check, listing and dump return.
use Rattle.std.specs.Prelude.{ℕ, ◌-◌, ◌≡◌, List}
use Rattle.layout.specs.Refusals.{Answer, accepted, refused, no_refusal, leaves}
use Rattle.property_area.specs.Find.{Hit, hit}
use Rattle.property_area.specs.Value.{Part, bytes}
use Rattle.audit.specs.Check.{Judged, check_steps, Listing, lists, list_steps}
use Rattle.dumping.specs.Dump.{Filled, fills, fill_steps}
use Rattle.capi.specs.declared.PaCount.{PaCount}
use Rattle.capi.specs.declared.PaFound.{PaFound}
use Rattle.capi.specs.declared.PaPart.{PaPart}
use Rattle.capi.specs.declared.PaSerial.{PaSerial}

abbrev pub found_struct : Answer Hit → PaFound
found_struct (accepted (hit offset compared)) = record { refusal = no_refusal; entry = offset; compared = compared }
found_struct (refused number) = record { refusal = number; entry = 0; compared = 0 }

-- the part from a place up to another: where it starts, counted from the area's first byte, and its length
abbrev pub part_struct : Answer Part → PaPart
part_struct (accepted (bytes from to)) = record { refusal = no_refusal; start = from; length = to - from }
part_struct (refused number) = record { refusal = number; start = 0; length = 0 }

abbrev pub serial_struct : Answer ℕ → PaSerial
serial_struct (accepted serial) = record { refusal = no_refusal; serial = serial }
serial_struct (refused number) = record { refusal = number; serial = 0 }

-- how many entries, and scratch and list afterwards
pub data CountListing : Type 0 where
  counts : PaCount → List ℕ → List ℕ → CountListing

abbrev pub count_struct : Answer ℕ → PaCount
count_struct (accepted count) = record { refusal = no_refusal; count = count }
count_struct (refused number) = record { refusal = number; count = 0 }

abbrev pub listing_struct : Listing → CountListing
listing_struct (lists answer scratch list) = counts (count_struct answer) scratch list

-- how long the text is, and room, scratch and list afterwards
pub data CountFilled : Type 0 where
  spans : PaCount → List ℕ → List ℕ → List ℕ → CountFilled

abbrev pub filled_struct : Filled → CountFilled
filled_struct (fills answer room scratch list) = spans (count_struct answer) room scratch list

-- what check, listing and dump return and leave, however the area is judged
abbrev pub CheckReturns : (area scratch : List ℕ) → ℕ → List ℕ → Type 0
CheckReturns area scratch number after = (judged : Judged area) → leaves number after ≡ check_steps area scratch judged

abbrev pub ListReturns : (area scratch list : List ℕ) → PaCount → List ℕ → List ℕ → Type 0
ListReturns area scratch list count after noted = (judged : Judged area) → counts count after noted ≡ listing_struct (list_steps area scratch list judged)

abbrev pub DumpReturns : (area scratch list room : List ℕ) → PaCount → List ℕ → List ℕ → List ℕ → Type 0
DumpReturns area scratch list room count after left noted = (judged : Judged area) → spans count after left noted ≡ filled_struct (fill_steps area scratch list room judged)
