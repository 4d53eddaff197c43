-- An entry of a sound area's tree is listed, is found by its name, and shows its value, its name and its serial; what is found is such an entry.
use Prim.Native.Nat.{ℕ, ◌+◌}
use native.Mathlib.Omega.{arith}
use mathlib.Core.Path.{◌≡◌, refl, sym, ap, ◌∙◌}
use mathlib.Core.List.{List, [], ◌∷◌, ◌++◌}
use lib.ListN.{length, length-append, get_or-append}
use lib.Seq.{get_or-append-add}
use Rattle.words.proofs.Laws.{clash}
use Rattle.names.specs.Names.{segments}
use Rattle.layout.specs.Refusals.{accepted}
use Rattle.property_area.specs.Find.{hit, find_steps}
use Rattle.property_area.specs.Value.{bytes, value_steps, name_steps, part_or_none, serial_steps}
use Rattle.property_area.proofs.ValueLaws.{touch-read}
use Rattle.property_info.specs.Entry.{name_of, value_of}
use Rattle.sound.specs.Tree.{Value, bare, entry, Tree, leaf, node, listed_own, listed}
use Rattle.sound.specs.Sound.{Has, Sound}
use Rattle.sound.specs.Ways.{Dir, to_left, to_below, to_right, toward, reached}
use Rattle.finding.specs.Look.{value_text}
use Rattle.finding.proofs.NodeReads.{stands-whole}
use Rattle.finding.proofs.FindLook.{stands-reached, find-look}
use Rattle.finding.proofs.Spelling.{own_of, one_name, spells}
use Rattle.finding.proofs.LookWays.{look-names, found-leads}
use Rattle.finding.proofs.ValueReads.{part-shown, own-reads}

-- ---- the entry of a node is listed
has_left : (b : ℕ) (x y : List ℕ) → Has b x → Has b (x ++ y)
has_left b x y h = (h.0, omega (arith, h.1, length-append x y), get_or-append x y 0 h.0 h.1 ∙ h.2)

has_right : (b : ℕ) (x y : List ℕ) → Has b y → Has b (x ++ y)
has_right b x y h = (length x + h.0, omega (arith, h.1, length-append x y), get_or-append-add x y h.0 0 ∙ h.2)

pub own-listed : (way : List Dir) (tree : Tree) (at serial : ℕ) (name : List ℕ) (value : Value) → own_of (reached tree way) ≡ entry at serial name value → Has at (listed tree)
unfolding reached toward listed listed_own
own-listed [] leaf at serial name value is = clash cc
own-listed (dir ∷ way) leaf at serial name value is = own-listed way leaf at serial name value is
own-listed [] (node place segment own left below right) at serial name value is =
    has_left at (listed left ++ listed_own own ++ listed below) (listed right) (has_left at (listed left ++ listed_own own) (listed below)
    (has_right at (listed left) (listed_own own) (rw is (0, omega arith, refl))))
own-listed (to_left ∷ way) (node place segment own left below right) at serial name value is =
    has_left at (listed left ++ listed_own own ++ listed below) (listed right) (has_left at (listed left ++ listed_own own) (listed below)
    (has_left at (listed left) (listed_own own) (own-listed way left at serial name value is)))
own-listed (to_below ∷ way) (node place segment own left below right) at serial name value is =
    has_left at (listed left ++ listed_own own ++ listed below) (listed right) (has_right at (listed left ++ listed_own own) (listed below)
    (own-listed way below at serial name value is))
own-listed (to_right ∷ way) (node place segment own left below right) at serial name value is =
    has_right at (listed left ++ listed_own own ++ listed below) (listed right) (own-listed way right at serial name value is)

module _ (area : List ℕ) (used : ℕ) (tree : Tree) (sound : Sound area used tree) where
  -- ---- it is found by its own name
  pub own-found : (way : List Dir) (at serial : ℕ) (name : List ℕ) (value : Value) → own_of (reached tree way) ≡ entry at serial name value
      → (count : ℕ) × (find_steps area name ≡ accepted (hit at count))
  own-found way at serial name value is =
      let found = look-names way [] tree bare 0 at serial name value sound.rule is in
      (found.0, find-look area name used tree sound ∙ rw (spells tree way at serial name value sound.rule is) found.1)

  -- ---- what is found is an entry of the tree, with exactly that name
  pub found-own : (name : List ℕ) (at count : ℕ) → find_steps area name ≡ accepted (hit at count)
      → (way : List Dir) × (serial : ℕ) × (value : Value) × (own_of (reached tree way) ≡ entry at serial name value)
  found-own name at count e =
      let leads = found-leads (segments name) tree at count (sym (find-look area name used tree sound) ∙ e) in
      let same : leads.name ≡ name =
      one_name leads.name name (spells tree leads.way at leads.serial leads.name leads.value sound.rule leads.own ∙ leads.names) in
      (leads.way, leads.serial, leads.value, leads.own ∙ rw same)

  -- ---- an entry's value is the tree's
  pub value-shown : (way : List Dir) (at serial : ℕ) (name : List ℕ) (value : Value) → own_of (reached tree way) ≡ entry at serial name value
      → (from : ℕ) × (to : ℕ) × (value_steps area at ≡ accepted (bytes from to)) × (part_or_none area (value_steps area at) ≡ value_text value)
  value-shown way at serial name value is =
      let stands = stands-reached way area used [] tree (stands-whole area used tree sound) in
      let read = own-reads area used stands.0 (reached tree way) at serial name value stands.1 is in
      part-shown area at (value_of area at) (value_text value) sound.front.header read.0 read.1

  -- ---- and its name is its own
  pub name-shown : (way : List Dir) (at serial : ℕ) (name : List ℕ) (value : Value) → own_of (reached tree way) ≡ entry at serial name value
      → (from : ℕ) × (to : ℕ) × (name_steps area at ≡ accepted (bytes from to)) × (part_or_none area (name_steps area at) ≡ name)
  name-shown way at serial name value is =
      let stands = stands-reached way area used [] tree (stands-whole area used tree sound) in
      let read = own-reads area used stands.0 (reached tree way) at serial name value stands.1 is in
      part-shown area at (name_of area at) name sound.front.header read.0 read.2

  -- ---- and its serial is the tree's
  pub serial-shown : (way : List Dir) (at serial : ℕ) (name : List ℕ) (value : Value) → own_of (reached tree way) ≡ entry at serial name value → serial_steps area at ≡ accepted serial
  serial-shown way at serial name value is =
      let stands = stands-reached way area used [] tree (stands-whole area used tree sound) in
      let read = own-reads area used stands.0 (reached tree way) at serial name value stands.1 is in
      sym (touch-read area at _ sound.front.header read.0 (accepted serial) (ap accepted (sym read.3)))
