-- The lines of the entries that a sound area lists are the lines of its tree: name and value of each are read from the bytes.
use Prim.Native.Nat.{ℕ}
use mathlib.Core.Path.{◌≡◌, refl, sym}
use mathlib.Core.Bool.{true}
use mathlib.Core.List.{List, [], ◌∷◌, ◌++◌, append_assoc, append-nil}
use Rattle.names.specs.Names.{dot}
use Rattle.trie.specs.Header.{header_ok}
use Rattle.property_info.specs.Entry.{name_of, value_of}
use Rattle.sound.specs.Tree.{Entry, bare, entry, Tree, leaf, node, listed_own, listed}
use Rattle.sound.specs.Sound.{Sound}
use Rattle.finding.specs.Look.{value_text}
use Rattle.finding.proofs.NodeReads.{Standing, stands-whole, stands-left, stands-below, stands-right}
use Rattle.finding.proofs.Spelling.{own_of}
use Rattle.finding.proofs.ValueReads.{part-shown, own-reads}
use Rattle.dumping.specs.Dump.{entry_line, entry_lines}
use Rattle.printed.specs.Printed.{own_line, tree_lines}

lines-append : (area a b : List ℕ) → entry_lines area (a ++ b) ≡ entry_lines area a ++ entry_lines area b
unfolding entry_lines
lines-append area [] b = refl
lines-append area (at ∷ a) b = rw (lines-append area a b) (sym (append_assoc (entry_line area at) (entry_lines area a) (entry_lines area b)))

-- ---- the own entry of a subtree's top, and all below a dotted prefix
module _ (area : List ℕ) (used : ℕ) (header : header_ok area ≡ true) where
  own-lines : (prefix : List ℕ) (tree : Tree) (own : Entry) → Standing area used prefix tree → own_of tree ≡ own → entry_lines area (listed_own own) ≡ own_line own
  unfolding entry_lines entry_line listed_own own_line
  own-lines prefix tree bare stands is = refl
  own-lines prefix tree (entry at serial name value) stands is =
      let read = own-reads area used prefix tree at serial name value stands is in
      let named = part-shown area at (name_of area at) name header read.0 read.2 in
      let valued = part-shown area at (value_of area at) (value_text value) header read.0 read.1 in
      rw (named.3, valued.3) (append-nil _)

  standing-lines : (prefix : List ℕ) (tree : Tree) → Standing area used prefix tree → entry_lines area (listed tree) ≡ tree_lines tree
  unfolding entry_lines listed tree_lines
  standing-lines prefix leaf stands = refl
  standing-lines prefix (node at name own left below right) stands =
      rw (
        lines-append area (listed left ++ listed_own own ++ listed below) (listed right),
        lines-append area (listed left ++ listed_own own) (listed below),
        lines-append area (listed left) (listed_own own),
        own-lines prefix (node at name own left below right) own stands refl,
        standing-lines prefix left (stands-left area used prefix at name own left below right stands),
        standing-lines (prefix ++ name ++ dot ∷ []) below (stands-below area used prefix at name own left below right stands),
        standing-lines prefix right (stands-right area used prefix at name own left below right stands),
      )

pub tree-lines : (area : List ℕ) (used : ℕ) (tree : Tree) → Sound area used tree → entry_lines area (listed tree) ≡ tree_lines tree
tree-lines area used tree sound = standing-lines area used sound.front.header [] tree (stands-whole area used tree sound)
