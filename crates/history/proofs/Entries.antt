-- The entries of a sound area, by name and by the list: what stands in the bytes, what find finds, what listing lists.
use Prim.Native.Nat.{ℕ, zero, suc, ◌+◌, ◌-◌, ◌<◌}
use native.Mathlib.Omega.{arith}
use native.Mathlib.Decide.{dec_lt}
use mathlib.Core.Path.{◌≡◌, sym, ap, subst, ◌∙◌}
use mathlib.Core.Logic.{◌⊎◌, inl, inr}
use mathlib.Core.List.{List, [], ◌∷◌, ◌++◌}
use lib.ListN.{length, get_or, length-append, get_or-append}
use lib.Seq.{get_or-append-add}
use Rattle.words.proofs.Laws.{clash}
use Rattle.names.specs.Names.{segments}
use Rattle.layout.specs.Layout.{serial_field, word_at}
use Rattle.layout.specs.Refusals.{Answer, accepted}
use Rattle.property_area.specs.Find.{hit, find_steps}
use Rattle.property_area.specs.Value.{serial_steps}
use Rattle.property_area.proofs.ValueLaws.{touch-every}
use Rattle.sound.specs.Tree.{Value, Entry, bare, entry, Tree, leaf, node, listed_own, listed}
use Rattle.sound.specs.Sound.{Has, Sound}
use Rattle.sound.specs.Ways.{Dir, to_left, to_below, to_right, toward, reached}
use Rattle.finding.proofs.FindLook.{find-look}
use Rattle.finding.proofs.Spelling.{own_of}
use Rattle.finding.proofs.Promises.{own-found, own-listed, serial-shown}
use Rattle.history.specs.Lack.{entry_of}
use Rattle.history.proofs.Seeking.{seek_found}
use Rattle.history.proofs.Leading.{Leads, seek-leads, seek-name}
use Rattle.finding.proofs.Spelling.{one_name}

-- a serial that is read is the word there
pub serial-word : (area : List ℕ) (at serial : ℕ) → serial_steps area at ≡ accepted serial → word_at area at serial_field ≡ serial
serial-word area at serial =
    touch-every area at (accepted (word_at area at serial_field)) (λ (a : Answer ℕ). a ≡ accepted serial → word_at area at serial_field ≡ serial) (λ why e. clash cc) (λ h t e. cc)

module _ (area : List ℕ) (used : ℕ) (tree : Tree) (sound : Sound area used tree) (name : List ℕ) where
  module _ (at serial : ℕ) (full : List ℕ) (v : Value) (has : entry_of tree name ≡ entry at serial full v) where
    leads : Leads tree (segments name) (entry at serial full v)
    leads = seek-leads at serial full v (segments name) tree has

    pub full_is : full ≡ name
    full_is = one_name full name (seek-name at serial full v (segments name) tree sound.rule has)

    own_is : own_of (reached tree leads.way) ≡ entry at serial full v
    own_is = ap own_of leads.is

    pub entry-serial : serial_steps area at ≡ accepted serial
    entry-serial = serial-shown area used tree sound leads.way at serial full v own_is

    pub entry_found : (count : ℕ) × (find_steps area name ≡ accepted (hit at count))
    entry_found = subst (λ (n : List ℕ). (count : ℕ) × (find_steps area n ≡ accepted (hit at count))) full_is (own-found area used tree sound leads.way at serial full v own_is)

    pub entry_listed : Has at (listed tree)
    entry_listed = own-listed leads.way tree at serial full v own_is

  -- what find finds is that entry
  pub found-entry : (at count : ℕ) → find_steps area name ≡ accepted (hit at count) → (serial : ℕ) × (v : Value) × (entry_of tree name ≡ entry at serial name v)
  found-entry at count f =
      let q = seek_found (segments name) bare tree 0 at count (sym (find-look area name used tree sound) ∙ f) in
      let n = full_is at q.0 q.1 q.2 q.3 in
      (q.0, q.2, q.3 ∙ ap (λ (x : List ℕ). entry at q.0 x q.2) n)

-- ---- the list has nothing else
-- some node has that entry
abbrev Held : Tree → ℕ → Type 0
Held tree at = (way : List Dir) × (serial : ℕ) × (name : List ℕ) × (v : Value) × (own_of (reached tree way) ≡ entry at serial name v)

has_parts : (b : ℕ) (x y : List ℕ) → Has b (x ++ y) → Has b x ⊎ Has b y
has_parts b x y h = by (dec_lt h.0 (length x))
  where
    by : Dec (h.0 < length x) → Has b x ⊎ Has b y
    by (yes l) = inl (h.0, l, sym (get_or-append x y 0 h.0 l) ∙ h.2)
    by (no l) =
        let e : length x + (h.0 - length x) ≡ h.0 = omega arith in
        inr (h.0 - length x, omega (arith, h.1, length-append x y), sym (get_or-append-add x y (h.0 - length x) 0) ∙ ap (λ (k : ℕ). get_or (x ++ y) k 0) e ∙ h.2)

own_held : (own : Entry) (at : ℕ) → Has at (listed_own own) → (serial : ℕ) × (name : List ℕ) × (v : Value) × (own ≡ entry at serial name v)
unfolding listed_own
own_held bare at h = absurd (omega (arith, h.1))
own_held (entry far serial name v) at h = (serial, name, v, ap (λ (k : ℕ). entry k serial name v) (first h.0 h.1 h.2))
  where
    first : (k : ℕ) → k < 1 → get_or (far ∷ []) k 0 ≡ at → far ≡ at
    first zero l e = e
    first (suc k) l e = absurd (omega arith)

module _ (place : ℕ) (segment : List ℕ) (own : Entry) (left below right : Tree) (at : ℕ) where
  held-left : Held left at → Held (node place segment own left below right) at
  unfolding reached toward
  held-left h = (to_left ∷ h.0, h.1, h.2, h.3, h.4)

  held_below : Held below at → Held (node place segment own left below right) at
  unfolding reached toward
  held_below h = (to_below ∷ h.0, h.1, h.2, h.3, h.4)

  held-right : Held right at → Held (node place segment own left below right) at
  unfolding reached toward
  held-right h = (to_right ∷ h.0, h.1, h.2, h.3, h.4)

  held-own : Has at (listed_own own) → Held (node place segment own left below right) at
  unfolding reached
  held-own h = let q = own_held own at h in ([], q.0, q.1, q.2, q.3)

pub listed-held : (tree : Tree) (at : ℕ) → Has at (listed tree) → Held tree at
unfolding listed
listed-held leaf at h = absurd (omega (arith, h.1))
listed-held (node place segment own left below right) at h =
    by (has_parts at (listed left ++ listed_own own ++ listed below) (listed right) h) (listed-held left at) (listed-held below at) (listed-held right at)
  where
    on : Has at (listed left) ⊎ Has at (listed_own own) → (Has at (listed left) → Held left at) → Held (node place segment own left below right) at
    on (inl l) f = held-left place segment own left below right at (f l)
    on (inr o) f = held-own place segment own left below right at o

    mid : Has at (listed left ++ listed_own own) ⊎ Has at (listed below) → (Has at (listed left) → Held left at) → (Has at (listed below) → Held below at) → Held (node place segment own left below right) at
    mid (inl x) f g = on (has_parts at (listed left) (listed_own own) x) f
    mid (inr x) f g = held_below place segment own left below right at (g x)

    by : Has at (listed left ++ listed_own own ++ listed below) ⊎ Has at (listed right) → (Has at (listed left) → Held left at) → (Has at (listed below) → Held below at)
        → (Has at (listed right) → Held right at) → Held (node place segment own left below right) at
    by (inl x) f g k = mid (has_parts at (listed left ++ listed_own own) (listed below) x) f g
    by (inr x) f g k = held-right place segment own left below right at (k x)
