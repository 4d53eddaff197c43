-- A word stored (a link, the used mark), and a node laid down.
use Prim.Native.Nat.{ℕ, zero, suc, ◌+◌, ◌*◌, ◌≤◌, ◌<◌}
use native.Mathlib.Omega.{arith}
use mathlib.Core.Path.{◌≡◌, ◌∙◌}
use mathlib.Core.List.{List, [], ◌∷◌}
use lib.ListN.{length, get_or}
use Rattle.words.specs.Words.{little_at, little_bytes, put}
use Rattle.words.specs.Stores.{run, word_store}
use Rattle.words.proofs.Laws.{length-little, put-length}
use Rattle.words.proofs.Promises.{little-put-before, little-put-after, little-put-same}
use Rattle.layout.specs.Layout.{word_size, word_max, node_size, namelen_field, prop_field, left_field, right_field, children_field, byte_of, place_of, node_takes}
use Rattle.nodes.specs.Nodes.{node_stores}
use Rattle.sound.specs.Tree.{inside}
use Rattle.sound.specs.Sound.{NodeAt}
use Rattle.history.proofs.Storing.{Changed, StoresIn, within_none, within_word, within_text, run-changed, text-stored, word-before-text}

-- ---- a word
pub record WordSet (area : List ℕ) (place v : ℕ) (b : List ℕ) : Type 0 where
  pub word : little_at word_size b place ≡ v
  pub rest : Changed area b (inside place word_size)

pub link_set : (area : List ℕ) (place v : ℕ) → v ≤ word_max → place + word_size ≤ length area → WordSet area place v (run area (word_store place v ∷ []))
unfolding run
link_set area place v small fits = record {
  word = little-put-same word_size area place v fits (omega arith);
  rest = run-changed area place word_size (word_store place v ∷ []) (within_word place word_size place v [] (omega arith) (omega arith) (within_none place word_size));
}

-- ---- a node: namelen, four zero links, name
pub record NodeLaid (area : List ℕ) (at : ℕ) (name b : List ℕ) : Type 0 where
  pub node : NodeAt b at name (length name ∷ 0 ∷ 0 ∷ 0 ∷ 0 ∷ [])
  pub rest : Changed area b (inside (byte_of at) (node_takes (length name)))

-- a zero link
abbrev none : List ℕ
none = little_bytes word_size 0

module _ (area : List ℕ) (at : ℕ) (name : List ℕ) (fits : byte_of at + node_takes (length name) ≤ length area) (small : length name ≤ word_max) where
  -- its words, as they are stored one after the other
  abbrev linked : List ℕ
  linked = put (put (put (put area (place_of at prop_field) none) (place_of at left_field) none) (place_of at right_field) none) (place_of at children_field) none

  abbrev headed : List ℕ
  headed = put linked (place_of at namelen_field) (little_bytes word_size (length name))

  -- the links stand behind namelen
  link : (field : ℕ) → word_size ≤ field → little_at word_size headed (place_of at field) ≡ little_at word_size linked (place_of at field)
  link field h = little-put-after word_size linked (place_of at namelen_field) _ (place_of at field) (omega (arith, length-little word_size (length name)))

  fields : (k : ℕ) → k < 5 → little_at word_size headed (place_of at (word_size * k)) ≡ get_or (length name ∷ 0 ∷ 0 ∷ 0 ∷ 0 ∷ []) k 0
  fields zero l = little-put-same word_size linked (place_of at namelen_field) (length name) (simp put-length (omega arith)) (omega arith)
  fields (suc zero) l = link prop_field (omega arith)
      ∙ little-put-before word_size _ _ none _ (omega arith) ∙ little-put-before word_size _ _ none _ (omega arith) ∙ little-put-before word_size _ _ none _ (omega arith)
      ∙ little-put-same word_size _ _ 0 (omega arith) (omega arith)
  fields (suc (suc zero)) l = link left_field (omega arith)
      ∙ little-put-before word_size _ _ none _ (omega arith) ∙ little-put-before word_size _ _ none _ (omega arith)
      ∙ little-put-same word_size _ _ 0 (simp put-length (omega arith)) (omega arith)
  fields (suc (suc (suc zero))) l = link right_field (omega arith)
      ∙ little-put-before word_size _ _ none _ (omega arith)
      ∙ little-put-same word_size _ _ 0 (simp put-length (omega arith)) (omega arith)
  fields (suc (suc (suc (suc zero)))) l = link children_field (omega arith)
      ∙ little-put-same word_size _ _ 0 (simp put-length (omega arith)) (omega arith)
  fields (suc (suc (suc (suc (suc k))))) l = absurd (omega arith)

  laid-within : StoresIn (byte_of at) (node_takes (length name)) (node_stores at name)
  unfolding node_stores
  laid-within =
      within_word _ _ (place_of at prop_field) 0 _ (omega arith) (omega arith)
      (within_word _ _ (place_of at left_field) 0 _ (omega arith) (omega arith)
      (within_word _ _ (place_of at right_field) 0 _ (omega arith) (omega arith)
      (within_word _ _ (place_of at children_field) 0 _ (omega arith) (omega arith)
      (within_word _ _ (place_of at namelen_field) (length name) _ (omega arith) (omega arith)
      (within_text _ _ (place_of at node_size) name (omega arith) (omega arith))))))

  pub node-laid : NodeLaid area at name (run area (node_stores at name))
  unfolding node_stores run
  node-laid = record {
    node = record {
      fields = λ k l. word-before-text headed (place_of at node_size) name (place_of at (word_size * k)) (omega arith) ∙ fields k l;
      text = text-stored headed (place_of at node_size) name (simp put-length (omega arith));
    };
    rest = run-changed area (byte_of at) (node_takes (length name)) (node_stores at name) laid-within;
  }
