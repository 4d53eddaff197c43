-- A freshly formatted area is sound, and holds nothing.
use Prim.Native.Nat.{ℕ, ◌+◌, ◌*◌, ◌≤◌, ◌<◌}
use native.Mathlib.Omega.{arith}
use mathlib.Core.Path.{◌≡◌, refl, ◌∙◌}
use mathlib.Core.Bool.{true}
use mathlib.Core.List.{List}
use lib.ListN.{length, get_or, replicate, length-replicate, get_or-replicate}
use borrow.Author.Tests.{eq-eqb, le-leb}
use Rattle.words.specs.Words.{little_at, little_bytes, put, part}
use Rattle.words.specs.Stores.{run}
use Rattle.words.proofs.Laws.{put-length, put-before, put-after, put_same, length-little}
use Rattle.words.proofs.Promises.{little-put-before, little-put-same, same_self}
use Rattle.layout.specs.Layout.{word_size, header_size, used_field, magic_field, version_field, magic, version, area_min, area_max, format_min, root_at, first_free, place_of, header_word, word_at}
use Rattle.trie.specs.Header.{header_ok}
use Rattle.builder.specs.Fresh.{fresh}
use Rattle.sound.specs.Tree.{leaf, link, cover}
use Rattle.sound.specs.Sound.{TreeAt, TreeRule, Sound}
use Rattle.finding.proofs.NodeReads.{part-holds}

-- a word of zeros
zero_word : (s : List ℕ) (at : ℕ) → ((i : ℕ) → at ≤ i → i < at + word_size → get_or s i 0 ≡ 0) → little_at word_size s at ≡ 0
unfolding little_at
zero_word s at h =
    omega (
      arith,
      h at (omega arith) (omega arith),
      h (at + 1) (omega arith) (omega arith),
      h (at + 1 + 1) (omega arith) (omega arith),
      h (at + 1 + 1 + 1) (omega arith) (omega arith),
    )

module _ (n : ℕ) (low : format_min ≤ n) (high : n ≤ area_max) where
  abbrev blank : List ℕ
  blank = replicate n 0

  abbrev marked : List ℕ
  marked = put blank used_field (little_bytes word_size first_free)

  abbrev stamped : List ℕ
  stamped = put marked magic_field magic

  abbrev whole : List ℕ
  whole = put stamped version_field (little_bytes word_size version)

  fresh-run : fresh n ≡ whole
  unfolding fresh run
  fresh-run = refl

  stamped-length : length stamped ≡ n
  stamped-length = simp put-length (length-replicate {A = ℕ} n 0)

  whole_length : length whole ≡ n
  whole_length = put-length stamped version_field (little_bytes word_size version) ∙ stamped-length

  used-word : header_word whole used_field ≡ first_free
  used-word =
      little-put-before word_size stamped version_field _ used_field (omega arith) ∙ little-put-before word_size marked magic_field magic used_field (omega arith)
      ∙ little-put-same word_size blank used_field first_free (omega (arith, length-replicate {A = ℕ} n 0)) (omega arith)

  magic-part : part whole magic_field (magic_field + length magic) ≡ magic
  magic-part =
      part-holds whole magic_field magic
      (λ k l. put-before stamped version_field _ (magic_field + k) (omega arith)
      ∙ put_same marked magic_field magic k l (simp put-length (omega (arith, length-replicate {A = ℕ} n 0)))) (omega (arith, whole_length))

  version-word : header_word whole version_field ≡ version
  version-word = little-put-same word_size stamped version_field version (omega (arith, stamped-length)) (omega arith)

  whole-ok : header_ok whole ≡ true
  unfolding header_ok
  whole-ok =
      rw (
        le-leb area_min (length whole) (omega (arith, whole_length)),
        le-leb (length whole) area_max (omega (arith, whole_length)),
        magic-part,
        same_self magic,
        eq-eqb (header_word whole version_field) version version-word,
      )

  data-zero : (i : ℕ) → header_size ≤ i → i < n → get_or whole i 0 ≡ 0
  data-zero i h l =
      put-after stamped version_field (little_bytes word_size version) i (omega (arith, length-little word_size version)) ∙ put-after marked magic_field magic i (omega arith)
      ∙ put-after blank used_field (little_bytes word_size first_free) i (omega (arith, length-little word_size first_free)) ∙ get_or-replicate {A = ℕ} n i 0 0 l

  root-word : (k : ℕ) → k < 5 → word_at whole root_at (word_size * k) ≡ 0
  root-word k l = zero_word whole (place_of root_at (word_size * k)) (λ i a b. data-zero i (omega arith) (omega arith))

  pub fresh-sound : Sound (fresh n) first_free leaf
  unfolding link cover TreeAt TreeRule
  fresh-sound = rw fresh-run (record {
    front = record {
      header = whole-ok;
      mark = used-word;
      low = omega arith;
      high = omega (arith, whole_length);
      aligned = refl;
      root = λ k l. root-word k (omega arith);
    };
    top = root-word 4 (omega arith);
    room = λ i. omega arith;
    bytes = tt;
    rule = tt;
  })
