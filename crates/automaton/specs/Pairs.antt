-- Request [8] of document 02, "Pairs outside the basic plane", for machine words, one field a sentence.
use Rattle.std.specs.Prelude.{List, [], ◌∷◌, ◌++◌, ◌↔◌, ◌≡◌, ℕ, ◌≤◌, T}
use Rattle.meaning.specs.Table.{Paired, Table, mode, pair_number}
use Rattle.meaning.specs.Block.{at}
use Rattle.automaton.specs.Layout.{words}
use Rattle.automaton.specs.Sound.{expansion_word, sound}
use Rattle.automaton.specs.Automaton.{from_words}

pub record PairWords : Type 0 where
  -- "Header word 5 is 2 for this mode.", and for no other
  pub header : (t : Table) (rest : List ℕ) → (at (words t ++ rest) 5 ≡ 2) ↔ (mode t ≡ Paired)
  pub modes : (w : List ℕ) → T (sound w) → at w 5 ≤ 2
  -- "E is then at least 1, in sound words too."
  pub at_least : (w : List ℕ) → T (sound w) → at w 5 ≡ 2 → 1 ≤ expansion_word w
  -- a pair is written "unchanged" by any words
  pub unchanged : (w : List ℕ) (x y : ℕ) → (from_words w).write pair_number (x ∷ y ∷ []) ≡ x ∷ y ∷ []
