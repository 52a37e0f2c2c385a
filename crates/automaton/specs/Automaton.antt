-- What the rollback machine reads, made from a table and from machine words.
use Rattle.std.specs.Prelude.{cond, List, [], ◌∷◌, ◌≢◌, ℕ, eqb, get_or, take, drop}
use Rattle.meaning.specs.Table.{Mode, Table, mode, pair_number, group}
use Rattle.meaning.specs.Meaning.{written}
use Rattle.meaning.specs.Block.{block_output}
use Rattle.automaton.specs.Classes.{starts, class_of}
use Rattle.automaton.specs.States.{State, initial, accept_at_end_of, accept_of, states, target_of}
use Rattle.automaton.specs.Sound.{class_count, accept_at_end_word, accept_word, target_word, block_at, mode_at}
use Rattle.automaton.specs.Layout.{classes_from}

pub record Automaton : Type 0 where
  -- the state that a character leads to; 0 for none
  pub target : ℕ → ℕ → ℕ
  -- a state's *go*: the rule accepted at once, + 1; 0 for none
  pub accept : ℕ → ℕ
  -- a state's *end*: the rule accepted if the input ends here, + 1; 0 for none
  pub accept_at_end : ℕ → ℕ
  pub default : Mode
  -- what a group writes for a word
  pub write : ℕ → List ℕ → List ℕ

-- the state that a word leads to from state q
unfoldable pub after : Automaton → ℕ → List ℕ → ℕ
after A q [] = q
after A q (x ∷ w) = after A (A.target q x) w

-- each character of w has a target, from state q on
abbrev pub Leads : Automaton → ℕ → List ℕ → Type 0
Leads A q [] = Unit {0}
Leads A q (x ∷ w) = (A.target q x ≢ 0) × Leads A (A.target q x) w

-- "with the states, classes and groups defined above from the table"
unfoldable pub from_table : Table → Automaton
from_table t =
    let ss = starts t in
    let qs = states t in
    let state : ℕ → State = λ s. get_or qs s (initial t) in
    record {
      target = λ s c. target_of t qs (state s) (get_or ss (class_of ss c) 0);
      accept = λ s. accept_of t (state s);
      accept_at_end = λ s. accept_at_end_of t (state s);
      default = mode t;
      write = λ g w. written (group t g) w;
    }

unfoldable pub from_words : List ℕ → Automaton
from_words m =
    let ss = take (class_count m) (drop classes_from m) in
    record {
      target = λ s c. target_word m s (class_of ss c);
      accept = λ s. accept_word m s;
      accept_at_end = λ s. accept_at_end_word m s;
      default = mode_at m;
      -- a pair is written unchanged, and has no block
      write = λ g w. cond (eqb g pair_number) w (block_output (block_at m g) w);
    }
