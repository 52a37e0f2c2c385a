-- What Definition 7 chooses at each place of an input: "Rules that can never be chosen", "Nothing held without need".
use Rattle.std.specs.Prelude.{Bool, true, false, cond, List, [], ◌∷◌, ◌++◌, ◌≢◌, ◌≡◌, ℕ, zero, suc, ◌-◌, ◌≤◌, eqb, ltb, length}
use Rattle.std.specs.Prelude.{Option, None, Some}
use Rattle.meaning.specs.Table.{Characters, Table, default_number, pair_number}
use Rattle.meaning.specs.Meaning.{Emission, convert}

-- what is chosen at a place: "A choice is a rule, the default on one unit, the default on a pair, or the stop."; the stop is where no rule fits
-- and there is no default
pub data Choice : Type 0 where
  the_rule : ℕ → Choice
  the_default : Choice
  the_pair : Choice
  the_stop : Choice

-- the choice that an emission tells
unfoldable pub choice_of : Emission → Choice
choice_of e = cond (eqb e.group pair_number) the_pair (cond (eqb e.group default_number) the_default (the_rule e.group))

-- a choice made at the first place of what it is made for, and at no other
abbrev pub at_start : ℕ → Choice → Option Choice
at_start zero c = Some c
at_start (suc p) c = None

-- What was chosen at place p of a conversion, by its log and whether the end closed it; none where it made no choice there: within a word
-- that a group was chosen for, at the end, or behind.
unfoldable pub chosen_in : List Emission → Bool → ℕ → Option Choice
chosen_in [] true p = None
chosen_in [] false p = at_start p the_stop
chosen_in (e ∷ log) closed p =
    let n = length e.word in
    let later = chosen_in log closed (p - n) in
    cond (ltb p n) (at_start p (choice_of e)) later

-- what Definition 7 chooses at place p of an input
unfoldable pub chosen_at : Table → List ℕ → ℕ → Option Choice
chosen_at t input p = let c = convert t input in chosen_in c.log c.closed p

-- "some input makes the definition choose it", of any length and anywhere
pub record Live (t : Table) (r : ℕ) : Type 0 where
  pub input : List ℕ
  pub characters : Characters input
  pub place : ℕ
  pub chosen : chosen_at t input place ≡ Some (the_rule r)

-- "dead exactly when no input of any length has the definition choose it anywhere"
abbrev pub Dead : Table → ℕ → Type 0
Dead t r = Live t r → ⊥

-- "such an input, free but of at most 9 characters, on which the rule is the first choice"
pub record Shows (t : Table) (r : ℕ) (v : List ℕ) : Type 0 where
  pub some_character : 1 ≤ length v
  pub few : length v ≤ 9
  pub characters : Characters v
  pub first : chosen_at t v 0 ≡ Some (the_rule r)

-- what may be answered of rule number r: that it is dead, or an input
abbrev pub Verdict : Table → ℕ → Option (List ℕ) → Type 0
Verdict t r None = Dead t r
Verdict t r (Some v) = Shows t r v

-- "there are two ways for the input to go on, ending there included, under which the definition makes different choices" at place p
pub record Undecided (t : Table) (u : List ℕ) (p : ℕ) : Type 0 where
  pub one : List ℕ
  pub other : List ℕ
  pub one_characters : Characters one
  pub other_characters : Characters other
  pub one_choice : Choice
  pub other_choice : Choice
  pub one_chosen : chosen_at t (u ++ one) p ≡ Some one_choice
  pub other_chosen : chosen_at t (u ++ other) p ≡ Some other_choice
  pub differ : one_choice ≢ other_choice

-- What is chosen at place p, or that nothing is, is the same however the input goes on, ending there included.
unfoldable pub Decided : Table → List ℕ → ℕ → Type 0
Decided t u p = (more : List ℕ) → Characters more → chosen_at t (u ++ more) p ≡ chosen_at t u p

-- no place is both
unfoldable pub NeverBoth : Type 0
NeverBoth = (t : Table) (u : List ℕ) (p : ℕ) → Decided t u p → Undecided t u p → ⊥
