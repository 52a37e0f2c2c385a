-- What is asked of an automaton: of its states and outputs, of its agreement with a table's rules, and of two automata to be alike.
-- These are the hypotheses of the machine's laws; `States` and `Words` show them of the automata made from a table and from sound words.
use mathlib.Core.Bool.{true, false}
use mathlib.Core.List.{List, [], ◌∷◌, ◌++◌}
use mathlib.Core.Logic.{◌≢◌, ◌↔◌}
use mathlib.Core.Path.{◌≡◌, refl}
use Prim.Native.Nat.{ℕ, zero, suc, ◌*◌, ◌≤◌, ◌<◌}
use native.Mathlib.Omega.{arith}
use lib.Dec.{T}
use lib.ListN.{length, get_or}
use Rattle.meaning.specs.Table.{Characters, Paired, Table, present, rule_at, default_number, pair_number}
use Rattle.meaning.proofs.Laws.Prefix.{fits_prefix}
use Rattle.automaton.specs.States.{State, initial, states}
use Rattle.automaton.specs.Automaton.{Automaton}
unfoldable pub use Rattle.automaton.specs.Automaton.{after}
pub use Rattle.automaton.specs.Automaton.{Leads}

-- one more character

pub after_snoc : (A : Automaton) (q : ℕ) (w : List ℕ) (y : ℕ) → after A q (w ++ y ∷ []) ≡ A.target (after A q w) y
unfolding after
after_snoc A q [] y = refl
after_snoc A q (z ∷ w) y = after_snoc A (A.target q z) w y

pub leads_snoc : (A : Automaton) (q : ℕ) (w : List ℕ) (y : ℕ) → Leads A q w → A.target (after A q w) y ≢ 0 → Leads A q (w ++ y ∷ [])
unfolding after
leads_snoc A q [] y l h = (h, tt)
leads_snoc A q (z ∷ w) y l h = (l.0, leads_snoc A (A.target q z) w y l.1 h)

-- n counts the states, of which only those below n are looked at; L bounds their depths
pub record Good (A : Automaton) (L n : ℕ) : Type 0 where
  pub some_state : 0 < n
  pub depth : ℕ → ℕ
  pub depth_0 : depth 0 ≡ 0
  pub accept_0 : A.accept 0 ≡ 0
  pub end_0 : A.accept_at_end 0 ≡ 0
  pub inside : (q x : ℕ) → q < n → A.target q x < n
  pub deeper : (q x : ℕ) → q < n → A.target q x ≢ 0 → depth (A.target q x) ≡ suc (depth q)
  pub shallow : (q : ℕ) → q < n → depth q ≤ L
  pub no_way_on : (q x : ℕ) → q < n → A.accept q ≢ 0 → A.target q x ≡ 0

pub after_inside : (A : Automaton) (L n : ℕ) → Good A L n → (q : ℕ) (w : List ℕ) → q < n → after A q w < n
unfolding after
after_inside A L n G q [] h = h
after_inside A L n G q (x ∷ w) h = after_inside A L n G (A.target q x) w (G.inside q x h)

-- a state that leads on accepts no rule at once
module _ (A : Automaton) (L n : ℕ) (G : Good A L n) where
  pub go_none : (q x : ℕ) → q < n → A.target q x ≢ 0 → A.accept q ≡ 0
  go_none q x h t = split (A.accept q) refl
    where
      split : (g : ℕ) → A.accept q ≡ g → g ≡ 0
      split zero e = refl
      split (suc r) e = absurd (t (G.no_way_on q x h (omega arith)))

-- what may be emitted writes at most E characters, and a pair at most E for each of its two
pub record Short (A : Automaton) (E n : ℕ) : Type 0 where
  pub of_accept : (q r : ℕ) → q < n → A.accept q ≡ suc r → (w : List ℕ) → length (A.write r w) ≤ E
  pub of_end : (q r : ℕ) → q < n → A.accept_at_end q ≡ suc r → (w : List ℕ) → length (A.write r w) ≤ E
  pub of_default : present A.default ≡ true → (w : List ℕ) → length (A.write default_number w) ≤ E
  pub of_pair : A.default ≡ Paired → (x y : ℕ) → length (A.write pair_number (x ∷ y ∷ [])) ≤ E * 2

-- g is 0 if P holds nowhere, else the least number with P, plus 1
abbrev pub Least : (ℕ → Type 0) → ℕ → Type 0
Least P zero = (r : ℕ) → P r → ⊥
Least P (suc r) = P r × ((k : ℕ) → P k → r ≤ k)

-- rule r takes the word w whole
pub record Done (t : Table) (w : List ℕ) (r : ℕ) : Type 0 where
  pub rule : r < length t.rules
  pub size : (rule_at t r).size ≡ length w
  pub takes : T (fits_prefix (rule_at t r).ranges w)

-- and need not be at the input's end
pub record Free (t : Table) (w : List ℕ) (r : ℕ) : Type 0 where
  pub done : Done t w r
  pub free : (rule_at t r).anchored ≡ false

-- the automaton reads the rules of the table
pub record Reads (A : Automaton) (t : Table) : Type 0 where
  pub accept_is : (w : List ℕ) → Characters w → Leads A 0 w → Least (Free t w) (A.accept (after A 0 w))
  pub end_is : (w : List ℕ) → Characters w → Leads A 0 w → Least (Done t w) (A.accept_at_end (after A 0 w))
  pub dead : (w : List ℕ) (x : ℕ) → Characters (w ++ x ∷ []) → Leads A 0 w → A.accept (after A 0 w) ≡ 0 → A.target (after A 0 w) x ≡ 0 →
      (r : ℕ) → r < length t.rules → T (fits_prefix (rule_at t r).ranges (w ++ x ∷ [])) → ⊥

-- state p of A and state q of B accept the same, at once and at the end, and take the same characters
pub record Agreeing (A B : Automaton) (p q : ℕ) : Type 0 where
  pub go : A.accept p ≡ B.accept q
  pub end : A.accept_at_end p ≡ B.accept_at_end q
  pub takes : (x : ℕ) → x < 65536 → (A.target p x ≢ 0) ↔ (B.target q x ≢ 0)

-- every word that A takes from state 0, B takes too, and it leads to states that agree
abbrev pub Along : Automaton → Automaton → Type 0
Along A B = (u : List ℕ) → Characters u → Leads A 0 u → Leads B 0 u × Agreeing A B (after A 0 u) (after B 0 u)

-- two automata that do the same along every word that the first takes, whatever numbers their states have
pub record Alike (A B : Automaton) : Type 0 where
  pub along : Along A B
  pub defaults : A.default ≡ B.default

-- R holds of the two states 0, of states that agree, and of what a character leads to from such
pub record Bisimulation (A B : Automaton) (R : ℕ → ℕ → Type 0) : Type 0 where
  pub first : R 0 0
  pub same : (p q : ℕ) → R p q → Agreeing A B p q
  pub onward : (p q x : ℕ) → R p q → x < 65536 → A.target p x ≢ 0 → R (A.target p x) (B.target q x)

-- two automata that do the same on the states below n, by the same numbers
pub record SameNumbers (A B : Automaton) (n : ℕ) : Type 0 where
  pub targets : (q x : ℕ) → q < n → x < 65536 → A.target q x ≡ B.target q x
  pub accepts : (q : ℕ) → q < n → A.accept q ≡ B.accept q
  pub ends : (q : ℕ) → q < n → A.accept_at_end q ≡ B.accept_at_end q
  pub defaults : A.default ≡ B.default

-- and write the same for words that fit
pub record Writes (A B : Automaton) (t : Table) : Type 0 where
  pub of_rule : (r : ℕ) (w : List ℕ) → Done t w r → A.write r w ≡ B.write r w
  pub of_default : present A.default ≡ true → (x : ℕ) → x < 65536 → A.write default_number (x ∷ []) ≡ B.write default_number (x ∷ [])
  pub of_pair : (x y : ℕ) → A.write pair_number (x ∷ y ∷ []) ≡ B.write pair_number (x ∷ y ∷ [])

abbrev pub state_at : Table → ℕ → State
state_at t s = get_or (states t) s (initial t)
