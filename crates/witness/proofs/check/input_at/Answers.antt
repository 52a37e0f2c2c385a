-- `check::input_at` meets its contract: the places behind the word are 0, so that a character more is the first of these.
-- Assumes nothing.
use mathlib.Core.Bool.{Bool, true, false, cond}
use mathlib.Core.List.{List, [], ◌∷◌, ◌++◌, append-nil}
use mathlib.Core.Path.{◌≡◌, refl, sym, ap, ◌∙◌}
use Prim.Native.Nat.{ℕ, suc, ◌+◌, ◌≤◌}
use native.Mathlib.Omega.{arith}
use lib.Dec.{eqb}
use lib.ListN.{length, length-append}
use Rattle.lists.specs.Lists.{pad}
use Rattle.automaton.specs.Sound.{accept_at_end_word}
use Rattle.automaton.proofs.Laws.Words.{sound_header_lem}
use Rattle.witness.specs.declared.check.Input.{Input}
use Rattle.witness.specs.Judged.{input_of}
use Rattle.witness.specs.bridge.Search.{word_to}
use Rattle.witness.proofs.Laws.Search.{pad_behind}
use Rattle.witness.proofs.check.input_at.Goals as goal
use Rattle.witness.proofs.check.input_at.Goals.{Joined-not-names, then-not-names, else-not-names}

-- the word, and a 0 more unless the end names the rule
input-is : (v places : List ℕ) (n : ℕ) (b : Bool) → places ≡ pad 9 v → n ≡ length v + cond b 0 1 →
    ◌≡◌ {A = Input} (record { length = n; characters = places }) (input_of (v ++ cond b [] (0 ∷ [])))
input-is v places n true e f = λ i. record {
  length = (f ∙ sum ∙ ap length (sym (append-nil v))) i;
  characters = (e ∙ ap (pad 9) (sym (append-nil v))) i;
}
  where
    sum : length v + 0 ≡ length v
    sum = omega arith
input-is v places n false e f = λ i. record {
  length = (f ∙ sym (length-append v (0 ∷ []))) i;
  characters = (e ∙ sym (pad_behind 9 v)) i;
}

pub word_to-length-requires : goal.word_to-length-requires
unfolding pad
word_to-length-requires c = (c.requires, refl)

pub accept_at_end-requires : goal.accept_at_end-requires
accept_at_end-requires c =
    let few = (sound_header_lem c.args.machine.words.all.now c.args.machine.sound).few_states in omega arith

pub overflow_add-length : goal.overflow_add-length
overflow_add-length c = omega (arith, c.word_to-length.ensures.length.1)

-- how long the input is: by a character more where the end does not name the rule
counted : (j : Joined-not-names) → j.if-not-names.length ≡ j.word_to-length.result + cond j.names.result 0 1
counted j = let r = j.word_to-length.result in
    let none : r ≡ r + 0 = omega arith in
    elim j.if-not-names.branch [
      | then-not-names w ↦ w.length-is ∙ ap (λ b. r + cond b 0 1) (sym w.if-not-names.true)
      | else-not-names w ↦ w.length-is ∙ none ∙ ap (λ b. r + cond b 0 1) (sym w.if-not-names.false)
    ]

pub overflow_cast-result : goal.overflow_cast-result
overflow_cast-result c =
    omega (arith, counted (goal.at.overflow_cast-result c).Joined-not-names, at_most c.names.result, c.word_to-length.ensures.length.1)
  where
    at_most : (b : Bool) → cond b 0 1 ≤ 1
    at_most true = omega arith
    at_most false = omega arith

pub returns : goal.returns
returns c =
    let a = c.args in
    let t = c.word_to-length in
    let v = word_to a.machine.words.all.now a.state.0 in
    let b : c.names.result ≡ eqb (accept_at_end_word a.machine.words.all.now a.state.0) (suc a.rule) =
    c.names.ensures ∙ ap (λ x. eqb x (suc a.rule)) c.accept_at_end.ensures in
    input-is v _ c.if-not-names.length c.names.result t.ensures.places (counted (goal.at.returns c).Joined-not-names ∙ ap (λ m. m + cond c.names.result 0 1) t.ensures.length.0)
    ∙ ap (λ b. input_of (v ++ cond b [] (0 ∷ []))) b
