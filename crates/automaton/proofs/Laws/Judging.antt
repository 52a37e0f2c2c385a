-- Request [6] holds of every check: it refuses as compiling does, and calls dead exactly the rules that no input makes the definition choose.
-- An input that shows a rule makes the definition choose it, so a verdict tells dead rules from live ones.
use mathlib.Core.List.{List}
use Rattle.std.specs.Prelude.{Option, None, Some}
use mathlib.Core.Logic.{◌↔◌}
use mathlib.Core.Path.{◌≡◌, sym, ap, subst, ◌∙◌}
use Prim.Native.Nat.{ℕ}
use lib.ListN.{length}
use Rattle.lists.proofs.Laws.Options.{some_same, none_not}
use Rattle.meaning.specs.Refusal.{Outcome, refused, accepted}
use Rattle.meaning.specs.Table.{Table}
use Rattle.meaning.specs.Choices.{Live, Shows, Verdict}
use Rattle.meaning.proofs.Laws.Refusal.{accepted_same, accepted_not, refused_same}
use Rattle.meaning.proofs.Laws.Choices.{number_dead}
use Rattle.automaton.specs.Compile.{compilable, compile_by, compile}
use Rattle.automaton.specs.Witness.{Answers, Exact, RulesChecked}
use Rattle.automaton.proofs.Laws.Compile.{keeping_compilable}

shows_live : (t : Table) (r : ℕ) (v : List ℕ) → Shows t r v → Live t r
shows_live t r v s = record { input = v; characters = s.characters; place = 0; chosen = s.first }

verdict_exact : (t : Table) (r : ℕ) (a : Outcome (Option (List ℕ))) (o : Option (List ℕ)) → a ≡ accepted o → Verdict t r o → Exact t r a
verdict_exact t r a None e d = record {
  live = (λ l. absurd (d l), λ v. absurd (none_not v.0 (accepted_same None (Some v.0) (sym e ∙ v.1))));
  shown = λ v q. absurd (none_not v (accepted_same None (Some v) (sym e ∙ q)));
  number = λ _. e;
  dead = (λ _. d, λ _. e);
}
verdict_exact t r a (Some w) e s =
    let l : Live t r = shows_live t r w s in
    record {
      live = (λ _. (w, e), λ _. l);
      shown = λ v q. subst (Shows t r) (some_same w v (accepted_same (Some w) (Some v) (sym e ∙ q))) s;
      number = λ h. absurd (number_dead t r h l);
      dead = (λ d. absurd (none_not w (accepted_same None (Some w) (sym d ∙ e))), λ d. absurd (d l));
    }

pub rules_checked : RulesChecked
unfolding RulesChecked compile
rules_checked b buffer r a later c = record {
  refusals = λ n. alike (compilable b (length buffer)) c.answer n;
  exact = λ t k h.
      let v = subst (λ o. Answers o r a) (keeping_compilable b (length buffer) t k h) c.answer in
      verdict_exact t r a v.0 v.1 v.2;
}
  where
    alike : (o : Outcome Table) → Answers o r a → (n : ℕ) → (a ≡ refused n) ↔ ((compile_by o buffer).answer ≡ refused n)
    alike (refused m) e n = (λ q. ap refused (refused_same m n (sym e ∙ q)), λ q. e ∙ ap refused (refused_same m n q))
    alike (accepted t) v n = (λ q. absurd (accepted_not v.0 n (sym v.1 ∙ q)), λ q. absurd (accepted_not tt n q))
