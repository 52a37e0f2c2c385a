-- Request [10] of the code: what holds of every list of a chain's calls holds of its functions in Rattle.
-- Each contract is an equation with the outcome function, so a call that met it had that outcome.
use mathlib.Core.List.{List}
use mathlib.Core.Path.{◌≡◌, refl, ◌∙◌}
use Prim.Native.Nat.{ℕ}
use Rattle.reckoning.specs.Reckoning.{Call, of_feed, of_finish}
use Rattle.reckoning.specs.Chain.{chained}
use Rattle.reckoning.specs.ChainServes.{ChainServes}
use Rattle.reckoning.proofs.Laws.ChainServes.{TellsChain, chain_serves}
use Rattle.session.specs.Keeping.{session_of}
use Rattle.session.specs.declared.kept.Session.{Session}
use Rattle.chain.specs.Caller.{Made, came, MeetsContract, caller}

came_to : (w₁ w₂ : List ℕ) (s₁ s₂ : Session) (c : Call) (m : Made) → MeetsContract w₁ w₂ s₁ s₂ c m →
    came m ≡ chained w₁ w₂ (session_of s₁) (session_of s₂) (record { call = c; middle = m.middle })
came_to w₁ w₂ s₁ s₂ (of_feed piece buffer) m met = met
came_to w₁ w₂ s₁ s₂ (of_finish buffer) m met = met

tells : TellsChain caller
tells w₁ w₂ = record {
  came = λ held s m is met.
      came_to w₁ w₂ held.0 held.1 m.call m met
      ∙ (λ i. chained w₁ w₂ (is.0 i) (is.1 i) (record { call = m.call; middle = m.middle }));
  leaves = λ held s m is met. (refl, refl);
}

-- REQUEST [10]
pub code_chain_serves : ChainServes caller
code_chain_serves = chain_serves caller tells
