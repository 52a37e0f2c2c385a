-- Request [10] of every caller of a chain whose calls' contracts tell their outcomes.
-- What such a caller sees is what the outcome function gives, call by call, of which the laws of chains hold.
use mathlib.Core.List.{List}
use mathlib.Core.Logic.{◌≢◌}
use mathlib.Core.Path.{◌≡◌, sym, subst}
use Prim.Native.Nat.{ℕ}
use Rattle.meaning.specs.Refusal.{refused}
use Rattle.reckoning.specs.Session.{fresh}
use Rattle.reckoning.specs.ChainServes.{ChainCaller, ChainsAgree, ChainLimited, ChainEnds, ChainServes}
use Rattle.reckoning.proofs.Laws.InTurn.{Tells, every_list, every_next}
use Rattle.reckoning.proofs.Laws.Chain.{chain_called, both_left, chain_after}
use Rattle.reckoning.proofs.Laws.Chained.{chains_agree, chain_limited, chain_ends}

-- what is asked of a caller of the chain
abbrev pub TellsChain : ChainCaller → Type 0
TellsChain caller = (w₁ w₂ : List ℕ) → Tells (chain_called w₁ w₂) (both_left w₁ w₂) (caller w₁ w₂)

module _ (caller : ChainCaller) (tells : TellsChain caller) where
  agree : ChainsAgree caller
  unfolding ChainsAgree
  agree t₁ t₂ w₁ w₂ C₁ C₂ =
      every_list (chain_called w₁ w₂) (both_left w₁ w₂) (caller w₁ w₂) (tells w₁ w₂) (fresh, fresh) _ (λ cs a. chains_agree t₁ t₂ w₁ w₂ C₁ C₂ cs a)

  limited : ChainLimited caller
  unfolding ChainLimited
  limited t₁ t₂ w₁ w₂ C₁ C₂ =
      every_next (chain_called w₁ w₂) (both_left w₁ w₂) (caller w₁ w₂) (tells w₁ w₂) (fresh, fresh) _
      (λ cs c h k. subst (λ s. (chain_called w₁ w₂ s c).answer ≢ refused 14) (sym (chain_after w₁ w₂ cs fresh fresh)) (chain_limited t₁ w₁ w₂ C₁ cs c h k))

  ends : ChainEnds caller
  unfolding ChainEnds
  ends w₁ w₂ W₁ W₂ =
      every_next (chain_called w₁ w₂) (both_left w₁ w₂) (caller w₁ w₂) (tells w₁ w₂) (fresh, fresh) _
      (λ cs c h. subst (λ s. (chain_called w₁ w₂ s c).answer ≡ refused 13) (sym (chain_after w₁ w₂ cs fresh fresh)) (chain_ends w₁ w₂ W₁ W₂ cs c h))

  -- REQUEST [10]
  pub chain_serves : ChainServes caller
  chain_serves = record { agree = agree; limited = limited; ends = ends }
