-- What it is to be an entry point: a function that meets a contract which asks nothing of its caller and says just this. Of a function the kit
-- makes `ended`, its signature, `name`, by which the machine calls it, and `code`, its code with that of all that it calls.
use Rattle.std.specs.Prelude.{List, [], ◌∷◌}
use seplogic.Ra.Ura.{Ura}
use base.Logic.{SProp}
use prog.Model.{Model}
use prog.Wired.{Wired, Code}
use mir.Syntax.{Callee}
use types.Logic.{Logic}
use contract.Lifetimes.{Lfts}
use contract.Notation.{connectives}
use contract.Running.{Running}
use denote.Triple.Entry.{Args, Res}
use denote.Triple.Clauses.{Ended, AtExit, Clauses, closing}
use denote.Triple.Spec.{Meets}

-- what is said of the arguments as found, of the result, and of the arguments as left: a fact for each `ensures`
abbrev pub Says : Ended → Type 1
Says T = (κs : Lfts T.signature.lifetimes) → Args T.signature κs → Res T.signature κs → AtExit T κs → List (Type 0)

-- the facts together
abbrev pub facts : {M : Type 1} (𝓤 : Ura M) → List (Type 0) → SProp 𝓤
facts 𝓤 [] = (connectives 𝓤).⊤ₛ
facts 𝓤 (P ∷ []) = (connectives 𝓤).⌜◌⌝ P
facts 𝓤 (P ∷ Q ∷ Qs) = (connectives 𝓤).◌∗◌ ((connectives 𝓤).⌜◌⌝ P) (facts 𝓤 (Q ∷ Qs))

-- the contract that asks nothing, `requires` being the assertion that always holds, and says these
abbrev pub stating : {M : Type 1} (𝓤 : Ura M) (T : Ended) → Says T → Clauses 𝓤 T
stating 𝓤 T says κs found =
    record { ghost = Unit {0}; requires = λ g. (connectives 𝓤).⊤ₛ; ensures = λ g result left. facts 𝓤 (says κs found result left) }

-- A call of the function is safe, ends and leaves what the contract says: `Meets`, the kit's notion, in every model of memory and of ghost state,
-- on every machine that has the function's code (`Wired`).
abbrev pub EntryPoint : (T : Ended) → Callee → Code → Says T → Type 2
EntryPoint T name code says =
    (M : Type 1) (𝓤 : Ura M) (𝓛 : Logic 𝓤) (𝓜 : Model 𝓤 𝓛.H) (𝓡 : Running 𝓤 𝓛.H 𝓜) → Wired 𝓡.env code →
    Meets 𝓛 T.signature (𝓡.run (𝓡.env name)) (closing 𝓛 T (stating 𝓤 T says))
