-- Request [7] of document 02, "Terms in any order", for compiling.
use Rattle.std.specs.Prelude.{List, ◌↔◌, ◌≡◌, ℕ}
use Rattle.meaning.specs.Refusal.{accepted}
use Rattle.meaning.specs.Records.{Bytes}
use Rattle.meaning.specs.AnyOrder.{DifferInTerms}
use Rattle.automaton.specs.Compile.{compile}

-- "Two tables that differ only here compile to equal words and are accepted alike": for every buffer, refused tables among them
pub record CompiledAlike : Type 0 where
  pub words : (b c buffer : List ℕ) → Bytes b → Bytes c → DifferInTerms b c → (compile b buffer).words ≡ (compile c buffer).words
  pub answer : (b c buffer : List ℕ) → Bytes b → Bytes c → DifferInTerms b c → ((compile b buffer).answer ≡ accepted tt) ↔ ((compile c buffer).answer ≡ accepted tt)
