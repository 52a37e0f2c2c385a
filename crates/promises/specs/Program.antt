-- What the program `convert` does from the table's bytes on, as the contract of the one function that `main` calls with them. It reads and writes by
-- std, over C functions whose contracts the kit assumes; no other promise rests on these.
use Rattle.std.specs.Prelude.{[], ◌∷◌}
use Rattle.program.specs.Turns.{Ran}
use Rattle.program.specs.contracts.run.run as run
use Rattle.program.proofs.run.run.Symbol as run_code
use Rattle.promises.specs.EntryPoint.{EntryPoint}

unfoldable pub Program : Type 2
Program = EntryPoint run.ended run_code.name run_code.code (λ κs (rt, (table, _)) ending _. Ran table.now ending ∷ [])
