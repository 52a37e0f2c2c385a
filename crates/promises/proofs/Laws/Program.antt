-- The program does what is written down for it.
-- It is the theorem of the function's own crate, since the contract there is this one.
use Rattle.program.proofs.run.run.Met as run
use Rattle.promises.specs.Program.{Program}

pub program : Program
unfolding Program
program = λ M. run.met
