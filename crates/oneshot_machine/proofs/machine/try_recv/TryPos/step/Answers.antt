-- A proof of one goal of `step`. `search` finds it too. With a file of answers the prover offers none for a wrong body.
use Rattle.std.proofs.Common.{rules}
use Rattle.oneshot_machine.proofs.machine.try_recv.TryPos.step.Goals as goal

pub returns-in-Close : goal.returns-in-Close
returns-in-Close c = search rules
