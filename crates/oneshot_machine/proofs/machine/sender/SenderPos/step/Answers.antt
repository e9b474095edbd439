-- A proof of one goal of `step`. `search` finds it too. With a file of answers the prover offers none for a wrong body.
use Rattle.std.proofs.Common.{rules}
use Rattle.oneshot_machine.proofs.machine.sender.SenderPos.step.Goals as goal

pub returns-in-SendAdd : goal.returns-in-SendAdd
returns-in-SendAdd c = search rules
