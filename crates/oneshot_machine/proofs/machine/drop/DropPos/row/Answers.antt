-- A proof of one goal of `row`. `search` finds it too. With a file of answers the prover offers none for a wrong body.
use Rattle.std.proofs.Common.{rules}
use Rattle.oneshot_machine.proofs.machine.drop.DropPos.row.Goals as goal

pub returns-in-DropSwap-Word-eq2 : goal.returns-in-DropSwap-Word-eq2
returns-in-DropSwap-Word-eq2 c = search rules
