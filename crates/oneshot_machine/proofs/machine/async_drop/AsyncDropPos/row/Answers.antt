-- A proof of one goal of `row`. `search` finds it too. With a file of answers the prover offers none for a wrong body.
use Rattle.std.proofs.Common.{rules}
use Rattle.oneshot_machine.proofs.machine.async_drop.AsyncDropPos.row.Goals as goal

pub returns-in-AsyncSwap-Word-eq1 : goal.returns-in-AsyncSwap-Word-eq1
returns-in-AsyncSwap-Word-eq1 c = search rules
