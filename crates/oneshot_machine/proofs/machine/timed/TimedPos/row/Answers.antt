-- A proof of one goal of `row`. `search` finds it too. With a file of answers the prover offers none for a wrong body.
use Rattle.std.proofs.Common.{rules}
use Rattle.oneshot_machine.proofs.machine.timed.TimedPos.row.Goals as goal

pub returns-in-EndSwap-Word-eq4 : goal.returns-in-EndSwap-Word-eq4
returns-in-EndSwap-Word-eq4 c = search rules
