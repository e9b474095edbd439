-- A proof of one goal of `row`. `search` finds it too. With a file of answers the prover offers none for a wrong body.
use Rattle.std.proofs.Common.{rules}
use Rattle.oneshot_machine.proofs.machine.future.FuturePos.row.Goals as goal

pub returns-in-AgainExchange-Word-eq0 : goal.returns-in-AgainExchange-Word-eq0
returns-in-AgainExchange-Word-eq0 c = search rules
