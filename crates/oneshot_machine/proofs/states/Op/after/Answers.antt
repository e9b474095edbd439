-- A proof of one goal of `after`. `search` finds it too. With a file of answers the prover
-- offers none for a wrong body.
use Rattle.std.proofs.Common.{rules}
use Rattle.oneshot_machine.proofs.states.Op.after.Goals as goal

pub returns-in-Add : goal.returns-in-Add
returns-in-Add c = search rules
