-- A proof of one goal of `start`. `search` finds it too. With a file of answers the prover
-- offers none for a wrong body.
use Rattle.std.proofs.Common.{rules}
use Rattle.oneshot_machine.proofs.machine.receiver.ReceiverPos.start.Goals as goal

pub returns-in-RecvDeadline : goal.returns-in-RecvDeadline
returns-in-RecvDeadline c = search rules
