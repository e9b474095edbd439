-- A proof of one goal of `start`. `search` finds it too. With a file of answers the prover
-- offers none for a wrong body.
use Rattle.std.proofs.Common.{rules}
use Rattle.oneshot_machine.proofs.machine.sender.SenderPos.start.Goals as goal

pub returns-in-Drop : goal.returns-in-Drop
returns-in-Drop c = search rules
