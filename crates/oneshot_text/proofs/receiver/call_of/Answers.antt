-- A proof of one goal of `call_of`. `search` finds it too. With a file of answers the prover
-- offers none for a wrong body.
use Rattle.std.proofs.Common.{rules}
use Rattle.oneshot_text.proofs.receiver.call_of.Goals as goal

pub returns-in-timeout : goal.returns-in-timeout
returns-in-timeout c = search rules
