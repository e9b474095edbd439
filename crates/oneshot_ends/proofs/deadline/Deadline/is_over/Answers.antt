-- A proof of one goal of `is_over`. `search` finds it too. With a file of answers the prover offers none for a wrong
-- body.
use Rattle.std.proofs.Common.{rules}
use Rattle.oneshot_ends.proofs.deadline.Deadline.is_over.Goals as goal

pub returns-in-Some : goal.returns-in-Some
returns-in-Some c = search rules
