-- Proofs of the goals that `parker` leaves.
use Rattle.oneshot_ends.specs.Tokens.{undivided}
use Rattle.oneshot_ends.proofs.Tokens.{halved}
use Rattle.oneshot_ends.proofs.token.parker.Goals as goal

pub ruled-requires : goal.ruled-requires
ruled-requires c = undivided

pub split_pass-waking-requires-clause-rule : goal.split_pass-waking-requires-clause-rule
split_pass-waking-requires-clause-rule c = halved _ _ c.in_ok-parker.ensures.1
