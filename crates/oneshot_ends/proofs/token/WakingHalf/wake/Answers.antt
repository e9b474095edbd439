-- Proofs of the goals that `wake` of `WakingHalf` leaves.
use Rattle.oneshot_ends.proofs.Tokens.{can_give}
use Rattle.oneshot_ends.proofs.token.WakingHalf.wake.Goals as goal

pub unpark_as-requires-clause-rule : goal.unpark_as-requires-clause-rule
unpark_as-requires-clause-rule c = can_give c.args.self.pass.id _ c.args.self.not_given
