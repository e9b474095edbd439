-- Proofs of the goals that `withdraw` of `Blocking` as a `ReceiverGround` leaves.
use Rattle.std.proofs.Common.{Some}
use Rattle.oneshot_ends.specs.Stays.{has_lent_on}
use Rattle.oneshot_ends.proofs.LentGrounds.{blocking_keeps}
use Rattle.oneshot_ends.proofs.ground.thread.BlockingChannelReceiverReceiverGroundChannelWaker.withdraw.Goals as goal

pub returns-clause-keeps : goal.returns-clause-keeps
returns-clause-keeps g c = blocking_keeps c.withdraw.ensures.keeps

pub returns-clause-has : goal.returns-clause-has
returns-clause-has g c = λ waker has. has_lent_on (Some waker) (returns-clause-keeps g c) has
