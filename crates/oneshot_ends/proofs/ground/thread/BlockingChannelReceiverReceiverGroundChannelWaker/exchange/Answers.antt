-- Proofs of the goals that `exchange` of `Blocking` as a `ReceiverGround` leaves.
use Rattle.oneshot_ends.specs.Stays.{has_lent_on}
use Rattle.oneshot_ends.proofs.LentGrounds.{blocking_keeps}
use Rattle.oneshot_ends.proofs.ground.thread.BlockingChannelReceiverReceiverGroundChannelWaker.exchange.Goals as goal

pub returns-clause-keeps : goal.returns-clause-keeps
returns-clause-keeps g c = blocking_keeps c.exchange.ensures.keeps

pub returns-clause-has : goal.returns-clause-has
returns-clause-has g c = λ hand has. has_lent_on hand (returns-clause-keeps g c) has
