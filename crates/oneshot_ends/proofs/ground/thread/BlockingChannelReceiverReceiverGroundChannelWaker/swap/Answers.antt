-- Proofs of the goals that `swap` of `Blocking` as a `ReceiverGround` leaves.
use Rattle.oneshot_ends.proofs.LentGrounds.{blocking_keeps}
use Rattle.oneshot_ends.proofs.ground.thread.BlockingChannelReceiverReceiverGroundChannelWaker.swap.Goals as goal

pub returns-clause-keeps : goal.returns-clause-keeps
returns-clause-keeps g c = blocking_keeps c.swap.ensures.keeps
