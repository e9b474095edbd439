-- Proofs of the goals that `is_over` leaves.
use Rattle.oneshot_drive.proofs.Names.{[], ◌∷◌, refl, clocked}
use Rattle.oneshot_drive.proofs.AfterOperations.{stands_on}
use Rattle.oneshot_drive.proofs.Waits.{asked, not_asked}
use Rattle.oneshot_drive.proofs.waiting.is_over.Goals as goal

pub returns-then-timed-clause-path : goal.returns-then-timed-clause-path
returns-then-timed-clause-path g c way = asked way c.over.result c.if-timed.true c.over.ensures.log

pub returns-then-timed-clause-waits : goal.returns-then-timed-clause-waits
returns-then-timed-clause-waits g c =
    stands_on (clocked c.over.result ∷ []) refl c.requires c.over.ensures.log c.over.ensures.message
    c.over.ensures.waker

pub returns-else-timed-clause-path : goal.returns-else-timed-clause-path
returns-else-timed-clause-path g c way = not_asked way (g.G.ReceiverGround.state c.args.g.now).log c.if-timed.false

pub returns-else-timed-clause-keeps : goal.returns-else-timed-clause-keeps
returns-else-timed-clause-keeps g c = g.G.ReceiverGround.keeps_same _
