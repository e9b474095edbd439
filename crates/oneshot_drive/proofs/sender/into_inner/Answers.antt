-- Proofs of the goals that `into_inner` leaves.
use Rattle.oneshot_drive.proofs.SenderRuns.{into_ran}
use Rattle.oneshot_drive.proofs.sender.into_inner.Goals as goal

pub returns-clause-run : goal.returns-clause-run
returns-clause-run g c = into_ran c.take_message-message.result c.take_message-message.ensures.log c.free.ensures.log
