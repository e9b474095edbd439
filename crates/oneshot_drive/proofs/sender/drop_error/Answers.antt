-- Proofs of the goals that `drop_error` leaves.
use Rattle.oneshot_drive.proofs.SenderRuns.{error_ran}
use Rattle.oneshot_drive.proofs.sender.drop_error.Goals as goal

pub returns-clause-run : goal.returns-clause-run
returns-clause-run g c = error_ran c.drop_message.ensures.log c.free.ensures.log
