-- Proofs of the goals that `recv_timeout` of `Receiver` leaves.
use Rattle.oneshot_drive.proofs.LeftReceivers.{closed_in_time, open_too_late}
use Rattle.oneshot_ends.proofs.TimeoutEnds.{with_an_end}
use Rattle.oneshot_ends.proofs.receiver.Receiver.recv_timeout.Goals as goal

pub returns-clause-run : goal.returns-clause-run
returns-clause-run g c = with_an_end c.recv_after.ensures.run.has_end c.recv_after.ensures.run.grew

pub returns-clause-closes : goal.returns-clause-closes
returns-clause-closes g c = closed_in_time c.recv_after.result c.recv_after.ensures.leaves

pub returns-clause-stays_open : goal.returns-clause-stays_open
returns-clause-stays_open g c = open_too_late c.recv_after.result c.recv_after.ensures.leaves
