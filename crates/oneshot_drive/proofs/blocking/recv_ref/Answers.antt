-- Proofs of the goals that `recv_ref` leaves.
use Rattle.oneshot_drive.proofs.Endless.{untimed_ran}
use Rattle.oneshot_drive.proofs.blocking.recv_ref.Goals as goal

pub returns-in-Err-clause-run : goal.returns-in-Err-clause-run
returns-in-Err-clause-run g c = untimed_ran c.in-Err.field-0 (rw c.in-Err.is at c.receive.ensures.run)
