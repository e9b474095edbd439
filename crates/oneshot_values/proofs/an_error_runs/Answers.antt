-- Proof of the goal that `an_error_runs` leaves.
use Rattle.oneshot_values.proofs.ValuesRun.{error_runs}
use Rattle.oneshot_values.proofs.an_error_runs.Goals as goal

pub returns : goal.returns
returns g c = error_runs _ _ c.an_error_is_in_an_order.ensures
