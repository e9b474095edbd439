-- Proofs of the goals that `orders_are_runs` leaves.
use Rattle.oneshot_bridge.proofs.StatesRun.{orders_run}
use Rattle.oneshot_bridge.proofs.orders_are_runs.Goals as goal

pub returns : goal.returns
returns g c = orders_run _
