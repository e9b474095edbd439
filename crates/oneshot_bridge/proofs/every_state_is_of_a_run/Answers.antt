-- Proofs of the goals that `every_state_is_of_a_run` leaves.
use Rattle.oneshot_bridge.proofs.StatesRun.{states_run}
use Rattle.oneshot_bridge.proofs.every_state_is_of_a_run.Goals as goal

pub returns : goal.returns
returns g c = states_run _
