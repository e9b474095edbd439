-- Proofs of the goals that `runs_have_cells` leaves.
use Rattle.oneshot_bridge.proofs.StatesRun.{runs_have_cells}
use Rattle.oneshot_bridge.proofs.runs_have_cells.Goals as goal

pub returns : goal.returns
returns g c = runs_have_cells _
