-- Proofs of the goals that `runs_are_in_order` leaves.
use Rattle.oneshot_bridge.proofs.RunOrder.{runs_are_in_order, worked_order, wrong_order}
use Rattle.oneshot_bridge.proofs.runs_are_in_order.Goals as goal

pub returns : goal.returns
returns g c = record { law = runs_are_in_order _; worked = λ m. worked_order m; wrong = λ m. wrong_order m }
