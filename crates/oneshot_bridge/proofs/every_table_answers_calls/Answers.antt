-- Proofs of the goals that `every_table_answers_calls` leaves.
use Rattle.oneshot_bridge.proofs.Joined.{tables_are_of_runs}
use Rattle.oneshot_bridge.proofs.every_table_answers_calls.Goals as goal

pub returns : goal.returns
returns g c = tables_are_of_runs _ _ _ _
