-- Proofs of the goals that `examples_are_so` leaves.
use Rattle.oneshot_values.proofs.ValueExamples.{worked_values, wrong_values}
use Rattle.oneshot_values.proofs.examples_are_so.Goals as goal

pub returns : goal.returns
returns g c = record { worked = λ m. worked_values m; wrong = λ m. wrong_values m }
