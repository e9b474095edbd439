-- Proofs of the goals that `examples_are_so` leaves.
use Rattle.std.proofs.Common.{refl}
use Rattle.oneshot_machine.proofs.laws.examples_are_so.Goals as goal

pub returns : goal.returns
returns c = record { goes = refl; answers = refl; goes_on = refl; ends = refl }
