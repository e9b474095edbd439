-- Proofs of the goals that `finish` leaves.
use Rattle.oneshot_part_tests.proofs.Released.{swapped_over}
use Rattle.oneshot_part_tests.proofs.word.finish.Goals as goal

pub returns : goal.returns
returns g c = swapped_over c.args.last c.args.sender.now c.swap-word.new.self c.swap-word.ensures
