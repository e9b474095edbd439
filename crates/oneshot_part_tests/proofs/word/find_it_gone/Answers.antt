-- Proofs of the goals that `find_it_gone` leaves.
use Rattle.std.proofs.Common.{rules}
use Rattle.oneshot_part_tests.proofs.Released.{gone_over}
use Rattle.oneshot_part_tests.proofs.word.find_it_gone.Goals as goal

pub returns : goal.returns
returns g c = gone_over c.requires.at c.load-found.ensures (search rules)
