-- Proof of the goal that `what_was_taken_was_given` leaves.
use Rattle.oneshot_ends.proofs.Taken.{took_what_was_given}
use Rattle.oneshot_ends.proofs.laws.what_was_taken_was_given.Goals as goal

pub returns : goal.returns
returns g c = took_what_was_given g.P.Promise.keeps
