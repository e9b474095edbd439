-- Proofs of the goals that `what_is_received_was_sent` leaves.
use Rattle.oneshot_word.proofs.RuleReceives.{received_is_sent}
use Rattle.oneshot_word.proofs.laws.what_is_received_was_sent.Goals as goal

pub returns : goal.returns
returns g c = received_is_sent _ _ _
