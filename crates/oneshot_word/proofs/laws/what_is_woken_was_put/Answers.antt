-- Proofs of the goals that `what_is_woken_was_put` leaves.
use Rattle.oneshot_word.proofs.RuleReceives.{woken_is_put}
use Rattle.oneshot_word.proofs.laws.what_is_woken_was_put.Goals as goal

pub returns : goal.returns
returns g c = woken_is_put _ _ _
