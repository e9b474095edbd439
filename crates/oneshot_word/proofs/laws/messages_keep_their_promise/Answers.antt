-- Proofs of the goals that `messages_keep_their_promise` leaves.
use Rattle.oneshot_word.proofs.RuleKeeps.{rule_keeps}
use Rattle.oneshot_word.proofs.laws.messages_keep_their_promise.Goals as goal

pub returns : goal.returns
returns g c = rule_keeps _ _ _
