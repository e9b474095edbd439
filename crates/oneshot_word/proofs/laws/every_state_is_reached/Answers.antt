-- Proofs of the goals that `every_state_is_reached` leaves.
use Rattle.oneshot_word.proofs.RuleRead.{rule_orders}
use Rattle.oneshot_word.proofs.laws.every_state_is_reached.Goals as goal

pub returns : goal.returns
returns g c = rule_orders
