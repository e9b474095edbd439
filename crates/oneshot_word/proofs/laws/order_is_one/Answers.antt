-- Proofs of the goals that `order_is_one` leaves.
use Rattle.oneshot_word.proofs.OneOrder.{order_is_one}
use Rattle.oneshot_word.proofs.laws.order_is_one.Goals as goal

pub returns : goal.returns
returns c = order_is_one
