-- Proof of the goal that `phases_keep_order` leaves.
use Rattle.oneshot_machine.proofs.InOrders.{order_is}
use Rattle.oneshot_machine.proofs.laws.phases_keep_order.Goals as goal

pub returns : goal.returns
returns c = λ xs ys word reached. order_is reached
