-- An order by the rows of both phases' tables is an order.
use Rattle.std.proofs.Common.{ℕ, List}
use Rattle.oneshot_machine.specs.Noted.{Noted}
use Rattle.oneshot_machine.specs.Orders.{InOrder, none_made, by_sender, by_receiver, Reaches, nothing_made, sender_makes, receiver_makes}

pub order_is : {xs ys : List Noted} {word : ℕ} → Reaches xs ys word → InOrder xs ys word
order_is nothing_made = none_made
order_is (sender_makes op order row) = by_sender op (order_is order)
order_is (receiver_makes op order row) = by_receiver op (order_is order)
