-- Proofs of the examples of an order that is unique: the checker computes which ends an order has.
use Rattle.std.proofs.Common.{refl}
use Rattle.oneshot_contract_examples.specs.OneOrderExamples.{WorkedOrders, WrongOrders}

pub worked_orders : WorkedOrders
worked_orders = record { ends = refl; same = record { word = refl; ends = refl } }

pub wrong_orders : WrongOrders
wrong_orders = record { not_apart = λ e. cc e; not_the_same = λ same. cc same.ends }
