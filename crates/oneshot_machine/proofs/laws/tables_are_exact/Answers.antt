-- Proofs of the goals that `tables_are_exact` leaves.
use Rattle.oneshot_machine.proofs.ExactTables.{sender_exact, receiver_exact}
use Rattle.oneshot_machine.proofs.laws.tables_are_exact.Goals as goal

pub returns-clause-sender : goal.returns-clause-sender
returns-clause-sender g c = sender_exact g.row.T.Denot g.row.W.Denot

pub returns-clause-receiver : goal.returns-clause-receiver
returns-clause-receiver g c = receiver_exact g.row.T.Denot g.row.W.Denot
