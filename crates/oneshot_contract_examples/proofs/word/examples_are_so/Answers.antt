-- Proofs of the goals that `examples_are_so` leaves.
use Rattle.oneshot_contract_examples.proofs.StateExamples.{states_that_are, states_that_are_not}
use Rattle.oneshot_contract_examples.proofs.ReadExamples.{reads_that_are, reads_that_are_not}
use Rattle.oneshot_contract_examples.proofs.SeatExamples.{slots_as_seen, seats_that_are, seats_that_are_not}
use Rattle.oneshot_contract_examples.proofs.SideExamples.{sides_that_are, sides_that_are_not}
use Rattle.oneshot_contract_examples.proofs.ReceivedExamples.{messages_that_pass, messages_that_do_not, wakers_that_pass, wakers_that_do_not}
use Rattle.oneshot_contract_examples.proofs.OneOrderExamples.{worked_orders, wrong_orders}
use Rattle.oneshot_contract_examples.proofs.word.examples_are_so.Goals as goal

pub returns-clause-states : goal.returns-clause-states
returns-clause-states g c = states_that_are

pub returns-clause-no_states : goal.returns-clause-no_states
returns-clause-no_states g c = states_that_are_not

pub returns-clause-slots : goal.returns-clause-slots
returns-clause-slots g c = slots_as_seen

pub returns-clause-seats : goal.returns-clause-seats
returns-clause-seats g c = seats_that_are

pub returns-clause-no_seats : goal.returns-clause-no_seats
returns-clause-no_seats g c = seats_that_are_not

pub returns-clause-sides : goal.returns-clause-sides
returns-clause-sides g c = sides_that_are

pub returns-clause-no_sides : goal.returns-clause-no_sides
returns-clause-no_sides g c = sides_that_are_not

pub returns-clause-reads : goal.returns-clause-reads
returns-clause-reads g c = reads_that_are

pub returns-clause-no_reads : goal.returns-clause-no_reads
returns-clause-no_reads g c = reads_that_are_not

pub returns-clause-messages : goal.returns-clause-messages
returns-clause-messages g c = messages_that_pass _ _ _

pub returns-clause-no_messages : goal.returns-clause-no_messages
returns-clause-no_messages g c = messages_that_do_not _ _ _

pub returns-clause-wakers : goal.returns-clause-wakers
returns-clause-wakers g c = wakers_that_pass _ _ _

pub returns-clause-no_wakers : goal.returns-clause-no_wakers
returns-clause-no_wakers g c = wakers_that_do_not _ _ _

pub returns-clause-orders : goal.returns-clause-orders
returns-clause-orders g c = worked_orders

pub returns-clause-no_orders : goal.returns-clause-no_orders
returns-clause-no_orders g c = wrong_orders
