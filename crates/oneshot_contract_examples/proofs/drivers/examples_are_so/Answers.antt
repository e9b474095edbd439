-- Proofs of the goals that `examples_are_so` leaves.
use Rattle.oneshot_contract_examples.proofs.DriverExamples.{phases_that_are, phases_that_are_not, calls_that_leave, calls_that_do_not, replies_that_are, hands_that_are, hands_that_are_not}
use Rattle.oneshot_contract_examples.proofs.GroundExamples.{grounds_that_are, grounds_that_are_not, wakers_that_are, wakers_that_are_not}
use Rattle.oneshot_contract_examples.proofs.drivers.examples_are_so.Goals as goal

pub returns : goal.returns
returns c =
    record {
      ends = phases_that_are;
      no_ends = phases_that_are_not;
      calls = calls_that_leave;
      no_calls = calls_that_do_not;
      replies = replies_that_are;
      hands = hands_that_are;
      no_hands = hands_that_are_not;
      grounds = grounds_that_are;
      no_grounds = grounds_that_are_not;
      wakers = wakers_that_are;
      no_wakers = wakers_that_are_not;
    }
