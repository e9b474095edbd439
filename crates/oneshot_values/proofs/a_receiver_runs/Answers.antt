-- Proof of the goal that `a_receiver_runs` leaves.
use Rattle.oneshot_values.proofs.ValuesRun.{receiver_runs}
use Rattle.oneshot_values.proofs.a_receiver_runs.Goals as goal

pub returns : goal.returns
returns g c =
    receiver_runs _ _ _ _ c.a_receiver_has_its_calls.ensures c.a_receiver_is_in_an_order.ensures
    c.a_receiver_took_what_it_found.ensures
