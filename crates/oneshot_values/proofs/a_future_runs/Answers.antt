-- Proof of the goal that `a_future_runs` leaves.
use Rattle.oneshot_values.proofs.ValuesRun.{receiver_runs}
use Rattle.oneshot_values.proofs.a_future_runs.Goals as goal

pub returns : goal.returns
returns g c =
    receiver_runs _ _ _ _ c.a_future_has_its_calls.ensures c.a_future_is_in_an_order.ensures
    c.a_future_took_what_it_found.ensures
