-- Proofs of the goals that `wakes_of_each_run` leaves.
use Rattle.oneshot_bridge.proofs.Woken.{nobody_waits_in_a_run, wake_is_next_in_a_run, was_dropped, nobody_is_left}
use Rattle.oneshot_bridge.proofs.wakes_of_each_run.Goals as goal

pub returns : goal.returns
returns g c =
    record {
      nobody_waits_in_a_run = nobody_waits_in_a_run _;
      wake_is_next_in_a_run = wake_is_next_in_a_run _;
      was_dropped = was_dropped _;
      nobody_is_left = nobody_is_left _;
    }
