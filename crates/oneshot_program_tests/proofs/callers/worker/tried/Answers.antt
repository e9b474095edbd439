-- Proof of the goal that `tried` leaves.
use Rattle.oneshot_values.proofs.ValuesRun.{only_the_last_got}
use Rattle.oneshot_program_tests.proofs.callers.worker.tried.Goals as goal

pub returns : goal.returns
returns g c =
    only_the_last_got c.try_recv-result.result c.calls_add_up.ensures c.a_receiver_has_its_calls.ensures
    c.try_recv-result.ensures.run c.a_receiver_runs.ensures
