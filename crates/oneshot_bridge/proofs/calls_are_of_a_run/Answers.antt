-- Proofs of the goals that `calls_are_of_a_run` leaves.
use Rattle.oneshot_bridge.proofs.CallsRun.{calls_run, both_calls_run, one_call_gets}
use Rattle.oneshot_bridge.proofs.calls_are_of_a_run.Goals as goal

pub returns : goal.returns
returns g c = record { received = calls_run _ _; both = both_calls_run _ _; one_gets = one_call_gets _ _ }
