-- Proof of the goal that `a_run_is_right` leaves.
use Rattle.oneshot_replay.proofs.RunLaws.{is_right}
use Rattle.oneshot_replay.proofs.laws.a_run_is_right.Goals as goal

pub returns : goal.returns
returns g c = is_right
