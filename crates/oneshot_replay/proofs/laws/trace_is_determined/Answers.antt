-- Proofs of the goals that `trace_is_determined` leaves.
use Rattle.oneshot_replay.proofs.OneTrace.{one_trace}
use Rattle.oneshot_replay.proofs.laws.trace_is_determined.Goals as goal

pub returns : goal.returns
returns g c = one_trace
