-- Proof of the goal that `into_future` of `Receiver` leaves.
use Rattle.oneshot_ends.proofs.Over.{idle_at_rest}
use Rattle.oneshot_ends.proofs.receiver.Receiver.into_future.Goals as goal

pub let_go-requires : goal.let_go-requires
let_go-requires g c = idle_at_rest c.self.inside.ground c.self.invariant.rests
