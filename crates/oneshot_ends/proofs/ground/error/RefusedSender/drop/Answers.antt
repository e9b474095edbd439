-- Proof of the goal that `drop` of `RefusedSender` leaves.
use Rattle.oneshot_ends.proofs.Over.{late_over}
use Rattle.oneshot_ends.proofs.ground.error.RefusedSender.drop.Goals as goal

pub let_go-requires : goal.let_go-requires
let_go-requires g c = late_over c.self.invariant
