-- Proof of the goal that `dropped` of `ReceiverBackend` leaves.
use Rattle.std.proofs.Common.{sym, ap}
use Rattle.oneshot_ends.proofs.Over.{has_left}
use Rattle.oneshot_ends.proofs.ground.receiver.ReceiverBackend.dropped.Goals as goal

pub let_go-requires : goal.let_go-requires
let_go-requires g c = has_left c.args.self (ap (λ s. s.log) (sym c.self.view_is)) c.requires
