-- Proof of the goal that `received` of `ReceiverBackend` leaves.
use Rattle.std.proofs.Common.{sym, ap}
use Rattle.oneshot_ends.proofs.Over.{has_received}
use Rattle.oneshot_ends.proofs.ground.receiver.ReceiverBackend.received.Goals as goal

pub let_go-requires : goal.let_go-requires
let_go-requires g c = has_received c.args.self (ap (λ s. s.log) (sym c.self.view_is)) c.requires.found
