-- Proof of the goal that `dropped` of `SenderBackend` leaves.
use Rattle.std.proofs.Common.{sym, ap}
use Rattle.oneshot_ends.proofs.Over.{sender_over}
use Rattle.oneshot_ends.proofs.ground.sender.SenderBackend.dropped.Goals as goal

pub let_go-requires : goal.let_go-requires
let_go-requires g c = sender_over c.args.self.side (ap (λ s. s.side.log) (sym c.self.view_is)) c.requires.over
