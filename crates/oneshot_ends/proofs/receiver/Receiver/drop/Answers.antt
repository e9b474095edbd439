-- Proof of the goal that `drop` of `Receiver` leaves.
use Rattle.std.proofs.Common.{refl}
use Rattle.oneshot_ends.proofs.Over.{has_left, over_idle}
use Rattle.oneshot_ends.proofs.receiver.Receiver.drop.Goals as goal

pub let_go-requires : goal.let_go-requires
let_go-requires g c = over_idle (has_left c.drop_receiver.new.g refl c.drop_receiver.ensures.left)
