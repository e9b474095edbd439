-- Proofs of the goals that `take_message` of `ReceiverBackend` as a `ReceiverGround` leaves.
use Rattle.oneshot_ends.proofs.OwnWakers.{took_out}
use Rattle.oneshot_ends.proofs.ground.receiver.ReceiverBackendWakingHalfWakerReceiverGroundAnyWakerWakingHalfWaker.take_message.Goals as goal

pub returns-clause-keeps : goal.returns-clause-keeps
returns-clause-keeps g c =
    took_out c.self.inside.freed.value c.self.inside.side c.take_message.new.self c.self.view_is
    c.take_message.ensures.rest
