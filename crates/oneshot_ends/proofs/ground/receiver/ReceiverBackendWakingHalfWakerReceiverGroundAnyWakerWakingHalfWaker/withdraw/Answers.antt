-- Proofs of the goals that `withdraw` of `ReceiverBackend` as a `ReceiverGround` leaves.
use Rattle.std.proofs.Common.{ap, ◌∙◌}
use Rattle.oneshot_ends.proofs.GroundSlots.{own_slot}
use Rattle.oneshot_ends.proofs.OwnWakers.{took_back}
use Rattle.oneshot_ends.proofs.ground.receiver.ReceiverBackendWakingHalfWakerReceiverGroundAnyWakerWakingHalfWaker.withdraw.Goals as goal

pub take_waker-requires : goal.take_waker-requires
take_waker-requires g c = (
  c.requires.0,
  own_slot c.self.inside.freed.value c.self.inside.side.waker (ap (λ s. s.waker) c.self.view_is ∙ c.requires.1)
      (λ e. cc e),
)

pub returns-clause-keeps : goal.returns-clause-keeps
returns-clause-keeps g c =
    took_back c.self.inside.freed.value c.self.inside.side c.take_waker.new.self c.self.view_is
    c.take_waker.ensures.rest
