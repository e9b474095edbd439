-- Proofs of the goals that `take_waker` of `SenderBackend` as a `SenderGround` leaves.
use Rattle.std.proofs.Common.{ap, ◌∙◌}
use Rattle.oneshot_ends.proofs.GroundSlots.{own_slot}
use Rattle.oneshot_ends.proofs.ground.sender.SenderBackendSenderGroundAnyWakerWakingHalfWaker.take_waker.Goals as goal

pub take_waker-requires : goal.take_waker-requires
take_waker-requires g c = (
  c.requires.0,
  own_slot c.self.inside.freed.value c.self.inside.side.waker
      (ap (λ s. s.side.waker) c.self.view_is ∙ c.requires.1) (λ e. cc e),
)
