-- Proofs of the goals that `free` of `ReceiverBackend` as a `ReceiverGround` leaves.
use Rattle.std.proofs.Common.{sym, ap, subst, ◌∙◌}
use Rattle.oneshot_machine.specs.Phases.{receiver_at}
use Rattle.oneshot_ends.specs.Grounds.{MayBeFreed}
use Rattle.oneshot_ends.proofs.GroundSlots.{may_free}
use Rattle.oneshot_ends.proofs.ground.receiver.ReceiverBackendWakingHalfWakerReceiverGroundAnyWakerWakingHalfWaker.free.Goals as goal

pub invariant_of-self : goal.invariant_of-self
invariant_of-self g c =
    subst (λ freed. MayBeFreed freed (receiver_at c.self.inside.side.log)) (sym c.of-self-inside.ensures)
    (may_free c.self.inside.freed.value _ _ _ c.owns_its_slots.ensures
    (ap (λ s. s.message) c.self.view_is ∙ c.requires.message)
    (ap (λ s. s.waker) c.self.view_is ∙ c.requires.waker))
