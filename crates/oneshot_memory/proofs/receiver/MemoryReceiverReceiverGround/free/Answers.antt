-- Proofs of the goals that `free` of `MemoryReceiver` as a `ReceiverGround` leaves.
use Rattle.std.proofs.Common.{[], ◌∷◌, ◌++◌, refl, ap, ◌∙◌}
use Rattle.oneshot_memory.proofs.ReceiverMatches.{receiver_stays, receiver_freed}
use Rattle.oneshot_memory.proofs.receiver.MemoryReceiverReceiverGround.free.Goals as goal

pub invariant_of-self : goal.invariant_of-self
invariant_of-self g c =
    receiver_stays c.self.inside.events.items c.record.new.events.items _
    (c.record.ensures ∙ ap (λ e. c.self.inside.events.items ++ e ∷ []) c.of-event.ensures) refl
    (receiver_freed c.self.invariant (ap (λ s. s.state.message) c.self.view_is ∙ c.requires.message)
    (ap (λ s. s.state.waker) c.self.view_is ∙ c.requires.waker))
