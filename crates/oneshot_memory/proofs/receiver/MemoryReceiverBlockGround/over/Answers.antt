-- Proofs of the goals that `over` of `MemoryReceiver` as a `BlockGround` leaves.
use Rattle.std.proofs.Common.{[], ◌∷◌, ◌++◌, refl, ap, ◌∙◌}
use Rattle.oneshot_memory.proofs.ReceiverMatches.{receiver_stays}
use Rattle.oneshot_memory.proofs.receiver.MemoryReceiverBlockGround.over.Goals as goal

pub invariant_of-self : goal.invariant_of-self
invariant_of-self g c =
    receiver_stays c.self.inside.events.items c.record.new.events.items _
    (c.record.ensures ∙ ap (λ e. c.self.inside.events.items ++ e ∷ []) c.of-event.ensures) refl c.self.invariant
