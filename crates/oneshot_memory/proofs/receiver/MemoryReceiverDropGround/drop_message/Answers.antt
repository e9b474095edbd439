-- Proofs of the goals that `drop_message` of `MemoryReceiver` as a `DropGround` leaves.
use Rattle.std.proofs.Common.{[], ◌∷◌, ◌++◌, refl, ap, ◌∙◌}
use Rattle.oneshot_memory.proofs.ReceiverMatches.{receiver_stays, receiver_emptied}
use Rattle.oneshot_memory.proofs.receiver.MemoryReceiverDropGround.drop_message.Goals as goal

pub invariant_of-self : goal.invariant_of-self
invariant_of-self g c =
    receiver_stays c.self.inside.events.items c.record.new.events.items _
    (c.record.ensures ∙ ap (λ e. c.self.inside.events.items ++ e ∷ []) c.of-event.ensures) refl
    (receiver_emptied c.self.invariant c.requires.0 (ap (λ s. s.state.message) c.self.view_is ∙ c.requires.1))
