-- Proofs of the goals that `take_message` of `MemoryReceiver` as a `ReceiverGround` leaves.
use Rattle.std.proofs.Common.{◌≡◌, None, rules, refl, ap, ◌∙◌}
use Rattle.oneshot_memory.proofs.ReceiverMatches.{receiver_stays, receiver_emptied}
use Rattle.oneshot_memory.proofs.receiver.MemoryReceiverReceiverGround.take_message.Goals as goal

pub invariant_of-self : goal.invariant_of-self
invariant_of-self g c =
    let empty : c.take.new.self ≡ None = search rules in
    rw empty (receiver_stays c.self.inside.events.items c.record.new.events.items _ c.record.ensures refl
    (receiver_emptied c.self.invariant c.requires.0 (ap (λ s. s.state.message) c.self.view_is ∙ c.requires.1)))
