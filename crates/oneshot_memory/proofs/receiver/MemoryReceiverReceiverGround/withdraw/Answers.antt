-- Proofs of the goals that `withdraw` of `MemoryReceiver` as a `ReceiverGround` leaves.
use Rattle.std.proofs.Common.{◌≡◌, None, rules, refl, ap, ◌∙◌}
use Rattle.oneshot_memory.proofs.Events.{no_word}
use Rattle.oneshot_memory.proofs.Memory.{slot_held}
use Rattle.oneshot_memory.proofs.ReceiverMatches.{receiver_stays, receiver_wakers}
use Rattle.oneshot_memory.proofs.receiver.MemoryReceiverReceiverGround.withdraw.Goals as goal

pub invariant_of-self : goal.invariant_of-self
invariant_of-self g c =
    let own =
    slot_held c.self.inside.owns_waker c.self.inside.waker c.requires.0
    (ap (λ s. s.state.waker) c.self.view_is ∙ c.requires.1) in
    let empty : c.take.new.self ≡ None = search rules in
    rw empty (receiver_stays c.self.inside.events.items c.record.new.events.items c.handing-event.result
    c.record.ensures (no_word c.handing-event.result _ _ c.handing-event.ensures refl)
    (receiver_wakers c.self.invariant None own))
