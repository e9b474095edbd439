-- Proofs of the goals that `write_waker` of `MemoryReceiver` as a `WaitGround` leaves.
use Rattle.std.proofs.Common.{Some, refl, ap, ◌∙◌}
use Rattle.oneshot_memory.proofs.Events.{no_word}
use Rattle.oneshot_memory.proofs.Memory.{slot_vacant}
use Rattle.oneshot_memory.proofs.ReceiverMatches.{receiver_stays, receiver_wakers}
use Rattle.oneshot_memory.proofs.receiver.MemoryReceiverWaitGround.write_waker.Goals as goal

pub invariant_of-self : goal.invariant_of-self
invariant_of-self g c =
    let own =
    slot_vacant c.self.inside.owns_waker c.self.inside.waker
    (ap (λ s. s.state.waker) c.self.view_is ∙ c.requires.slot) in
    receiver_stays c.self.inside.events.items c.record.new.events.items c.handing-event.result c.record.ensures
    (no_word c.handing-event.result _ _ c.handing-event.ensures refl)
    (receiver_wakers c.self.invariant (Some c.args.waker) own)
