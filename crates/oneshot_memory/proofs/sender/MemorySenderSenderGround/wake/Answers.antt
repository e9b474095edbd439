-- Proofs of the goals that `wake` of `MemorySender` as a `SenderGround` leaves.
use Rattle.std.proofs.Common.{refl}
use Rattle.oneshot_memory.proofs.Events.{no_word}
use Rattle.oneshot_memory.proofs.SenderMatches.{sender_stays}
use Rattle.oneshot_memory.proofs.sender.MemorySenderSenderGround.wake.Goals as goal

pub invariant_of-self : goal.invariant_of-self
invariant_of-self g c =
    sender_stays c.self.inside.events.items c.record.new.events.items c.handing-event.result c.record.ensures
    (no_word c.handing-event.result _ _ c.handing-event.ensures refl) c.self.invariant
