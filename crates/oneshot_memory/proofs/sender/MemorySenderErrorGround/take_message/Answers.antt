-- Proofs of the goals that `take_message` of `MemorySender` as an `ErrorGround` leaves.
use Rattle.std.proofs.Common.{◌≡◌, None, rules, refl}
use Rattle.oneshot_memory.proofs.SenderMatches.{sender_stays, sender_messages}
use Rattle.oneshot_memory.proofs.sender.MemorySenderErrorGround.take_message.Goals as goal

pub invariant_of-self : goal.invariant_of-self
invariant_of-self g c =
    let empty : c.take.new.self ≡ None = search rules in
    rw empty (sender_stays c.self.inside.events.items c.record.new.events.items _ c.record.ensures refl
    (sender_messages c.self.invariant None))
