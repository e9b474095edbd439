-- Proofs of the goals that `drop_message` of `MemorySender` as an `ErrorGround` leaves.
use Rattle.std.proofs.Common.{[], ◌∷◌, ◌++◌, None, refl, ap, ◌∙◌}
use Rattle.oneshot_memory.proofs.SenderMatches.{sender_stays, sender_messages}
use Rattle.oneshot_memory.proofs.sender.MemorySenderErrorGround.drop_message.Goals as goal

pub invariant_of-self : goal.invariant_of-self
invariant_of-self g c =
    sender_stays c.self.inside.events.items c.record.new.events.items _
    (c.record.ensures ∙ ap (λ e. c.self.inside.events.items ++ e ∷ []) c.of-event.ensures) refl
    (sender_messages c.self.invariant None)
