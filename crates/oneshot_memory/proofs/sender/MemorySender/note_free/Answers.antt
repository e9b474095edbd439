-- Proofs of the goals that `note_free` of `MemorySender` leaves.
use Rattle.std.proofs.Common.{[], ◌∷◌, ◌++◌, refl, ap, ◌∙◌}
use Rattle.oneshot_memory.proofs.SenderMatches.{sender_stays, sender_freed}
use Rattle.oneshot_memory.proofs.sender.MemorySender.note_free.Goals as goal

pub invariant_of-self : goal.invariant_of-self
invariant_of-self g c =
    sender_stays c.self.inside.events.items c.record.new.events.items _
    (c.record.ensures ∙ ap (λ e. c.self.inside.events.items ++ e ∷ []) c.of-event.ensures) refl
    (sender_freed c.self.invariant (ap (λ s. s.state.waker) c.self.view_is ∙ c.requires.waker))
