-- Proofs of the goals that `take_waker` of `MemorySender` as a `SenderGround` leaves.
use Rattle.std.proofs.Common.{◌≡◌, None, rules, refl, ap, ◌∙◌}
use Rattle.oneshot_memory.proofs.Events.{no_word}
use Rattle.oneshot_memory.proofs.SenderMatches.{sender_stays, sender_emptied, sender_outlasts}
use Rattle.oneshot_memory.proofs.sender.MemorySenderSenderGround.take_waker.Goals as goal

pub invariant_of-self : goal.invariant_of-self
invariant_of-self g c =
    let empty : c.take.new.self ≡ None = search rules in
    rw (empty, c.outlasted-self-inside.ensures)
    (sender_outlasts (sender_stays c.self.inside.events.items c.record.new.events.items c.handing-event.result
    c.record.ensures (no_word c.handing-event.result _ _ c.handing-event.ensures refl)
    (sender_emptied c.self.invariant c.requires.0 (ap (λ s. s.state.waker) c.self.view_is ∙ c.requires.1)))
    c.self.inside.meanwhile)
