-- Proofs of the goals that `give` of `ReceiverBackend` leaves.
use Rattle.std.proofs.Common.{sym, ap, ◌∙◌}
use Rattle.oneshot_machine.specs.Phases.{receiver_at}
use Rattle.oneshot_ends.specs.OwnWakers.{is_waiting}
use Rattle.oneshot_ends.proofs.TaskWakers.{idle_with_room}
use Rattle.oneshot_ends.proofs.ground.receiver.ReceiverBackend+T+WakingHalf+Waker+P.give.Goals as goal

pub returns-clause-idle : goal.returns-clause-idle
returns-clause-idle g c =
    ap (λ s. is_waiting (receiver_at s.log)) (sym c.self.view_is)
    ∙ idle_with_room c.self.inside.freed.value (receiver_at c.self.inside.side.log) c.self.inside.side.waker
    c.owns_its_slots.ensures (ap (λ s. s.waker) c.self.view_is ∙ c.requires)
