-- Proofs of the goals that `swap` of `SenderBackend` as a `SenderGround` leaves.
use Rattle.std.proofs.Common.{ap, ◌∙◌}
use Rattle.oneshot_machine.specs.Phases.{sender_at}
use Rattle.oneshot_ends.proofs.Owes.{swap_keeps}
use Rattle.oneshot_ends.proofs.GroundSlots.{sender_can, sender_found}
use Rattle.oneshot_ends.proofs.Taken.{gave_it}
use Rattle.oneshot_ends.proofs.ground.sender.SenderBackendSenderGroundAnyWakerWakingHalfWaker.swap.Goals as goal

pub swap-requires : goal.swap-requires
swap-requires g c = sender_can c.self.inside.freed.value c.self.inside.side (ap (λ s. s.side) c.self.view_is) c.requires

pub returns-clause-finds : goal.returns-clause-finds
returns-clause-finds g c =
    sender_found c.self.inside.freed.value c.self.inside.side (ap (λ s. s.side) c.self.view_is) c.requires
    c.swap.new.self c.swap.ensures.finds

pub returns-clause-owed : goal.returns-clause-owed
returns-clause-owed g c = λ waker owed.
    c.swap.ensures.handed
    ∙ swap_keeps (sender_at c.self.inside.side.log) c.args.last c.self.inside.side.handed c.swap.ensures.finds
    ∙ ap (λ s. s.side.handed) c.self.view_is ∙ owed

pub returns-clause-gave : goal.returns-clause-gave
returns-clause-gave g c =
    gave_it c.self.inside.freed.value c.self.inside.side (ap (λ s. s.side) c.self.view_is) c.swap.ensures
