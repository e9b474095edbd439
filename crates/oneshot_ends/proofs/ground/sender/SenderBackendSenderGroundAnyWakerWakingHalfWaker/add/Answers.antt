-- Proofs of the goals that `add` of `SenderBackend` as a `SenderGround` leaves.
use Rattle.std.proofs.Common.{ap}
use Rattle.oneshot_ends.proofs.GroundSlots.{sender_can, sender_found}
use Rattle.oneshot_ends.proofs.Taken.{gave_it}
use Rattle.oneshot_ends.proofs.ground.sender.SenderBackendSenderGroundAnyWakerWakingHalfWaker.add.Goals as goal

pub add-requires : goal.add-requires
add-requires g c = sender_can c.self.inside.freed.value c.self.inside.side (ap (λ s. s.side) c.self.view_is) c.requires

pub returns-clause-finds : goal.returns-clause-finds
returns-clause-finds g c =
    sender_found c.self.inside.freed.value c.self.inside.side (ap (λ s. s.side) c.self.view_is) c.requires
    c.add.new.self c.add.ensures.finds

pub returns-clause-gave : goal.returns-clause-gave
returns-clause-gave g c =
    gave_it c.self.inside.freed.value c.self.inside.side (ap (λ s. s.side) c.self.view_is) c.add.ensures
