-- Proofs of the goals that `xor` of `SenderBackend` as a `SenderGround` leaves.
use Rattle.std.proofs.Common.{ap}
use Rattle.oneshot_ends.proofs.GroundSlots.{sender_can, sender_found}
use Rattle.oneshot_ends.proofs.ground.sender.SenderBackendSenderGroundAnyWakerWakingHalfWaker.xor.Goals as goal

pub xor-requires : goal.xor-requires
xor-requires g c = sender_can c.self.inside.freed.value c.self.inside.side (ap (λ s. s.side) c.self.view_is) c.requires

pub returns-clause-finds : goal.returns-clause-finds
returns-clause-finds g c =
    sender_found c.self.inside.freed.value c.self.inside.side (ap (λ s. s.side) c.self.view_is) c.requires
    c.xor.new.self c.xor.ensures.finds
