-- Proofs of the goals that `load` of `ReceiverBackend` as a `ReceiverGround` leaves.
use Rattle.oneshot_ends.proofs.OwnWakers.{operated}
use Rattle.oneshot_ends.proofs.GroundSlots.{receiver_unfreed, receiver_can, receiver_stays, receiver_found}
use Rattle.oneshot_ends.proofs.ground.receiver.ReceiverBackendWakingHalfWakerReceiverGroundAnyWakerWakingHalfWaker.load.Goals as goal

pub load-requires : goal.load-requires
load-requires g c =
    receiver_can c.self.inside.freed.value c.self.inside.side c.self.invariant c.self.view_is c.requires

pub invariant_of-self : goal.invariant_of-self
invariant_of-self g c =
    receiver_stays c.self.inside.freed.value c.self.inside.side c.self.invariant c.self.view_is c.requires _

pub returns-clause-finds : goal.returns-clause-finds
returns-clause-finds g c =
    receiver_found c.self.inside.freed.value c.self.inside.side c.self.invariant c.self.view_is c.requires
    c.load.new.self c.load.ensures.finds

pub returns-clause-keeps : goal.returns-clause-keeps
returns-clause-keeps g c =
    operated c.self.inside.freed.value c.self.inside.side c.self.view_is
    (receiver_unfreed c.self.inside.freed.value c.self.inside.side c.self.invariant c.self.view_is c.requires).0
    c.load.new.self c.load.ensures
