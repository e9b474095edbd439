-- Proofs of the goals that `new` of `ReceiverBackend` leaves.
use Rattle.oneshot_ends.proofs.GroundSlots.{stays_unfreed}
use Rattle.oneshot_ends.proofs.ground.receiver.ReceiverBackend.new.Goals as goal

pub invariant_of-result : goal.invariant_of-result
invariant_of-result g c = stays_unfreed _ _ c.of-freed.ensures
