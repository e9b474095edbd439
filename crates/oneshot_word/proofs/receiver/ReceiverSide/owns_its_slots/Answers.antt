-- Proofs of the goals that `owns_its_slots` of `ReceiverSide` leaves.
use Rattle.oneshot_word.proofs.Names.{subst, receiver_at, ReceiverOwns}
use Rattle.oneshot_word.proofs.RuleRead.{seat_owns}
use Rattle.oneshot_word.proofs.receiver.ReceiverSide.owns_its_slots.Goals as goal

pub returns : goal.returns
returns g c =
    subst (λ s. ReceiverOwns (receiver_at s.log) s.message s.waker) c.self.view_is (seat_owns c.self.invariant.0.has)
