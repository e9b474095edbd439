-- Proofs of the goals that `peek` of `ReceiverSide` leaves.
use Rattle.oneshot_word.proofs.Names.{subst, receiver_at, ReceiverOwns}
use Rattle.oneshot_word.proofs.RuleRead.{rule_reads, seat_owns}
use Rattle.oneshot_word.proofs.looks.ReceiverSidePeek.peek.Goals as goal

pub returns-clause-rule : goal.returns-clause-rule
returns-clause-rule g c = rule_reads

pub returns-clause-slots : goal.returns-clause-slots
returns-clause-slots g c =
    subst (λ s. ReceiverOwns (receiver_at s.log) s.message s.waker) c.self.view_is (seat_owns c.self.invariant.0.has)
