-- Proofs of the goals that `peek` of `SenderSide` leaves.
use Rattle.oneshot_word.proofs.Names.{subst, sender_at, SenderOwns}
use Rattle.oneshot_word.proofs.RuleRead.{rule_reads, seat_owns}
use Rattle.oneshot_word.proofs.looks.SenderSidePeek.peek.Goals as goal

pub returns-clause-rule : goal.returns-clause-rule
returns-clause-rule g c = rule_reads

pub returns-clause-slots : goal.returns-clause-slots
returns-clause-slots g c =
    subst (λ s. SenderOwns (sender_at s.log) s.message s.waker) c.self.view_is (seat_owns c.self.invariant.0.has)
