-- Proofs of the goals that `recv` of `Receiver` leaves.
use Rattle.std.proofs.Common.{refl, ap, rules}
use Rattle.oneshot_machine.specs.declared.machine.receiver.ReceiverStart.TheVariants.{Recv}
use Rattle.oneshot_drive.proofs.LeftPhases.{begins_closed, ended_somewhere, recv_over, stays_closed}
use Rattle.oneshot_ends.proofs.EndViews.{same_steps}
use Rattle.oneshot_ends.proofs.GrewByRuns.{closed_before}
use Rattle.oneshot_ends.proofs.Over.{has_received, over_idle}
use Rattle.oneshot_ends.proofs.OwnWakers.{has_lent}
use Rattle.oneshot_ends.proofs.receiver.Receiver.recv.Goals as goal

pub recv-result-requires-clause-has : goal.recv-result-requires-clause-has
recv-result-requires-clause-has g c =
    has_lent c.self.inside.hand (ap (λ r. r.now) c.lend-lent.ensures.ground)
    (ap (λ r. r.now) c.lend-lent.ensures.parker) c.self.invariant.halves c.self.invariant.half

pub returns-clause-stays_closed : goal.returns-clause-stays_closed
returns-clause-stays_closed g c closed =
    recv_over c.recv-result.result (stays_closed Recv c.recv-result.ensures.run (begins_closed _
    (closed_before _ (ap (λ r. r.now) c.lend-lent.ensures.ground) (same_steps c.self.view_is) closed))
    (ended_somewhere c.recv-result.ensures.found))

pub let_go-requires : goal.let_go-requires
let_go-requires g c =
    let idle = over_idle (has_received c.recv-result.new.g.ground.now refl c.recv-result.ensures.found) in
    search (rules, idle)
