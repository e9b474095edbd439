-- Proofs of the goals that `try_recv` of `Receiver` leaves.
use Rattle.std.proofs.Common.{refl}
use Rattle.oneshot_machine.specs.declared.machine.receiver.ReceiverStart.TheVariants.{TryRecv}
use Rattle.oneshot_drive.specs.BetweenCalls.{Leaves, try_recv_reply}
use Rattle.oneshot_drive.specs.Polls.{unpolled}
use Rattle.oneshot_drive.proofs.LeftPhases.{begins_closed, polled_somewhere, resting, leaves, stays_closed, tried_over, ready_still}
use Rattle.oneshot_drive.proofs.LeftReceivers.{closed_tried, open_tried}
use Rattle.oneshot_ends.proofs.CallsAnswered.{one_answered}
use Rattle.oneshot_ends.proofs.EndViews.{same_steps, same_about, same_took, kept_about}
use Rattle.oneshot_ends.proofs.GrewByRuns.{grew_by, closed_before, at_end, try_recv_few}
use Rattle.oneshot_ends.proofs.Taken.{rests_so, took_by, tried_takes}
use Rattle.oneshot_ends.proofs.receiver.Receiver.try_recv.Goals as goal

pub invariant_of-self : goal.invariant_of-self
invariant_of-self g c =
    record {
      rests = c.try_recv.ensures.rests;
      ready = ready_still c.try_recv.ensures.run (resting c.try_recv.ensures.rests) c.self.invariant.ready;
      calls = one_answered TryRecv refl c.self.invariant.calls
          (grew_by {own = c.self.inside.ground} refl refl c.try_recv.new.g TryRecv c.try_recv.ensures.run);
      halves = c.try_recv.ensures.keeps.halves _ c.self.invariant.halves;
      half = c.self.invariant.half;
      took = c.try_recv.ensures.keeps.taken.found c.self.invariant.took;
    }

pub returns-clause-run : goal.returns-clause-run
returns-clause-run g c =
    grew_by {own = c.self.inside.ground} refl (same_steps c.self.view_is) c.try_recv.new.g TryRecv
    c.try_recv.ensures.run

pub returns-clause-leaves : goal.returns-clause-leaves
returns-clause-leaves g c = at_end _ (Leaves (try_recv_reply c.try_recv.result)) c.try_recv.new.g
    (leaves TryRecv c.try_recv.ensures.run refl (resting c.try_recv.ensures.rests))

pub returns-clause-stays_closed : goal.returns-clause-stays_closed
returns-clause-stays_closed g c closed =
    tried_over c.try_recv.result (stays_closed TryRecv c.try_recv.ensures.run (begins_closed _
    (closed_before {own = c.self.inside.ground} _ refl (same_steps c.self.view_is) closed))
    (polled_somewhere (unpolled (resting c.try_recv.ensures.rests))))

pub returns-clause-closes : goal.returns-clause-closes
returns-clause-closes g c = closed_tried c.try_recv.result (returns-clause-leaves g c)

pub returns-clause-stays_open : goal.returns-clause-stays_open
returns-clause-stays_open g c = open_tried c.try_recv.result (returns-clause-leaves g c)

pub returns-clause-bounded : goal.returns-clause-bounded
returns-clause-bounded g c = try_recv_few (returns-clause-run g c)

pub returns-clause-promise : goal.returns-clause-promise
returns-clause-promise g c =
    kept_about g.P.Promise.keeps c.try_recv.result (same_about c.self.view_is) c.try_recv.ensures.given

pub returns-clause-took : goal.returns-clause-took
returns-clause-took g c =
    tried_takes
    (took_by {own = c.self.inside.ground} refl (same_steps c.self.view_is) (same_took c.self.view_is)
    c.try_recv.new.g c.try_recv.ensures.keeps.taken c.self.invariant.took
    (rests_so c.self.inside.ground c.self.invariant.rests))
    TryRecv refl c.try_recv.result (returns-clause-run g c) (returns-clause-stays_closed g c) c.try_recv.ensures.had
