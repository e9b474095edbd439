-- Proofs of the goals that `try_recv` of `AsyncReceiver` leaves.
use Rattle.std.proofs.Common.{refl, ◌∙◌}
use Rattle.oneshot_machine.specs.declared.machine.receiver.ReceiverStart.TheVariants.{AsyncTryRecv}
use Rattle.oneshot_drive.specs.BetweenCalls.{try_recv_reply}
use Rattle.oneshot_drive.specs.Polls.{LeavesTried}
use Rattle.oneshot_drive.proofs.LeftPhases.{begins_closed, polled_somewhere, resting, leaves_tried, stays_closed, stays_registered, tried_over}
use Rattle.oneshot_ends.proofs.CallsAnswered.{one_answered}
use Rattle.oneshot_ends.proofs.EndViews.{future_steps, future_about, future_took, future_registered, kept_about}
use Rattle.oneshot_ends.proofs.GrewByRuns.{words_of, grew_by, closed_before, at_end, async_try_recv_few}
use Rattle.oneshot_ends.proofs.PolledEnds.{closed_tried, open_tried, registered_as_tried}
use Rattle.oneshot_ends.proofs.Taken.{polled_so, took_by, tried_takes}
use Rattle.oneshot_ends.proofs.TaskWakers.{same_registered}
use Rattle.oneshot_ends.proofs.future.AsyncReceiver.try_recv.Goals as goal

pub invariant_of-self : goal.invariant_of-self
invariant_of-self g c =
    record {
      rests = c.async_try_recv.ensures.rests;
      calls = one_answered AsyncTryRecv refl c.self.invariant.calls
          (grew_by {own = c.self.inside.ground} refl refl c.async_try_recv.new.g AsyncTryRecv
          c.async_try_recv.ensures.run);
      no_thread = c.async_try_recv.ensures.keeps.no_thread c.self.invariant.no_thread;
      took = c.async_try_recv.ensures.keeps.taken.found c.self.invariant.took;
    }

pub returns-clause-run : goal.returns-clause-run
returns-clause-run g c =
    grew_by {own = c.self.inside.ground} refl (future_steps c.self.view_is) c.async_try_recv.new.g AsyncTryRecv
    c.async_try_recv.ensures.run

pub returns-clause-leaves : goal.returns-clause-leaves
returns-clause-leaves g c =
    at_end _ (LeavesTried (try_recv_reply c.async_try_recv.result)) c.async_try_recv.new.g
    (leaves_tried AsyncTryRecv c.async_try_recv.result c.async_try_recv.ensures.run refl
    (resting c.async_try_recv.ensures.rests))

pub returns-clause-stays_closed : goal.returns-clause-stays_closed
returns-clause-stays_closed g c closed =
    tried_over c.async_try_recv.result (stays_closed AsyncTryRecv c.async_try_recv.ensures.run (begins_closed _
    (closed_before {own = c.self.inside.ground} _ refl (future_steps c.self.view_is) closed))
    (polled_somewhere (resting c.async_try_recv.ensures.rests)))

pub returns-clause-stays_registered : goal.returns-clause-stays_registered
returns-clause-stays_registered g c =
    registered_as_tried c.async_try_recv.result (words_of _ _ c.self.inside.ground.log ∙ future_steps c.self.view_is)
    (words_of _ _ c.async_try_recv.new.g.log)
    (stays_registered c.async_try_recv.result c.async_try_recv.ensures.run (resting c.self.invariant.rests)
    (resting c.async_try_recv.ensures.rests))

pub returns-clause-same_waker : goal.returns-clause-same_waker
returns-clause-same_waker g c nothing =
    same_registered c.self.inside.ground c.async_try_recv.new.g c.self.invariant.rests c.self.invariant.no_thread
    c.async_try_recv.ensures.keeps
    (registered_as_tried c.async_try_recv.result (words_of _ _ c.self.inside.ground.log)
    (words_of _ _ c.async_try_recv.new.g.log)
    (stays_registered c.async_try_recv.result c.async_try_recv.ensures.run (resting c.self.invariant.rests)
    (resting c.async_try_recv.ensures.rests)) nothing)
    ∙ future_registered c.self.view_is

pub returns-clause-closes : goal.returns-clause-closes
returns-clause-closes g c = closed_tried c.async_try_recv.result (returns-clause-leaves g c)

pub returns-clause-stays_open : goal.returns-clause-stays_open
returns-clause-stays_open g c = open_tried c.async_try_recv.result (returns-clause-leaves g c)

pub returns-clause-bounded : goal.returns-clause-bounded
returns-clause-bounded g c = async_try_recv_few (returns-clause-run g c)

pub returns-clause-promise : goal.returns-clause-promise
returns-clause-promise g c =
    kept_about g.P.Promise.keeps c.async_try_recv.result (future_about c.self.view_is) c.async_try_recv.ensures.given

pub returns-clause-took : goal.returns-clause-took
returns-clause-took g c =
    tried_takes
    (took_by {own = c.self.inside.ground} refl (future_steps c.self.view_is) (future_took c.self.view_is)
    c.async_try_recv.new.g c.async_try_recv.ensures.keeps.taken
    c.self.invariant.took (polled_so c.self.inside.ground c.self.invariant.rests))
    AsyncTryRecv refl c.async_try_recv.result (returns-clause-run g c)
    (returns-clause-stays_closed g c) c.async_try_recv.ensures.had
