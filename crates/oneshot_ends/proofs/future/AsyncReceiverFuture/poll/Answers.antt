-- Proofs of the goals that `poll` of `AsyncReceiver` as a `Future` leaves.
use Rattle.std.proofs.Common.{[], ◌∷◌, refl, ◌∙◌, rules}
use Rattle.oneshot_machine.specs.declared.machine.receiver.ReceiverStart.TheVariants as C
use Rattle.oneshot_drive.specs.Polls.{LeavesPolled, poll_reply}
use Rattle.oneshot_drive.proofs.LeftPhases.{begins_closed, polled_somewhere, resting, leaves_polled, stays_closed, polled_over}
use Rattle.oneshot_ends.proofs.CallsAnswered.{one_answered}
use Rattle.oneshot_ends.proofs.EndViews.{future_steps, future_about, future_took, polled_about, pending_about}
use Rattle.oneshot_ends.proofs.GrewByRuns.{grew_by, closed_before, at_end, poll_few}
use Rattle.oneshot_ends.proofs.PolledEnds.{closed_polled, open_polled}
use Rattle.oneshot_ends.proofs.PollingTokens.{stands_by_tokens, stands_as_told}
use Rattle.oneshot_ends.proofs.Taken.{polled_so, took_by, poll_takes}
use Rattle.oneshot_ends.proofs.TaskWakers.{woken_by}
use Rattle.oneshot_ends.proofs.future.AsyncReceiverFuture.poll.Goals as goal

pub poll-requires : goal.poll-requires
poll-requires g c = stands_by_tokens (_ ∷ _ ∷ _ ∷ []) c.self.inside.ground c.self.invariant.rests

pub invariant_of-self : goal.invariant_of-self
invariant_of-self g c =
    record {
      rests = stands_as_told (_ ∷ _ ∷ _ ∷ []) c.poll.new.g.ground.now c.poll.ensures.rests;
      calls = one_answered C.Poll refl c.self.invariant.calls
          (grew_by {own = c.self.inside.ground} refl refl c.poll.new.g.ground.now C.Poll c.poll.ensures.run);
      no_thread = c.poll.ensures.keeps.no_thread c.self.invariant.no_thread;
      took = c.poll.ensures.keeps.taken.found c.self.invariant.took;
    }

pub returns-clause-run : goal.returns-clause-run
returns-clause-run g c =
    grew_by {own = c.self.inside.ground} refl (future_steps c.self.view_is) c.poll.new.g.ground.now C.Poll
    c.poll.ensures.run

pub returns-clause-leaves : goal.returns-clause-leaves
returns-clause-leaves g c =
    at_end _ (LeavesPolled (poll_reply c.poll.result)) c.poll.new.g.ground.now
    (leaves_polled C.Poll c.poll.result c.poll.ensures.run refl (resting c.poll.ensures.rests))

pub returns-clause-stays_closed : goal.returns-clause-stays_closed
returns-clause-stays_closed g c closed =
    polled_over c.poll.result (stays_closed C.Poll c.poll.ensures.run (begins_closed _
    (closed_before {own = c.self.inside.ground} _ refl (future_steps c.self.view_is) closed))
    (polled_somewhere (resting c.poll.ensures.rests)))

pub returns-clause-closes : goal.returns-clause-closes
returns-clause-closes g c = closed_polled c.poll.result (returns-clause-leaves g c)

pub returns-clause-stays_open : goal.returns-clause-stays_open
returns-clause-stays_open g c = open_polled c.poll.result (returns-clause-leaves g c)

pub returns-clause-woken : goal.returns-clause-woken
returns-clause-woken g c =
    let woken = woken_by c.poll.result c.poll.new.g.cx.now c.poll.new.g.ground.now c.poll.ensures.task in
    search (rules, woken)

pub returns-clause-bounded : goal.returns-clause-bounded
returns-clause-bounded g c = poll_few (returns-clause-run g c)

pub returns-clause-value : goal.returns-clause-value
returns-clause-value g c =
    polled_about g.P.Promise.keeps c.poll.result (future_about c.self.view_is) c.poll.ensures.given

pub returns-clause-same : goal.returns-clause-same
returns-clause-same g c =
    pending_about g.P.Promise.keeps c.poll.result (c.poll.ensures.keeps.about ∙ future_about c.self.view_is)

pub returns-clause-took : goal.returns-clause-took
returns-clause-took g c =
    poll_takes
    (took_by {own = c.self.inside.ground} refl (future_steps c.self.view_is) (future_took c.self.view_is)
    c.poll.new.g.ground.now c.poll.ensures.keeps.taken
    c.self.invariant.took (polled_so c.self.inside.ground c.self.invariant.rests))
    c.poll.result (returns-clause-run g c) (returns-clause-stays_closed g c) c.poll.ensures.had
