-- Proofs of the goals that `recv_ref` of `Receiver` leaves.
use Rattle.std.proofs.Common.{[], ◌∷◌, refl, ap}
use Rattle.oneshot_machine.specs.declared.machine.receiver.ReceiverStart.TheVariants.{RecvRef}
use Rattle.oneshot_drive.specs.BetweenCalls.{Leaves, recv_reply}
use Rattle.oneshot_drive.specs.Polls.{unpolled}
use Rattle.oneshot_drive.proofs.LeftPhases.{begins_closed, polled_somewhere, resting, leaves, stays_closed, recv_over}
use Rattle.oneshot_drive.proofs.LeftReceivers.{closed_by}
use Rattle.oneshot_ends.proofs.CallsAnswered.{one_answered}
use Rattle.oneshot_ends.proofs.EndViews.{same_steps, same_about, same_took, lent_about, kept_about}
use Rattle.oneshot_ends.proofs.GrewByRuns.{grew_by, closed_before, at_end}
use Rattle.oneshot_ends.proofs.OwnWakers.{has_lent}
use Rattle.oneshot_ends.proofs.LentGrounds.{as_lent, given_back}
use Rattle.oneshot_ends.proofs.Taken.{rests_so, lent_found, took_by, recv_takes}
use Rattle.oneshot_ends.proofs.receiver.Receiver.recv_ref.Goals as goal

pub recv_ref-requires-clause-rests : goal.recv_ref-requires-clause-rests
recv_ref-requires-clause-rests g c =
    as_lent (_ ∷ _ ∷ []) (ap (λ r. r.now) c.lend-lent.ensures.ground) c.self.invariant.rests

pub invariant_of-self : goal.invariant_of-self
invariant_of-self g c =
    record {
      rests = given_back (_ ∷ _ ∷ []) c.recv_ref.new.g.ground.now c.recv_ref.ensures.rests;
      ready = λ none. closed_by c.recv_ref.result
          (leaves RecvRef c.recv_ref.ensures.run refl (resting c.recv_ref.ensures.rests));
      calls = one_answered RecvRef refl c.self.invariant.calls
          (grew_by (ap (λ r. r.now) c.lend-lent.ensures.ground) refl c.recv_ref.new.g.ground.now
          RecvRef c.recv_ref.ensures.run);
      halves = c.recv_ref.ensures.has.0;
      half = c.recv_ref.ensures.has.1;
      took = c.recv_ref.ensures.keeps.taken.found
          (lent_found (ap (λ r. r.now) c.lend-lent.ensures.ground) c.self.invariant.took);
    }

pub returns-clause-run : goal.returns-clause-run
returns-clause-run g c =
    grew_by (ap (λ r. r.now) c.lend-lent.ensures.ground) (same_steps c.self.view_is) c.recv_ref.new.g.ground.now
    RecvRef c.recv_ref.ensures.run

pub returns-clause-leaves : goal.returns-clause-leaves
returns-clause-leaves g c =
    at_end _ (Leaves (recv_reply c.recv_ref.result)) c.recv_ref.new.g.ground.now
    (leaves RecvRef c.recv_ref.ensures.run refl (resting c.recv_ref.ensures.rests))

pub returns-clause-stays_closed : goal.returns-clause-stays_closed
returns-clause-stays_closed g c closed =
    recv_over c.recv_ref.result (stays_closed RecvRef c.recv_ref.ensures.run (begins_closed _
    (closed_before _ (ap (λ r. r.now) c.lend-lent.ensures.ground) (same_steps c.self.view_is) closed))
    (polled_somewhere (unpolled (resting c.recv_ref.ensures.rests))))

pub returns-clause-closes : goal.returns-clause-closes
returns-clause-closes g c = closed_by c.recv_ref.result (returns-clause-leaves g c)

pub returns-clause-promise : goal.returns-clause-promise
returns-clause-promise g c =
    kept_about g.P.Promise.keeps c.recv_ref.result
    (lent_about (ap (λ r. r.now) c.lend-lent.ensures.ground) (same_about c.self.view_is)) c.recv_ref.ensures.given

pub recv_ref-requires-clause-has : goal.recv_ref-requires-clause-has
recv_ref-requires-clause-has g c =
    has_lent c.self.inside.hand (ap (λ r. r.now) c.lend-lent.ensures.ground)
    (ap (λ r. r.now) c.lend-lent.ensures.parker)
    c.self.invariant.halves c.self.invariant.half

pub returns-clause-took : goal.returns-clause-took
returns-clause-took g c =
    recv_takes
    (took_by (ap (λ r. r.now) c.lend-lent.ensures.ground) (same_steps c.self.view_is) (same_took c.self.view_is)
    c.recv_ref.new.g.ground.now c.recv_ref.ensures.keeps.taken c.self.invariant.took
    (rests_so c.self.inside.ground c.self.invariant.rests))
    RecvRef refl c.recv_ref.result (returns-clause-run g c) (returns-clause-stays_closed g c) c.recv_ref.ensures.had
