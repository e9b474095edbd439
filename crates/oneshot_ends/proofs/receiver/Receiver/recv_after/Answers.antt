-- Proofs of the goals that `recv_after` of `Receiver` leaves.
use Rattle.std.proofs.Common.{[], ◌∷◌, refl, sym, ap, subst}
use Rattle.std.specs.Prelude.{◌↔◌, IsTrue}
use Rattle.oneshot_machine.specs.declared.machine.receiver.ReceiverStart.TheVariants.{RecvTimeout}
use Rattle.oneshot_drive.specs.BetweenCalls.{Leaves, timed_reply}
use Rattle.oneshot_drive.specs.Polls.{unpolled}
use Rattle.oneshot_drive.proofs.LeftPhases.{begins_closed, polled_somewhere, resting, leaves, stays_closed, timed_over}
use Rattle.oneshot_ends.specs.Deadlines.{HasEnd}
use Rattle.oneshot_ends.proofs.CallsAnswered.{one_answered}
use Rattle.oneshot_ends.proofs.EndViews.{same_steps, same_about, same_took, lent_about, kept_about}
use Rattle.oneshot_ends.proofs.GrewByRuns.{grew_by, closed_before, at_end}
use Rattle.oneshot_ends.proofs.OwnWakers.{has_lent}
use Rattle.oneshot_ends.proofs.LentGrounds.{as_lent, given_back}
use Rattle.oneshot_ends.proofs.TimeoutEnds.{ends_where_held}
use Rattle.oneshot_ends.proofs.Taken.{rests_so, lent_found, took_by, timed_takes}
use Rattle.oneshot_ends.proofs.receiver.Receiver.recv_after.Goals as goal

pub recv_timeout-requires-clause-rests : goal.recv_timeout-requires-clause-rests
recv_timeout-requires-clause-rests g c =
    as_lent (_ ∷ _ ∷ []) (ap (λ r. r.now) c.lend-lent.ensures.ground) c.self.invariant.rests

pub invariant_of-self : goal.invariant_of-self
invariant_of-self g c =
    record {
      rests = given_back (_ ∷ _ ∷ []) c.recv_timeout.new.g.ground.now c.recv_timeout.ensures.rests;
      ready = c.recv_timeout.ensures.ready;
      calls = one_answered (RecvTimeout c.has_end-has_end.result) refl c.self.invariant.calls
          (grew_by (ap (λ r. r.now) c.lend-lent.ensures.ground) refl c.recv_timeout.new.g.ground.now
          (RecvTimeout c.has_end-has_end.result) c.recv_timeout.ensures.run);
      halves = c.recv_timeout.ensures.has.0;
      half = c.recv_timeout.ensures.has.1;
      took = c.recv_timeout.ensures.keeps.taken.found
          (lent_found (ap (λ r. r.now) c.lend-lent.ensures.ground) c.self.invariant.took);
    }

pub returns-clause-run : goal.returns-clause-run
returns-clause-run g c =
    record {
      has_end = c.has_end-has_end.result;
      held = subst (λ ends. IsTrue ends ↔ HasEnd c.args.timeout c.args.reading.instant) (sym c.has_end-has_end.ensures)
          (ends_where_held c.args.timeout c.args.reading.instant c.after-patience.result.deadline
          c.after-patience.ensures.deadline);
      grew = grew_by (ap (λ r. r.now) c.lend-lent.ensures.ground) (same_steps c.self.view_is)
          c.recv_timeout.new.g.ground.now (RecvTimeout c.has_end-has_end.result) c.recv_timeout.ensures.run;
    }

pub returns-clause-leaves : goal.returns-clause-leaves
returns-clause-leaves g c =
    at_end _ (Leaves (timed_reply c.recv_timeout.result)) c.recv_timeout.new.g.ground.now
    (leaves (RecvTimeout c.has_end-has_end.result) c.recv_timeout.ensures.run refl
    (resting c.recv_timeout.ensures.rests))

pub returns-clause-stays_closed : goal.returns-clause-stays_closed
returns-clause-stays_closed g c closed =
    timed_over c.recv_timeout.result
    (stays_closed (RecvTimeout c.has_end-has_end.result) c.recv_timeout.ensures.run (begins_closed _
    (closed_before _ (ap (λ r. r.now) c.lend-lent.ensures.ground) (same_steps c.self.view_is) closed))
    (polled_somewhere (unpolled (resting c.recv_timeout.ensures.rests))))

pub returns-clause-promise : goal.returns-clause-promise
returns-clause-promise g c =
    kept_about g.P.Promise.keeps c.recv_timeout.result
    (lent_about (ap (λ r. r.now) c.lend-lent.ensures.ground) (same_about c.self.view_is)) c.recv_timeout.ensures.given

pub recv_timeout-requires-clause-has : goal.recv_timeout-requires-clause-has
recv_timeout-requires-clause-has g c =
    has_lent c.self.inside.hand (ap (λ r. r.now) c.lend-lent.ensures.ground)
    (ap (λ r. r.now) c.lend-lent.ensures.parker)
    c.self.invariant.halves c.self.invariant.half

pub returns-clause-took : goal.returns-clause-took
returns-clause-took g c =
    timed_takes
    (took_by (ap (λ r. r.now) c.lend-lent.ensures.ground) (same_steps c.self.view_is) (same_took c.self.view_is)
    c.recv_timeout.new.g.ground.now c.recv_timeout.ensures.keeps.taken c.self.invariant.took
    (rests_so c.self.inside.ground c.self.invariant.rests))
    (RecvTimeout (returns-clause-run g c).has_end) refl c.recv_timeout.result (returns-clause-run g c).grew
    (returns-clause-stays_closed g c) c.recv_timeout.ensures.had
