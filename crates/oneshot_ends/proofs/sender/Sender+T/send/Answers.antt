-- Proofs of the goals that `send` of `Sender` leaves.
use Rattle.std.proofs.Common.{refl, sym, subst}
use Rattle.oneshot_machine.specs.Phases.{sender_at}
use Rattle.oneshot_machine.specs.Over.{IsLate}
use Rattle.oneshot_ends.proofs.CallsAnswered.{was_refused}
use Rattle.oneshot_ends.proofs.EndViews.{sent_steps}
use Rattle.oneshot_ends.proofs.GrewByRuns.{words_of, send_refused}
use Rattle.oneshot_ends.proofs.sender.Sender+T.send.Goals as goal

pub returns-clause-run : goal.returns-clause-run
returns-clause-run g c =
    send_refused c.send.new.g.side c.into_ground-ground.ensures (sent_steps c.self.view_is) (sym c.refused.ensures.log)
    c.if-send.false c.send.ensures.run

pub refused-requires-clause-late : goal.refused-requires-clause-late
refused-requires-clause-late g c =
    subst (λ xs. IsLate (sender_at xs)) (words_of _ _ c.send.new.g.side.log) (c.send.ensures.late c.if-send.false)

pub refused-requires-clause-refused : goal.refused-requires-clause-refused
refused-requires-clause-refused g c =
    was_refused
    (send_refused c.send.new.g.side c.into_ground-ground.ensures c.self.invariant.log refl c.if-send.false
    c.send.ensures.run)
