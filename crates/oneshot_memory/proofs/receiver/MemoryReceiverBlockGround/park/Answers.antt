-- Proofs of the goals that `park` of `MemoryReceiver` as a `BlockGround` leaves.
use Rattle.std.proofs.Common.{[], ◌∷◌, ◌++◌, refl, ap, ◌∙◌}
use Rattle.oneshot_machine.specs.Logs.{parked}
use Rattle.oneshot_memory.specs.Events.{logged_event}
use Rattle.oneshot_memory.proofs.Events.{step_grows}
use Rattle.oneshot_memory.proofs.ReceiverMatches.{receiver_stays}
use Rattle.oneshot_memory.proofs.receiver.MemoryReceiverBlockGround.park.Goals as goal

pub invariant_of-self : goal.invariant_of-self
invariant_of-self g c =
    receiver_stays c.self.inside.events.items c.record.new.events.items _
    (c.record.ensures ∙ ap (λ e. c.self.inside.events.items ++ e ∷ []) c.of-event.ensures) refl c.self.invariant

pub returns-clause-log : goal.returns-clause-log
returns-clause-log g c = (
  c.self.inside.token,
  step_grows c.self.inside.events.items c.record.new.events.items c.of-event.result
      (parked c.self.inside.token) c.record.ensures (ap logged_event c.of-event.ensures)
      (ap (λ s. s.state.log) (c.self.view_is ∙ c.pause.ensures)),
)
