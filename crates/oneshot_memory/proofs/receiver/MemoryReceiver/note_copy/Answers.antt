-- Proofs of the goals that `note_copy` of `MemoryReceiver` leaves.
use Rattle.std.proofs.Common.{[], ◌∷◌, ap}
use Rattle.oneshot_machine.specs.Logs.{words, copied}
use Rattle.oneshot_memory.proofs.Events.{step_grows}
use Rattle.oneshot_memory.proofs.ReceiverMatches.{receiver_stays}
use Rattle.oneshot_memory.proofs.receiver.MemoryReceiver.note_copy.Goals as goal

pub invariant_of-self : goal.invariant_of-self
invariant_of-self g c =
    receiver_stays c.self.inside.events.items c.record.new.events.items c.copied-event.result c.record.ensures
    (ap (λ x. words (x ∷ [])) c.copied-event.ensures) c.self.invariant

pub returns-clause-log : goal.returns-clause-log
returns-clause-log g c =
    let noted =
    step_grows c.self.inside.events.items c.record.new.events.items c.copied-event.result (copied c.args.copy.now)
    c.record.ensures c.copied-event.ensures (ap (λ s. s.state.log) c.self.view_is) in
    rw (ap (λ s. s.state.log) c.pause.ensures) noted
