-- Proofs of the goals that `operate` of `MemoryReceiver` leaves.
use Rattle.std.proofs.Common.{sym, ap, ◌∙◌, subst}
use Rattle.oneshot_machine.specs.Logs.{receiver_of}
use Rattle.oneshot_machine.specs.Slots.{ReceiverFinds}
use Rattle.oneshot_memory.specs.Events.{slot_if_own}
use Rattle.oneshot_memory.specs.Receiver.{keeps_message, keeps_waker, waker_after, lies}
use Rattle.oneshot_memory.proofs.Events.{word_grows}
use Rattle.oneshot_memory.proofs.ReceiverMatches.{receiver_asked, receiver_found, receiver_worded}
use Rattle.oneshot_memory.proofs.receiver.MemoryReceiver.operate.Goals as goal

pub after-self-inside-requires : goal.after-self-inside-requires
after-self-inside-requires g c =
    (receiver_asked c.self.inside.events.items c.self.view_is c.requires c.self.invariant).code

pub invariant_of-self : goal.invariant_of-self
invariant_of-self g c =
    let events = c.self.inside.events.items in
    let word = c.self.inside.word in
    let grows =
    word_grows events c.record.new.events.items c.of-event.result c.args.op word c.record.ensures
    (rw (c.of-event.ensures, c.sight.ensures)) in
    receiver_worded events c.record.new.events.items c.args.op word c.after-self-inside.result
    c.self.inside.owns_message c.self.inside.owns_waker c.has_message-self-inside.result
    c.has_waker-self-inside.result c.self.inside.waker c.finish_late.new.waker grows
    (receiver_asked events c.self.view_is c.requires c.self.invariant)
    c.after-self-inside.ensures c.has_message-self-inside.ensures
    (c.has_waker-self-inside.ensures ∙ ap (λ waits. keeps_waker c.args.op word waits) c.is_waiting.ensures)
    c.finish_late.ensures

pub returns-clause-log : goal.returns-clause-log
returns-clause-log g c =
    rw (ap (λ s. s.state.log) (sym c.self.view_is)) (word_grows c.self.inside.events.items c.record.new.events.items
    c.of-event.result c.args.op c.self.inside.word c.record.ensures (rw (c.of-event.ensures, c.sight.ensures)))

pub returns-clause-finds : goal.returns-clause-finds
returns-clause-finds g c =
    let word = c.self.inside.word in
    let after = slot_if_own (keeps_message c.args.op word) c.self.inside.message in
    let waker =
    slot_if_own (keeps_waker c.args.op word (lies c.self.inside.owns_waker c.self.inside.waker))
    (waker_after c.args.op word c.self.inside.waker) in
    rw (c.has_message-self-inside.ensures, c.has_waker-self-inside.ensures, c.is_waiting.ensures, c.finish_late.ensures)
    (subst (λ s. ReceiverFinds (receiver_of s.state.log) c.args.op word s.state.message s.state.waker after waker)
    c.self.view_is (receiver_found word c.self.inside.owns_message c.self.inside.owns_waker c.self.inside.message
    c.self.inside.waker (receiver_asked c.self.inside.events.items c.self.view_is c.requires c.self.invariant)))
