-- Proofs of the goals that `operate` of `MemorySender` leaves.
use Rattle.std.proofs.Common.{sym, ap, subst}
use Rattle.oneshot_machine.specs.Logs.{sender_of}
use Rattle.oneshot_machine.specs.Slots.{SenderFinds}
use Rattle.oneshot_memory.specs.Events.{slot_if_own}
use Rattle.oneshot_memory.specs.Sender.{keeps_both}
use Rattle.oneshot_memory.proofs.Events.{word_grows}
use Rattle.oneshot_memory.proofs.SenderMatches.{sender_asked, sender_worded}
use Rattle.oneshot_memory.proofs.sender.MemorySender.operate.Goals as goal

pub after-self-inside-requires : goal.after-self-inside-requires
after-self-inside-requires g c =
    (sender_asked c.self.inside.events.items c.self.view_is c.requires c.self.invariant).code

pub invariant_of-self : goal.invariant_of-self
invariant_of-self g c =
    let keeps = c.keeps_slots-keeps in
    sender_worded c.self.inside.events.items c.record.new.events.items c.args.op c.self.inside.word
    c.after-self-inside.result c.self.inside.owns_message c.self.inside.owns_waker keeps.result keeps.result
    (word_grows c.self.inside.events.items c.record.new.events.items c.of-event.result c.args.op c.self.inside.word
    c.record.ensures (rw (c.of-event.ensures, c.sight.ensures)))
    (sender_asked c.self.inside.events.items c.self.view_is c.requires c.self.invariant)
    c.after-self-inside.ensures keeps.ensures keeps.ensures

pub returns-clause-log : goal.returns-clause-log
returns-clause-log g c =
    rw (ap (λ s. s.state.log) (sym c.self.view_is)) (word_grows c.self.inside.events.items c.record.new.events.items
    c.of-event.result c.args.op c.self.inside.word c.record.ensures (rw (c.of-event.ensures, c.sight.ensures)))

pub returns-clause-finds : goal.returns-clause-finds
returns-clause-finds g c =
    let after = slot_if_own (keeps_both c.self.inside.word) c.self.inside.message in
    let waker = slot_if_own (keeps_both c.self.inside.word) c.self.inside.waker in
    rw c.keeps_slots-keeps.ensures
    (subst (λ s. SenderFinds (sender_of s.state.log) c.args.op c.self.inside.word s.state.message s.state.waker
    after waker) c.self.view_is
    (sender_asked c.self.inside.events.items c.self.view_is c.requires c.self.invariant).found)
