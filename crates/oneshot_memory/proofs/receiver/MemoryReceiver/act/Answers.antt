-- Proofs of the goals that `act` of `MemoryReceiver` leaves.
use Rattle.std.proofs.Common.{◌≡◌, None, rules, sym, ap, ◌∙◌}
use Rattle.oneshot_memory.specs.Receiver.{both_here}
use Rattle.oneshot_memory.proofs.ReceiverMatches.{BothHere, both_here_by, left_open, left_waiting}
use Rattle.oneshot_memory.proofs.receiver.MemoryReceiver.act.Goals as goal

pub invariant_of-self : goal.invariant_of-self
invariant_of-self g c =
    let empty : c.take.new.self ≡ None = search rules in
    rw (c.left-word.ensures.word, c.left-word.ensures.message, empty)
    (left_waiting c.self.invariant c.args.act (sym c.is_waiting.ensures ∙ c.if-is_waiting.true))

pub invariant_of-self-then-both_here : goal.invariant_of-self-then-both_here
invariant_of-self-then-both_here g c =
    let here : BothHere c.self.inside.word c.self.inside.owns_message =
    both_here_by c.self.inside.word c.self.inside.owns_message c.self.inside.message
    (ap (λ s. both_here s.word s.state.message) c.self.view_is ∙ sym c.both_here.ensures ∙ c.if-both_here.true) in
    rw (c.left-word.ensures.word, c.left-word.ensures.message)
    (left_open c.self.invariant c.args.act here.quiet here.away (sym c.is_waiting.ensures ∙ c.if-is_waiting.false))

pub invariant_of-self-then-both_here-2 : goal.invariant_of-self-then-both_here-2
invariant_of-self-then-both_here-2 g c =
    let here : BothHere c.self.inside.word c.self.inside.owns_message =
    both_here_by c.self.inside.word c.self.inside.owns_message c.self.inside.message
    (ap (λ s. both_here s.word s.state.message) c.self.view_is ∙ sym c.both_here.ensures ∙ c.if-both_here.true) in
    rw (c.left-word.ensures.word, c.left-word.ensures.message)
    (left_open c.self.invariant c.args.act here.quiet here.away (sym c.is_waiting.ensures ∙ c.if-is_waiting.false))
