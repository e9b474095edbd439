-- Proofs of the goals that `begin_send` leaves.
use Rattle.std.proofs.Common.{rules, ◌≡◌, ap, ◌∙◌}
use Rattle.oneshot_machine.specs.declared.states.Op.TheVariants.{Swap, Add}
use Rattle.oneshot_machine.specs.declared.states.TheConstants.{MESSAGE}
use Rattle.oneshot_machine.specs.Phases.{fresh, sender_at}
use Rattle.oneshot_machine.specs.Slots.{away, vacant, held, is_away, is_vacant, is_held, head, may, SenderOwns}
use Rattle.oneshot_part_tests.proofs.Shown.{Plain, SenderIs, sender_can, sender_changed, begins_fresh, finds_waker}
use Rattle.oneshot_part_tests.proofs.word.begin_send.Goals as goal

module _ {T W : Type 0} where
  writes : (s t : Plain T W) (x : T) → sender_at s.log ≡ fresh → t ≡ record s { message = held x }
      → SenderOwns (sender_at t.log) t.message t.waker → SenderIs t fresh (held x) away
  writes s t x at e owns =
      begins_fresh t (ap (λ (s : Plain T W). sender_at s.log) e ∙ at) (ap (λ (s : Plain T W). s.message) e) owns

pub write_message-requires : goal.write_message-requires
write_message-requires g c = record { slot = c.requires.1; promise = tt }

pub add-found-requires : goal.add-found-requires
add-found-requires g c =
    sender_can Add (writes c.args.sender.now c.write_message.new.self c.args.message c.requires.0
    c.write_message.ensures c.peek.ensures.slots) (may head (is_held c.args.message) is_away)

pub take_waker-requires : goal.take_waker-requires
take_waker-requires g c =
    let is = writes c.args.sender.now c.write_message.new.self c.args.message c.requires.0 c.write_message.ensures
    c.peek.ensures.slots in
    let it = finds_waker Add is c.add-found.ensures (search rules) in
    (it.0, it.1.waker)

pub returns : goal.returns
returns g c =
    let is = writes c.args.sender.now c.write_message.new.self c.args.message c.requires.0 c.write_message.ensures
    c.peek.ensures.slots in
    let it = finds_waker Add is c.add-found.ensures (search rules) in
    sender_can (Swap MESSAGE) (sender_changed _ c.take_waker.new.self vacant it.1 c.take_waker.ensures.rest)
    (may head (is_held c.args.message) is_vacant)
