-- Proofs of the goals that `begin_drop` leaves.
use Rattle.std.proofs.Common.{rules}
use Rattle.oneshot_machine.specs.declared.states.Op.TheVariants.{Swap, Xor}
use Rattle.oneshot_machine.specs.declared.states.TheConstants.{DISCONNECTED}
use Rattle.oneshot_machine.specs.Slots.{vacant, is_away, is_vacant, head, tail, may}
use Rattle.oneshot_part_tests.proofs.Shown.{sender_can, sender_changed, begins_fresh, finds_waker}
use Rattle.oneshot_part_tests.proofs.word.begin_drop.Goals as goal

pub xor-found-requires : goal.xor-found-requires
xor-found-requires g c =
    sender_can Xor (begins_fresh c.args.sender.now c.requires.0 c.requires.1 c.peek.ensures.slots)
    (may (tail (tail (tail head))) is_vacant is_away)

pub take_waker-requires : goal.take_waker-requires
take_waker-requires g c =
    let is = begins_fresh c.args.sender.now c.requires.0 c.requires.1 c.peek.ensures.slots in
    let it = finds_waker Xor is c.xor-found.ensures (search rules) in
    (it.0, it.1.waker)

pub returns : goal.returns
returns g c =
    let is = begins_fresh c.args.sender.now c.requires.0 c.requires.1 c.peek.ensures.slots in
    let it = finds_waker Xor is c.xor-found.ensures (search rules) in
    sender_can (Swap DISCONNECTED) (sender_changed _ c.take_waker.new.self vacant it.1 c.take_waker.ensures.rest)
    (may head is_vacant is_vacant)
