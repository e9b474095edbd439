-- Proofs of the goals that `receive` leaves.
use Rattle.std.proofs.Common.{rules}
use Rattle.oneshot_machine.specs.declared.states.Op.TheVariants.{Store}
use Rattle.oneshot_machine.specs.declared.states.TheConstants.{DISCONNECTED, MESSAGE}
use Rattle.oneshot_part_tests.proofs.Shown.{receiver_can, receiver_told, closes, keeps_message}
use Rattle.oneshot_part_tests.proofs.LoadedMessage.{gets}
use Rattle.oneshot_part_tests.proofs.Released.{received_over}
use Rattle.oneshot_part_tests.proofs.word.receive.Goals as goal

pub load-found-requires : goal.load-found-requires
load-found-requires g c = c.requires.loads

pub store-found-requires : goal.store-found-requires
store-found-requires g c =
    let it = gets c.load-found.ensures (search rules) in
    receiver_can (Store DISCONNECTED) it.2 (closes it.0 it.1)

pub take_message-requires : goal.take_message-requires
take_message-requires g c =
    let it = gets c.load-found.ensures (search rules) in
    (it.1, keeps_message (receiver_told (Store DISCONNECTED) MESSAGE it.2 c.store-found.ensures (search rules)))

pub returns : goal.returns
returns g c =
    let over = received_over c.requires.waits c.load-found.ensures (search rules) c.store-found.ensures in
    search (rules, over)
