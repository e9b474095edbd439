-- Proofs of the goals that `perform` leaves.
use Rattle.std.proofs.Common.{refl}
use Rattle.oneshot_machine.specs.declared.machine.receiver.ReceiverStart.TheVariants.{RecvRef}
use Rattle.oneshot_drive.proofs.LeftPhases.{leaves, ready_still, resting}
use Rattle.oneshot_drive.proofs.LeftReceivers.{closed_by}
use Rattle.oneshot_part_tests.proofs.drive.deeds.perform.Goals as goal

pub returns-in-Try-clause-ready : goal.returns-in-Try-clause-ready
returns-in-Try-clause-ready g c =
    ready_still c.try_recv.ensures.run (resting c.try_recv.ensures.rests) c.requires.ready

pub returns-in-Ref-clause-ready : goal.returns-in-Ref-clause-ready
returns-in-Ref-clause-ready g c none =
    closed_by c.recv_ref.result (leaves RecvRef c.recv_ref.ensures.run refl (resting c.recv_ref.ensures.rests))
