-- Proofs of the goals that `ends_are_scripted` leaves.
use Rattle.oneshot_bridge.proofs.ReceiverLogs.{receiver_scripted}
use Rattle.oneshot_bridge.proofs.SenderScripted.{sender_scripted}
use Rattle.oneshot_bridge.proofs.ends_are_scripted.Goals as goal

pub returns : goal.returns
returns g c = record { sender = sender_scripted _; receiver = receiver_scripted }
