-- The text of a reply, in the words of the call that it ends.
use Rattle.std.specs.Prelude.{ℕ, List, ◌++◌, codes, decimal, Option, Some}
use Rattle.oneshot_machine.specs.declared.machine.End.{End}
use Rattle.oneshot_machine.specs.declared.machine.End.TheVariants.{Sender, Receiver}
use Rattle.oneshot_machine.specs.declared.machine.Reply.{Reply}
use Rattle.oneshot_machine.specs.declared.machine.Reply.TheVariants as R
use Rattle.oneshot_machine.specs.declared.machine.receiver.ReceiverStart.{ReceiverStart}
use Rattle.oneshot_machine.specs.declared.machine.receiver.ReceiverStart.TheVariants as C

abbrev pub ok_text : List ℕ → List ℕ
ok_text inside = codes "Ok(" ++ inside ++ codes ")"

abbrev pub ready_text : List ℕ → List ℕ
ready_text inside = codes "Ready(" ++ inside ++ codes ")"

-- the message: bare for the sender's side, `Ready(Ok(..))` for a poll, and `Ok(..)` for any other receive
abbrev pub message_text : End → Option ReceiverStart → ℕ → List ℕ
message_text Sender call message = decimal message
message_text Receiver (Some C.Poll) message = ready_text (ok_text (decimal message))
message_text Receiver call message = ok_text (decimal message)

-- the error of a receive that will get no message
abbrev pub disconnected_text : Option ReceiverStart → List ℕ
disconnected_text (Some C.Poll) = codes "Ready(Err(RecvError))"
disconnected_text (Some C.Recv) = codes "Err(RecvError)"
disconnected_text (Some C.RecvRef) = codes "Err(RecvError)"
disconnected_text call = codes "Err(Disconnected)"

-- a reply to this end; `call` is the call that it ends, if it is the receiver's
abbrev pub reply_text : End → Option ReceiverStart → ℕ → Reply → List ℕ
reply_text end call message R.Sent = codes "Ok"
reply_text end call message R.Refused = codes "Err"
reply_text end call message R.Yes = codes "true"
reply_text end call message R.No = codes "false"
reply_text end call message R.Message = message_text end call message
reply_text end call message R.Empty = codes "Err(Empty)"
reply_text end call message R.Timeout = codes "Err(Timeout)"
reply_text end call message R.Disconnected = disconnected_text call
reply_text end call message R.Pending = codes "Pending"
reply_text end call message R.Future = codes "future"
reply_text end call message R.Done = codes "dropped"
