-- The calls of an end in order, each with its reply, and the log that they leave.
use Rattle.std.specs.Prelude.{◌≡◌, Bool, true, false, List, [], ◌∷◌, ◌++◌}
use Rattle.oneshot_machine.specs.declared.machine.Reply.{Reply}
use Rattle.oneshot_machine.specs.declared.machine.Reply.TheVariants as R
use Rattle.oneshot_machine.specs.declared.machine.receiver.ReceiverStart.{ReceiverStart}
use Rattle.oneshot_machine.specs.declared.machine.receiver.ReceiverStart.TheVariants as RC
use Rattle.oneshot_machine.specs.declared.machine.sender.SenderCall.{SenderCall}
use Rattle.oneshot_machine.specs.declared.machine.sender.SenderCall.TheVariants as SC
use Rattle.oneshot_machine.specs.Logs.{Event, words}
use Rattle.oneshot_machine.specs.Noted.{Noted}
use Rattle.oneshot_machine.specs.Receiver.{receiver_start, receiver_step, receiver_row}
use Rattle.oneshot_machine.specs.Runs.{Run}
use Rattle.oneshot_machine.specs.Sender.{sender_start, sender_step, sender_row}

-- a receiver whose calls may block, or one that is a future
pub data Form : Type 0 where
  as_receiver : Form
  as_future : Form

-- the calls whose operations are in the log (so no looks), and which do not end the receiver
abbrev pub stays : Form → ReceiverStart → Bool
stays as_receiver RC.TryRecv = true
stays as_receiver RC.RecvRef = true
stays as_receiver RC.RecvDeadline = true
stays as_receiver (RC.RecvTimeout representable) = true
stays as_future RC.Poll = true
stays as_future RC.AsyncTryRecv = true
stays _ _ = false

-- the sender's calls whose operations are in the log: each ends the sender
abbrev pub ends : SenderCall → Bool
ends SC.Send = true
ends SC.Drop = true
ends _ = false

module _ (T W : Type 0) where
  -- A receiver of which these calls have returned, each with its reply, has this log: for each call, the operations
  -- of one run of its table that ends in the reply. `into_future` has no operation.
  pub data ReceiverCalled : Form → List (ReceiverStart × Reply) → List Noted → Type 0 where
    not_called : ReceiverCalled as_receiver [] []
    called : {form : Form} {calls : List (ReceiverStart × Reply)} {log : List Noted}
        (call : ReceiverStart) (reply : Reply) (run : List (Event T W))
        → ReceiverCalled form calls log → stays form call ≡ true
        → Run receiver_step receiver_row (receiver_start call) run reply
        → ReceiverCalled form (calls ++ (call, reply) ∷ []) (log ++ words run)
    became_future : {calls : List (ReceiverStart × Reply)} {log : List Noted} → ReceiverCalled as_receiver calls log
        → ReceiverCalled as_future (calls ++ (RC.IntoFuture, R.Future) ∷ []) log

  -- the same of a sender, whose one call ends it
  pub data SenderCalled : List (SenderCall × Reply) → List Noted → Type 0 where
    not_called_yet : SenderCalled [] []
    called_once : (call : SenderCall) (reply : Reply) (run : List (Event T W)) → ends call ≡ true
        → Run sender_step sender_row (sender_start call) run reply
        → SenderCalled ((call, reply) ∷ []) (words run)
