-- The calls of a script, and two scripts as lists of calls: of the sender, a refused send's error, the receiver.
use Rattle.std.specs.Prelude.{Bool, true, false, ◌||◌, List, [], ◌∷◌, ◌++◌, map, replicate, Option, is_some}
use Rattle.oneshot_machine.specs.declared.machine.receiver.ReceiverStart.TheVariants as RC
use Rattle.oneshot_machine.specs.declared.machine.sender.SenderCall.TheVariants as SC
use Rattle.oneshot_world.specs.Calls.{Call, Of_sender, Of_receiver, Poll, Calls}
use Rattle.oneshot_world.specs.declared.script.AsyncCall.TheVariants as AC
use Rattle.oneshot_world.specs.declared.script.AsyncCall.{AsyncCall}
use Rattle.oneshot_world.specs.declared.script.AsyncLast.TheVariants as AL
use Rattle.oneshot_world.specs.declared.script.AsyncLast.{AsyncLast}
use Rattle.oneshot_world.specs.declared.script.ErrorLast.TheVariants as EL
use Rattle.oneshot_world.specs.declared.script.ErrorLast.{ErrorLast}
use Rattle.oneshot_world.specs.declared.script.ErrorScript.{ErrorScript}
use Rattle.oneshot_world.specs.declared.script.ReceiverCall.TheVariants as Script
use Rattle.oneshot_world.specs.declared.script.ReceiverCall.{ReceiverCall}
use Rattle.oneshot_world.specs.declared.script.ReceiverLast.TheVariants as RL
use Rattle.oneshot_world.specs.declared.script.ReceiverLast.{ReceiverLast}
use Rattle.oneshot_world.specs.declared.script.ReceiverScript.{ReceiverScript}
use Rattle.oneshot_world.specs.declared.script.SenderLast.TheVariants as SL
use Rattle.oneshot_world.specs.declared.script.SenderLast.{SenderLast}
use Rattle.oneshot_world.specs.declared.script.SenderScript.{SenderScript}
use Rattle.oneshot_world.specs.declared.trace.Place.{Place}

abbrev pub sender_last : {T : Type 0} → SenderLast T → List Call
sender_last (SL.Send message error) = Of_sender SC.Send ∷ []
sender_last SL.Drop = Of_sender SC.Drop ∷ []
sender_last SL.Stop = []

abbrev pub error_last : ErrorLast → List Call
error_last EL.IntoInner = Of_sender SC.IntoInner ∷ []
error_last EL.Drop = Of_sender SC.DropError ∷ []
error_last EL.Stop = []

abbrev pub error_script : ErrorScript → List Call
error_script error = replicate error.looks (Of_sender SC.AsInner) ++ error_last error.last

abbrev pub error_calls : {T : Type 0} → SenderLast T → List Call
error_calls (SL.Send message error) = error_script error
error_calls SL.Drop = []
error_calls SL.Stop = []

abbrev pub receiver_call : ReceiverCall → Call
receiver_call Script.TryRecv = Of_receiver RC.TryRecv
receiver_call Script.RecvRef = Of_receiver RC.RecvRef
receiver_call Script.RecvDeadline = Of_receiver RC.RecvDeadline
receiver_call (Script.RecvTimeout representable) = Of_receiver (RC.RecvTimeout representable)
receiver_call Script.HasMessage = Of_receiver RC.HasMessage
receiver_call Script.IsClosed = Of_receiver RC.IsClosed

abbrev pub async_call : AsyncCall → Call
async_call (AC.Poll number) = Poll number
async_call AC.TryRecv = Of_receiver RC.AsyncTryRecv
async_call AC.HasMessage = Of_receiver RC.HasMessage
async_call AC.IsClosed = Of_receiver RC.IsClosed

abbrev pub async_last : AsyncLast → List Call
async_last AL.Drop = Of_receiver RC.DropAsync ∷ []
async_last AL.Stop = []

abbrev pub async_calls : List AsyncCall → AsyncLast → List Call
async_calls calls last = map async_call calls ++ async_last last

abbrev pub receiver_last : ReceiverLast → List Call
receiver_last RL.Recv = Of_receiver RC.Recv ∷ []
receiver_last RL.Drop = Of_receiver RC.Drop ∷ []
receiver_last (RL.IntoFuture script) = Of_receiver RC.IntoFuture ∷ async_calls script.calls script.last
receiver_last RL.Stop = []

abbrev pub receiver_calls : List ReceiverCall → ReceiverLast → List Call
receiver_calls calls last = map receiver_call calls ++ receiver_last last

abbrev pub sender_calls : {T : Type 0} → SenderScript T → List Call
sender_calls s = replicate s.looks (Of_sender SC.IsClosed) ++ sender_last s.last

abbrev pub calls_of : {T : Type 0} → SenderScript T → ReceiverScript → Calls
calls_of s r =
    record {
      sender = sender_calls s;
      error = error_calls s.last;
      receiver = receiver_calls r.calls r.last;
    }

-- which calls leave the end in place, and which end it

abbrev pub stays_sender : Call → Bool
stays_sender (Of_sender SC.IsClosed) = true
stays_sender _ = false

-- only a script with a message has a send
abbrev pub ends_sender : Option Place → Call → Bool
ends_sender message (Of_sender SC.Send) = is_some message
ends_sender message (Of_sender SC.Drop) = true
ends_sender message _ = false

abbrev pub stays_error : Call → Bool
stays_error (Of_sender SC.AsInner) = true
stays_error _ = false

abbrev pub ends_error : Call → Bool
ends_error (Of_sender SC.IntoInner) = true
ends_error (Of_sender SC.DropError) = true
ends_error _ = false

abbrev pub stays_receiver : Call → Bool
stays_receiver (Of_receiver RC.TryRecv) = true
stays_receiver (Of_receiver RC.RecvRef) = true
stays_receiver (Of_receiver RC.RecvDeadline) = true
stays_receiver (Of_receiver (RC.RecvTimeout representable)) = true
stays_receiver (Of_receiver RC.HasMessage) = true
stays_receiver (Of_receiver RC.IsClosed) = true
stays_receiver _ = false

abbrev pub ends_receiver : Call → Bool
ends_receiver (Of_receiver RC.Recv) = true
ends_receiver (Of_receiver RC.Drop) = true
ends_receiver _ = false

abbrev pub stays_async : Call → Bool
stays_async (Poll number) = true
stays_async (Of_receiver RC.AsyncTryRecv) = true
stays_async (Of_receiver RC.HasMessage) = true
stays_async (Of_receiver RC.IsClosed) = true
stays_async _ = false

abbrev pub ends_async : Call → Bool
ends_async (Of_receiver RC.DropAsync) = true
ends_async _ = false

-- the call that makes the receiver a future
abbrev pub makes_future : Call → Bool
makes_future (Of_receiver RC.IntoFuture) = true
makes_future _ = false

-- the calls that each end, error or future may begin
abbrev pub begins_sender : Option Place → Call → Bool
begins_sender message call = stays_sender call || ends_sender message call

abbrev pub begins_error : Call → Bool
begins_error call = stays_error call || ends_error call

abbrev pub begins_receiver : Call → Bool
begins_receiver call = stays_receiver call || (ends_receiver call || makes_future call)

abbrev pub begins_async : Call → Bool
begins_async call = stays_async call || ends_async call
