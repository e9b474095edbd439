-- Each call as a step of the object, its reply for each answer of the object, and the kinds of calls.
use Rattle.std.specs.Prelude.{Bool, true, false, Option, Some, None}
use Rattle.oneshot_machine.specs.declared.machine.Reply.{Reply}
use Rattle.oneshot_machine.specs.declared.machine.Reply.TheVariants as R
use Rattle.oneshot_machine.specs.declared.machine.receiver.ReceiverStart.{ReceiverStart}
use Rattle.oneshot_machine.specs.declared.machine.receiver.ReceiverStart.TheVariants as RC
use Rattle.oneshot_machine.specs.declared.machine.sender.SenderCall.{SenderCall}
use Rattle.oneshot_machine.specs.declared.machine.sender.SenderCall.TheVariants as SC
use Rattle.oneshot_world.specs.Calls.{Call, Of_sender, Of_receiver, Poll, Stray}
use Rattle.oneshot_laws.specs.Object.{Action, Send as Send_step, Sender_gone, Take, Take_and_go, Look_full, Look_closed, Look_receiver_gone, Receiver_gone, Answer, Accepted, Returned, Message, Gone}
use Rattle.oneshot_laws.specs.Object.{Nothing_yet, Yes, No, Finished, Object, answer_of, object_after}

-- each call as a step of the object; the error's calls and `into_future` are none
abbrev pub sender_action : SenderCall → Option Action
sender_action SC.IsClosed = Some Look_receiver_gone
sender_action SC.Send = Some Send_step
sender_action SC.Drop = Some Sender_gone
sender_action SC.AsInner = None
sender_action SC.IntoInner = None
sender_action SC.DropError = None

abbrev pub receiver_action : ReceiverStart → Option Action
receiver_action RC.TryRecv = Some Take
receiver_action RC.RecvRef = Some Take
receiver_action RC.RecvDeadline = Some Take
receiver_action (RC.RecvTimeout representable) = Some Take
receiver_action RC.Recv = Some Take_and_go
receiver_action RC.HasMessage = Some Look_full
receiver_action RC.IsClosed = Some Look_closed
receiver_action RC.Drop = Some Receiver_gone
receiver_action RC.IntoFuture = None
receiver_action RC.Poll = Some Take
receiver_action RC.AsyncTryRecv = Some Take
receiver_action RC.DropAsync = Some Receiver_gone

abbrev pub action_of : Call → Option Action
action_of (Of_sender call) = sender_action call
action_of (Of_receiver call) = receiver_action call
action_of (Poll number) = receiver_action RC.Poll
action_of Stray = None

-- The reply of a receive for "nothing yet". A receive that waits without a deadline has none, so a history in
-- which it needs one is not legal.
abbrev pub nothing_yet_of : Call → Option Reply
nothing_yet_of (Of_receiver RC.TryRecv) = Some R.Empty
nothing_yet_of (Of_receiver RC.RecvDeadline) = Some R.Timeout
nothing_yet_of (Of_receiver (RC.RecvTimeout true)) = Some R.Timeout
nothing_yet_of (Poll number) = Some R.Pending
nothing_yet_of (Of_receiver RC.AsyncTryRecv) = Some R.Empty
nothing_yet_of _ = None

-- the reply for an answer
abbrev pub reading_of : Call → Answer → Option Reply
reading_of call Accepted = Some R.Sent
reading_of call Returned = Some R.Refused
reading_of call Message = Some R.Message
reading_of call Gone = Some R.Disconnected
reading_of call Nothing_yet = nothing_yet_of call
reading_of call Yes = Some R.Yes
reading_of call No = Some R.No
reading_of call Finished = Some R.Done

-- the reply of a call that is no step of the object: the refused message, done for its drop, or the future
abbrev pub fixed_reply_of : Call → Option Reply
fixed_reply_of (Of_sender SC.AsInner) = Some R.Message
fixed_reply_of (Of_sender SC.IntoInner) = Some R.Message
fixed_reply_of (Of_sender SC.DropError) = Some R.Done
fixed_reply_of (Of_receiver RC.IntoFuture) = Some R.Future
fixed_reply_of _ = None

-- the reply of a call that performs this step on this object, and the object after it
abbrev pub reply_on : Call → Object → Option Action → Option Reply
reply_on call o None = None
reply_on call o (Some action) = reading_of call (answer_of action o)

abbrev pub stepped : Option Action → Object → Object
stepped None o = o
stepped (Some action) o = object_after action o

-- kinds of calls
abbrev pub is_receive : Call → Bool
is_receive (Of_receiver RC.TryRecv) = true
is_receive (Of_receiver RC.RecvRef) = true
is_receive (Of_receiver RC.RecvDeadline) = true
is_receive (Of_receiver (RC.RecvTimeout representable)) = true
is_receive (Of_receiver RC.Recv) = true
is_receive (Poll number) = true
is_receive (Of_receiver RC.AsyncTryRecv) = true
is_receive _ = false

abbrev pub is_send : Call → Bool
is_send (Of_sender SC.Send) = true
is_send _ = false

abbrev pub is_sender_look : Call → Bool
is_sender_look (Of_sender SC.IsClosed) = true
is_sender_look _ = false

abbrev pub is_full_look : Call → Bool
is_full_look (Of_receiver RC.HasMessage) = true
is_full_look _ = false

abbrev pub is_closed_look : Call → Bool
is_closed_look (Of_receiver RC.IsClosed) = true
is_closed_look _ = false

abbrev pub is_drop_of_receiver : Call → Bool
is_drop_of_receiver (Of_receiver RC.Drop) = true
is_drop_of_receiver (Of_receiver RC.DropAsync) = true
is_drop_of_receiver _ = false

abbrev pub is_into_inner : Call → Bool
is_into_inner (Of_sender SC.IntoInner) = true
is_into_inner _ = false

abbrev pub is_drop_of_error : Call → Bool
is_drop_of_error (Of_sender SC.DropError) = true
is_drop_of_error _ = false

abbrev pub is_stray : Call → Bool
is_stray Stray = true
is_stray _ = false

-- the call that ends the sender, the receiver or the error
abbrev pub is_end_of_sender : Call → Bool
is_end_of_sender (Of_sender SC.Send) = true
is_end_of_sender (Of_sender SC.Drop) = true
is_end_of_sender _ = false

abbrev pub is_end_of_receiver : Call → Bool
is_end_of_receiver (Of_receiver RC.Recv) = true
is_end_of_receiver (Of_receiver RC.Drop) = true
is_end_of_receiver (Of_receiver RC.DropAsync) = true
is_end_of_receiver _ = false

abbrev pub is_end_of_error : Call → Bool
is_end_of_error (Of_sender SC.IntoInner) = true
is_end_of_error (Of_sender SC.DropError) = true
is_end_of_error _ = false
