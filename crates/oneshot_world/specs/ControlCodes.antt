-- Codes of finite values, by which the search of all that a run can reach distinguishes and orders them.
use Rattle.std.specs.Prelude.{ℕ, ◌+◌, ◌*◌, Bool, true, false, ◌&&◌, ◌==◌, Option, Some, None}
use Rattle.oneshot_machine.specs.Receiver.{receiver_start}
use Rattle.oneshot_machine.specs.Sender.{sender_start}
use Rattle.oneshot_machine.specs.Sender.{sender_number}
use Rattle.oneshot_machine.specs.Receiver.{receiver_number}
use Rattle.oneshot_machine.specs.declared.machine.receiver.ReceiverStart.{ReceiverStart}
use Rattle.oneshot_machine.specs.declared.machine.sender.SenderCall.{SenderCall}
use Rattle.oneshot_world.specs.Calls.{Call, Of_sender, Of_receiver, Poll, Stray}
use Rattle.oneshot_world.specs.Control.{Control}
use Rattle.oneshot_world.specs.Wakers.{is_same_waker}
use Rattle.oneshot_world.specs.declared.state.ReceiverState.TheVariants as RS
use Rattle.oneshot_world.specs.declared.state.ReceiverState.{ReceiverState}
use Rattle.oneshot_world.specs.declared.state.SenderState.TheVariants as SS
use Rattle.oneshot_world.specs.declared.state.SenderState.{SenderState}
use Rattle.oneshot_world.specs.declared.state.State.{State}
use Rattle.oneshot_world.specs.declared.trace.Place.TheVariants.{NotSent, InCell, InError, Delivered, FromError, Dropped}
use Rattle.oneshot_world.specs.declared.trace.Place.{Place}
use Rattle.oneshot_world.specs.declared.trace.WakerName.TheVariants.{Copy, Parker}
use Rattle.oneshot_world.specs.declared.trace.WakerName.{WakerName}
use Rattle.oneshot_world.specs.declared.wakers.Wakers.{Wakers}

-- codes, by which values are distinguished
abbrev pub sender_code : SenderState → ℕ
sender_code SS.Ready = 0
sender_code SS.Failed = 1
sender_code SS.Ended = 2
sender_code (SS.At position) = 3 + sender_number position

abbrev pub receiver_code : ReceiverState → ℕ
receiver_code RS.Ready = 0
receiver_code RS.Ended = 1
receiver_code (RS.At position) = 2 + receiver_number position

-- the code of a call is that of the position at which it begins: no two calls of an end begin at the same one
abbrev pub sender_call_code : SenderCall → ℕ
sender_call_code call = sender_number (sender_start call)

abbrev pub receiver_call_code : ReceiverStart → ℕ
receiver_call_code call = receiver_number (receiver_start call)

abbrev pub is_same_call : Call → Call → Bool
is_same_call (Of_sender a) (Of_sender b) = sender_call_code a == sender_call_code b
is_same_call (Of_receiver a) (Of_receiver b) = receiver_call_code a == receiver_call_code b
is_same_call (Poll a) (Poll b) = a == b
is_same_call Stray Stray = true
is_same_call _ _ = false

abbrev pub is_same_under_way : Option Call → Option Call → Bool
is_same_under_way None None = true
is_same_under_way (Some a) (Some b) = is_same_call a b
is_same_under_way _ _ = false

abbrev pub place_code : Option Place → ℕ
place_code None = 0
place_code (Some NotSent) = 1
place_code (Some InCell) = 2
place_code (Some InError) = 3
place_code (Some Delivered) = 4
place_code (Some FromError) = 5
place_code (Some Dropped) = 6

abbrev pub bool_code : Bool → ℕ
bool_code true = 1
bool_code false = 0

-- a number for a place and its content; the explored copies are distinguished by their number
abbrev pub name_code : Option WakerName → ℕ
name_code None = 0
name_code (Some Parker) = 1
name_code (Some (Copy number entry)) = 2 + number

abbrev pub is_same_name : Option WakerName → Option WakerName → Bool
is_same_name None None = true
is_same_name (Some a) (Some b) = is_same_waker a b
is_same_name _ _ = false

abbrev pub is_same_wakers : Wakers → Wakers → Bool
is_same_wakers v w =
    is_same_name v.cell w.cell
    && (is_same_name v.hand w.hand && (is_same_name v.taken w.taken && bool_code v.token == bool_code w.token))

abbrev pub is_same_state : State → State → Bool
is_same_state s t =
    sender_code s.sender == sender_code t.sender
    && (receiver_code s.receiver == receiver_code t.receiver
    && (s.word == t.word
    && (bool_code s.freed == bool_code t.freed
    && (bool_code s.future == bool_code t.future
    && (place_code s.message == place_code t.message && is_same_wakers s.wakers t.wakers)))))

abbrev pub is_same_control : Control → Control → Bool
is_same_control c d =
    is_same_state c.state d.state
    && (is_same_under_way c.sender d.sender && is_same_under_way c.receiver d.receiver)

-- The order in which the search keeps them. No two values that a run can reach have the same code, or the search would
-- not find one of them again, and the proof would fail.
abbrev pub wakers_code : Wakers → ℕ
wakers_code w = ((name_code w.cell * 4 + name_code w.hand) * 4 + name_code w.taken) * 2 + bool_code w.token

abbrev pub state_code : State → ℕ
state_code s =
    (((((sender_code s.sender * 64 + receiver_code s.receiver) * 8 + s.word) * 8 + place_code s.message) * 128
    + wakers_code s.wakers) * 2
    + bool_code s.freed) * 2
    + bool_code s.future

abbrev pub under_way_code : Option Call → ℕ
under_way_code None = 0
under_way_code (Some Stray) = 1
under_way_code (Some (Of_sender call)) = 2 + sender_call_code call
under_way_code (Some (Of_receiver call)) = 2 + receiver_call_code call
under_way_code (Some (Poll number)) = 128 + number

abbrev pub control_code : Control → ℕ
control_code c = (state_code c.state * 32 + under_way_code c.sender) * 256 + under_way_code c.receiver
