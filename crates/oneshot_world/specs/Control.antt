-- The control of a world, which is finite up to the names of wakers: all but the calls left, and the moves from there.
use Rattle.std.specs.Prelude.{ℕ, Bool, true, false, List, [], ◌∷◌, ◌++◌, map, filter, Option, Some, None}
use Rattle.std.specs.Option.{option_map}
use Rattle.std.specs.List.{filter_map, flat_map}
use Rattle.oneshot_machine.specs.declared.machine.End.TheVariants.{Sender, Receiver}
use Rattle.oneshot_machine.specs.declared.machine.End.{End}
use Rattle.oneshot_world.specs.Calls.{Call, Of_sender, Of_receiver, Poll, first}
use Rattle.oneshot_machine.specs.declared.machine.receiver.ReceiverStart.{ReceiverStart}
use Rattle.oneshot_machine.specs.declared.machine.receiver.ReceiverStart.TheVariants as RC
use Rattle.oneshot_machine.specs.declared.machine.sender.SenderCall.{SenderCall}
use Rattle.oneshot_machine.specs.declared.machine.sender.SenderCall.TheVariants as SC
use Rattle.oneshot_world.specs.Classes.{Classes, as_input, as_state, as_call, as_entry}
use Rattle.oneshot_world.specs.Scripts.{begins_sender, begins_error, begins_receiver, begins_async}
use Rattle.oneshot_world.specs.State.{turns}
use Rattle.oneshot_world.specs.World.{World, no_input}
use Rattle.oneshot_world.specs.declared.state.ReceiverState.TheVariants as RS
use Rattle.oneshot_world.specs.declared.state.ReceiverState.{ReceiverState}
use Rattle.oneshot_world.specs.declared.state.SenderState.TheVariants as SS
use Rattle.oneshot_world.specs.declared.state.SenderState.{SenderState}
use Rattle.oneshot_world.specs.declared.state.State.{State}
use Rattle.oneshot_world.specs.declared.trace.Entry.{Entry}
use Rattle.oneshot_world.specs.declared.trace.Place.{Place}
use Rattle.oneshot_world.specs.declared.trace.WakerName.TheVariants.{Copy}
use Rattle.oneshot_world.specs.declared.wakers.Input.{Input}

-- the state, and each end's call under way
pub record Control : Type 0 where
  pub state : State
  pub sender : Option Call
  pub receiver : Option Call

-- the call under way, of an end whose first call left is this one
abbrev pub sender_under_way : SenderState → Option Call → Option Call
sender_under_way SS.Ready call = None
sender_under_way (SS.At position) call = call
sender_under_way SS.Failed call = None
sender_under_way SS.Ended call = None

abbrev pub receiver_under_way : ReceiverState → Option Call → Option Call
receiver_under_way RS.Ready call = None
receiver_under_way (RS.At position) call = call
receiver_under_way RS.Ended call = None

abbrev pub control_of : World → Control
control_of w =
    record {
      state = w.state;
      sender = sender_under_way w.state.sender (first w.sender.calls);
      receiver = receiver_under_way w.state.receiver (first w.receiver.calls);
    }

-- a move: the end that makes it, its input to the step, and the call that the end has under way or begins
pub record Begin : Type 0 where
  pub side : End
  pub input : Input
  pub call : Option Call

-- a move for each of these calls that the end may begin
abbrev pub begins_with : End → Input → (Call → Bool) → List Call → List Begin
begins_with side t may calls = map (λ call. record { side = side; input = t; call = Some call }) (filter may calls)

-- every call
abbrev pub all_sender_calls : List SenderCall
all_sender_calls = SC.IsClosed ∷ SC.Send ∷ SC.Drop ∷ SC.AsInner ∷ SC.IntoInner ∷ SC.DropError ∷ []

abbrev pub all_receiver_calls : List ReceiverStart
all_receiver_calls =
    RC.TryRecv
    ∷ RC.RecvRef
    ∷ RC.RecvDeadline
    ∷ RC.RecvTimeout false
    ∷ RC.RecvTimeout true
    ∷ RC.Recv
    ∷ RC.HasMessage
    ∷ RC.IsClosed
    ∷ RC.Drop
    ∷ RC.IntoFuture
    ∷ RC.Poll
    ∷ RC.AsyncTryRecv
    ∷ RC.DropAsync
    ∷ []

-- the moves of an end: it continues the call under way, or begins any call
abbrev pub sender_begins : Option Place → SenderState → Option Call → List Begin
sender_begins message SS.Ready call =
    begins_with Sender no_input (begins_sender message) (map Of_sender all_sender_calls)
sender_begins message (SS.At position) call = record { side = Sender; input = no_input; call = call } ∷ []
sender_begins message SS.Failed call = begins_with Sender no_input begins_error (map Of_sender all_sender_calls)
sender_begins message SS.Ended call = []

abbrev pub plain_input : Bool → Input
plain_input answer = record { answer = answer; copy = None; own = None }

-- the input of a move to a poll of a class, with the class of its copy
abbrev pub poll_input : Bool → ℕ → ℕ → Input
poll_input answer number copy = record { answer = answer; copy = Some (Copy copy 0); own = Some number }

abbrev pub poll_begin : Bool → ℕ → ℕ → Begin
poll_begin answer number copy =
    record { side = Receiver; input = poll_input answer number copy; call = Some (Poll number) }

-- `polls` are the classes of polls, and `copies` those of the copies that a poll of a class may make now
abbrev pub begins_poll : (ℕ → List ℕ) → Bool → ℕ → List Begin
begins_poll copies answer number = map (λ copy. poll_begin answer number copy) (copies number)

abbrev pub goes_on_with : (ℕ → List ℕ) → Bool → Option Call → List Begin
goes_on_with copies answer (Some (Poll number)) = begins_poll copies answer number
goes_on_with copies answer call = record { side = Receiver; input = plain_input answer; call = call } ∷ []

abbrev pub receiver_begins_at : List ℕ → (ℕ → List ℕ) → Bool → ReceiverState → Bool → Option Call → List Begin
receiver_begins_at polls copies answer RS.Ready false call =
    begins_with Receiver (plain_input answer) begins_receiver (map Of_receiver all_receiver_calls)
receiver_begins_at polls copies answer RS.Ready true call =
    begins_with Receiver (plain_input answer) begins_async (map Of_receiver all_receiver_calls)
    ++ flat_map (begins_poll copies answer) polls
receiver_begins_at polls copies answer (RS.At position) future call = goes_on_with copies answer call
receiver_begins_at polls copies answer RS.Ended future call = []

abbrev pub receiver_begins : List ℕ → (ℕ → List ℕ) → ReceiverState → Bool → Option Call → List Begin
receiver_begins polls copies s future call =
    receiver_begins_at polls copies false s future call ++ receiver_begins_at polls copies true s future call

abbrev pub begins : List ℕ → (ℕ → List ℕ) → Control → List Begin
begins polls copies c =
    sender_begins c.state.message c.state.sender c.sender
    ++ receiver_begins polls copies c.state.receiver c.state.future c.receiver

-- the control after a move that leaves this state
abbrev pub control_then : End → Option Call → Control → State → Control
control_then Sender call c s =
    record { state = s; sender = sender_under_way s.sender call; receiver = c.receiver }
control_then Receiver call c s =
    record { state = s; sender = c.sender; receiver = receiver_under_way s.receiver call }

abbrev pub control_turn : Control → Begin → Option (Entry × Control)
control_turn c b =
    option_map (λ turned. (turned.0, control_then b.side b.call c turned.1)) (turns b.side b.input c.state b.call)

abbrev pub successors : List ℕ → (ℕ → List ℕ) → Control → List Control
successors polls copies c =
    filter_map (λ b. option_map (λ turned. turned.1) (control_turn c b)) (begins polls copies c)

-- moves and controls by classes
abbrev pub as_begin : Classes → Begin → Begin
as_begin k b = record { side = b.side; input = as_input k b.input; call = option_map (as_call k) b.call }

abbrev pub as_control : Classes → Control → Control
as_control k c =
    record {
      state = as_state k c.state;
      sender = option_map (as_call k) c.sender;
      receiver = option_map (as_call k) c.receiver;
    }

abbrev pub as_control_turned : Classes → Entry × Control → Entry × Control
as_control_turned k turned = (as_entry k turned.0, as_control k turned.1)
