-- One step of one end: its entry, and the state that it leaves.
use Rattle.std.specs.Prelude.{Bool, true, false, ◌&&◌, ◌||◌, is_some, is_none, Option, Some, None, if◌then◌else◌}
use Rattle.std.specs.Option.{option_map, option_and_then}
use Rattle.oneshot_machine.specs.TableRows.{Outcome}
use Rattle.oneshot_machine.specs.Sender.{sender_start, sender_step, sender_row}
use Rattle.oneshot_machine.specs.Receiver.{receiver_start, receiver_step, receiver_row}
use Rattle.oneshot_machine.specs.declared.machine.End.{End}
use Rattle.oneshot_machine.specs.declared.machine.End.TheVariants.{Sender, Receiver}
use Rattle.oneshot_machine.specs.declared.machine.Reply.{Reply}
use Rattle.oneshot_machine.specs.declared.machine.Step.{Step}
use Rattle.oneshot_machine.specs.declared.machine.Step.TheVariants as T
use Rattle.oneshot_machine.specs.declared.machine.Step.TheVariants.{WriteMessage, TakeMessage, DropMessage, WriteWaker, TakeWaker, Withdraw, Park, Clock, Wake, WakeOwn}
use Rattle.oneshot_machine.specs.declared.machine.receiver.ReceiverPos.{ReceiverPos}
use Rattle.oneshot_machine.specs.declared.machine.receiver.ReceiverStart.{ReceiverStart}
use Rattle.oneshot_machine.specs.declared.machine.sender.SenderCall.{SenderCall}
use Rattle.oneshot_machine.specs.declared.machine.sender.SenderPos.{SenderPos}
use Rattle.oneshot_world.specs.Calls.{Call, as_sender_call, as_receiver_call}
use Rattle.oneshot_world.specs.Effects.{seen_by, word_left, freed_by, shown, sender_puts, receiver_puts, place_left, move_of, reply_of, sender_goes, receiver_goes, is_future}
use Rattle.oneshot_world.specs.Wakers.{opening_wakers, wakers_left, waker_move, sets_token, own_of, is_copy}
use Rattle.oneshot_world.specs.declared.state.ReceiverState.{ReceiverState}
use Rattle.oneshot_world.specs.declared.state.ReceiverState.TheVariants as RS
use Rattle.oneshot_world.specs.declared.state.SenderState.{SenderState}
use Rattle.oneshot_world.specs.declared.state.SenderState.TheVariants as SS
use Rattle.oneshot_world.specs.declared.state.State.{State}
use Rattle.oneshot_world.specs.declared.trace.Entry.{Entry}
use Rattle.oneshot_world.specs.declared.trace.Entry.TheVariants.{Idle, Made as Made_entry}
use Rattle.oneshot_world.specs.declared.trace.Made.{Made}
use Rattle.oneshot_world.specs.declared.trace.Place.{Place}
use Rattle.oneshot_world.specs.declared.trace.Place.TheVariants.{NotSent, InCell, InError}
use Rattle.oneshot_world.specs.declared.wakers.Input.{Input}
use Rattle.oneshot_world.specs.declared.wakers.Wakers.{Wakers}
use Rattle.oneshot_machine.specs.declared.states.TheConstants.{EMPTY}

-- the state before the first move
abbrev pub opening_state : Option Place → State
opening_state message =
    record {
      word = EMPTY;
      freed = false;
      sender = SS.Ready;
      receiver = RS.Ready;
      future = false;
      message = message;
      wakers = opening_wakers;
    }

-- Which steps fit a state. A cell or a hand must be empty to be written, and full to be read. The
-- receiver reads the message in its cell, and the sender's side in its error.
abbrev pub is_unsent : Option Place → Bool
is_unsent (Some NotSent) = true
is_unsent _ = false

abbrev pub is_in_cell : Option Place → Bool
is_in_cell (Some InCell) = true
is_in_cell _ = false

abbrev pub is_in_error : Option Place → Bool
is_in_error (Some InError) = true
is_in_error _ = false

abbrev pub sender_fits : State → Step → Bool
sender_fits s WriteMessage = is_unsent s.message
sender_fits s TakeMessage = is_in_error s.message
sender_fits s DropMessage = is_in_error s.message
sender_fits s TakeWaker = is_some s.wakers.cell && is_none s.wakers.taken
sender_fits s Wake = is_some s.wakers.taken
sender_fits s WriteWaker = false
sender_fits s Withdraw = false
sender_fits s Park = false
sender_fits s Clock = false
sender_fits s T.Copy = false
sender_fits s WakeOwn = false
sender_fits s _ = true

abbrev pub receiver_fits : State → Step → Bool
receiver_fits s TakeMessage = is_in_cell s.message
receiver_fits s DropMessage = is_in_cell s.message
receiver_fits s WriteWaker = is_some s.wakers.hand && is_none s.wakers.cell
receiver_fits s Withdraw = is_some s.wakers.cell && (is_copy s.wakers.cell || is_none s.wakers.hand)
receiver_fits s T.Copy = is_none s.wakers.hand
receiver_fits s WriteMessage = false
receiver_fits s TakeWaker = false
receiver_fits s Wake = false
receiver_fits s _ = true

-- the entry of an end's step, with its reply if it ends the call, and the place where it puts the message
abbrev pub made : End → Input → State → Step → Option Reply → Option Place → Made
made side t s step reply to =
    record {
      side = side;
      step = step;
      seen = seen_by t.answer s step;
      before = shown s.freed s.word;
      after = shown (freed_by s.freed step) (word_left s.word step);
      message = move_of s.message to;
      waker = waker_move t s.word s.wakers step;
      token_set = sets_token s.wakers step;
      own = own_of t step;
      reply = reply;
    }

-- the state after a step that puts the message at `to`, except the state of the step's end
abbrev pub moved : Input → State → Step → Option Place → State
moved t s step to =
    record s {
      word = word_left s.word step;
      freed = freed_by s.freed step;
      message = place_left s.message to;
      wakers = wakers_left t s.word s.wakers step;
    }

-- a step by a row of its table
abbrev pub sender_moved : Input → State → Step → Outcome SenderPos → State
sender_moved t s step row = record (moved t s step (sender_puts step (reply_of row))) { sender = sender_goes step row }

abbrev pub sender_stepped : Input → State → Step → Outcome SenderPos → Made × State
sender_stepped t s step row = (
  made Sender t s step (reply_of row) (sender_puts step (reply_of row)),
  sender_moved t s step row,
)

-- a receiver that becomes a future gives up the parker's half in its hand
abbrev pub hand_kept : Bool → Wakers → Wakers
hand_kept future w = record w { hand = if future then None else w.hand }

abbrev pub receiver_moved : Input → State → Step → Outcome ReceiverPos → State
receiver_moved t s step row =
    record (moved t s step (receiver_puts step)) {
      receiver = receiver_goes step row;
      future = s.future || is_future (reply_of row);
      wakers = hand_kept (is_future (reply_of row)) (wakers_left t s.word s.wakers step);
    }

abbrev pub receiver_stepped : Input → State → Step → Outcome ReceiverPos → Made × State
receiver_stepped t s step row = (
  made Receiver t s step (reply_of row) (receiver_puts step),
  receiver_moved t s step row,
)

-- the step at a position; none if the table has no row for what is seen, or the step does not fit the state
abbrev pub sender_steps : Input → State → SenderPos → Option (Made × State)
sender_steps t s position =
    if sender_fits s (sender_step position)
    then option_map
    (sender_stepped t s (sender_step position))
    (sender_row position (seen_by t.answer s (sender_step position)))
    else None

abbrev pub receiver_steps : Input → State → ReceiverPos → Option (Made × State)
receiver_steps t s position =
    if receiver_fits s (receiver_step position)
    then option_map
    (receiver_stepped t s (receiver_step position))
    (receiver_row position (seen_by t.answer s (receiver_step position)))
    else None

-- the position of an end's next step: in the call under way, or at the start of the next call
abbrev pub sender_position : SenderState → Option SenderCall → Option SenderPos
sender_position SS.Ready call = option_map sender_start call
sender_position (SS.At position) call = Some position
sender_position SS.Failed call = option_map sender_start call
sender_position SS.Ended call = None

abbrev pub receiver_position : ReceiverState → Option ReceiverStart → Option ReceiverPos
receiver_position RS.Ready call = option_map receiver_start call
receiver_position (RS.At position) call = Some position
receiver_position RS.Ended call = None

abbrev pub made_entry : Made × State → Entry × State
made_entry stepped = (Made_entry stepped.0, stepped.1)

-- what an end does at its position: without one it has no step, and is idle
abbrev pub sender_turns_at : Input → State → Option SenderPos → Option (Entry × State)
sender_turns_at t s None = Some (Idle Sender, s)
sender_turns_at t s (Some position) = option_map made_entry (sender_steps t s position)

abbrev pub receiver_turns_at : Input → State → Option ReceiverPos → Option (Entry × State)
receiver_turns_at t s None = Some (Idle Receiver, s)
receiver_turns_at t s (Some position) = option_map made_entry (receiver_steps t s position)

-- the position of an end whose call under way, or next, is this one
abbrev pub position_of_sender : State → Option Call → Option SenderPos
position_of_sender s call = sender_position s.sender (option_and_then as_sender_call call)

abbrev pub position_of_receiver : State → Option Call → Option ReceiverPos
position_of_receiver s call = receiver_position s.receiver (option_and_then as_receiver_call call)

-- and what that end does
abbrev pub turns : End → Input → State → Option Call → Option (Entry × State)
turns Sender t s call = sender_turns_at t s (position_of_sender s call)
turns Receiver t s call = receiver_turns_at t s (position_of_receiver s call)
