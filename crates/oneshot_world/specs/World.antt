-- The world between two moves, and a run as a list of worlds.
use Rattle.std.specs.Prelude.{◌≡◌, ℕ, ◌+◌, if◌then◌else◌, Bool, true, false, List, [], ◌∷◌, Option, Some, None}
use Rattle.std.specs.Option.{option_map, option_and_then}
use Rattle.oneshot_machine.specs.declared.machine.End.{End}
use Rattle.oneshot_machine.specs.declared.machine.End.TheVariants.{Sender, Receiver}
use Rattle.oneshot_machine.specs.declared.machine.Reply.{Reply}
use Rattle.oneshot_machine.specs.declared.machine.Step.{Step}
use Rattle.oneshot_machine.specs.declared.machine.Step.TheVariants as T
use Rattle.oneshot_machine.specs.declared.machine.receiver.ReceiverPos.{ReceiverPos}
use Rattle.oneshot_machine.specs.Receiver.{receiver_step}
use Rattle.oneshot_world.specs.Calls.{Unanswered, Calls, first, left_by, number_of}
use Rattle.oneshot_world.specs.Scripts.{calls_of}
use Rattle.oneshot_world.specs.State.{opening_state, position_of_receiver, turns}
use Rattle.oneshot_world.specs.declared.script.Move.{Move}
use Rattle.oneshot_world.specs.declared.script.Move.TheVariants as M
use Rattle.oneshot_world.specs.declared.script.ReceiverScript.{ReceiverScript}
use Rattle.oneshot_world.specs.declared.script.SenderLast.{SenderLast}
use Rattle.oneshot_world.specs.declared.script.SenderLast.TheVariants as SL
use Rattle.oneshot_world.specs.declared.script.SenderScript.{SenderScript}
use Rattle.oneshot_world.specs.declared.state.State.{State}
use Rattle.oneshot_world.specs.declared.trace.Entry.{Entry}
use Rattle.oneshot_world.specs.declared.trace.Entry.TheVariants.{Idle, Made as Made_entry}
use Rattle.oneshot_world.specs.declared.trace.Place.{Place}
use Rattle.oneshot_world.specs.declared.trace.WakerName.TheVariants.{Copy}
use Rattle.oneshot_world.specs.declared.wakers.Input.{Input}
use Rattle.oneshot_world.specs.declared.trace.Place.TheVariants.{NotSent}

-- the state, and the calls left to each end
pub record World : Type 0 where
  pub state : State
  pub sender : Unanswered
  pub receiver : Unanswered

-- the world of two scripts before the first move
abbrev pub opening_place : {T : Type 0} → SenderLast T → Option Place
opening_place (SL.Send message error) = Some NotSent
opening_place SL.Drop = None
opening_place SL.Stop = None

abbrev pub opening_with : Option Place → Calls → World
opening_with message c =
    record {
      state = opening_state message;
      sender = record { calls = c.sender; error = c.error };
      receiver = record { calls = c.receiver; error = [] };
    }

abbrev pub opening : {T : Type 0} → SenderScript T → ReceiverScript → World
opening s r = opening_with (opening_place s.last) (calls_of s r)

abbrev pub side_of : Move → End
side_of M.Sender = Sender
side_of (M.Receiver over refuse) = Receiver

-- what a move decides of a clock or of a copy: only the receiver uses it
abbrev pub is_copying : Step → Bool
is_copying T.Copy = true
is_copying _ = false

abbrev pub copies_at : Option ReceiverPos → Bool
copies_at None = false
copies_at (Some position) = is_copying (receiver_step position)

abbrev pub receiver_answer : Option ReceiverPos → Bool → Bool → Bool
receiver_answer position over refuse = if copies_at position then refuse else over

-- the input to its step of the move that makes this entry: in a poll also the copy that it may make, and the
-- poll's number
abbrev pub input_of : Bool → ℕ → Option ℕ → Input
input_of answer entry number =
    record { answer = answer; copy = option_map (λ number. Copy number entry) number; own = number }

abbrev pub no_input : Input
no_input = record { answer = false; copy = None; own = None }

abbrev pub by_end : {X : Type 0} → End → X → X → X
by_end Sender sender receiver = sender
by_end Receiver sender receiver = receiver

-- the reply that an entry has
abbrev pub reply_in : Entry → Option Reply
reply_in (Idle side) = None
reply_in (Made_entry e) = e.reply

abbrev pub left_then : End → End → Entry → Unanswered → Unanswered
left_then Sender Sender entry left = left_by Sender (reply_in entry) left
left_then Receiver Receiver entry left = left_by Receiver (reply_in entry) left
left_then Sender Receiver entry left = left
left_then Receiver Sender entry left = left

abbrev pub world_then : End → World → Entry × State → Entry × World
world_then side w turned = (
  turned.0,
  record {
    state = turned.1;
    sender = left_then side Sender turned.0 w.sender;
    receiver = left_then side Receiver turned.0 w.receiver;
  },
)

-- the input of a receiver's move to its step
abbrev pub receiver_input : Bool → ℕ → World → Input
receiver_input answer entry w = input_of answer entry (option_and_then number_of (first w.receiver.calls))

-- what an end of a world does
abbrev pub turn_of : End → Input → World → Option (Entry × World)
turn_of side t w = option_map (world_then side w) (turns side t w.state (first (by_end side w.sender w.receiver).calls))

abbrev pub move_input : Move → ℕ → World → Input
move_input M.Sender entry w = no_input
move_input (M.Receiver over refuse) entry w =
    receiver_input (receiver_answer (position_of_receiver w.state (first w.receiver.calls)) over refuse) entry w

-- The move that makes entry `entry`, counted from 1: that entry, and the next world. None if the table
-- of the moving end has no row for what the step sees, or the step does not fit the state.
abbrev pub turn : ℕ → World → Move → Option (Entry × World)
turn entry w move = turn_of (side_of move) (move_input move entry w) w

-- A run: entry k is that of move k, from world k to world k + 1. There is one more world than moves:
-- `w`, and then these.
abbrev pub IsRunFrom : ℕ → World → List World → List Move → List Entry → Type 0
IsRunFrom k w [] [] [] = Unit {0}
IsRunFrom k w (next ∷ worlds) (move ∷ moves) (entry ∷ entries) =
    (turn k w move ≡ Some (entry, next)) × IsRunFrom (k + 1) next worlds moves entries
IsRunFrom k w _ _ _ = ⊥

abbrev pub IsRun : World → List World → List Move → List Entry → Type 0
IsRun = IsRunFrom 1
