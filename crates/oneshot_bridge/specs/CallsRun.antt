-- Between calls: the calls that both ends have made, with their replies, are those of a run of the model.
use Rattle.std.specs.Prelude.{◌≡◌, ◌≤◌, ℕ, Bool, true, false, List, [], map, filter, length, IsTrue}
use Rattle.oneshot_machine.specs.declared.machine.Reply.{Reply}
use Rattle.oneshot_machine.specs.declared.machine.receiver.ReceiverStart.{ReceiverStart}
use Rattle.oneshot_machine.specs.declared.machine.receiver.ReceiverStart.TheVariants as RC
use Rattle.oneshot_machine.specs.declared.machine.sender.SenderCall.{SenderCall}
use Rattle.oneshot_machine.specs.Called.{Form, ReceiverCalled, SenderCalled}
use Rattle.oneshot_machine.specs.Noted.{Noted}
use Rattle.oneshot_machine.specs.Orders.{InOrder, Reaches}
use Rattle.oneshot_world.specs.Calls.{Call, Of_sender, Of_receiver, Poll}
use Rattle.oneshot_world.specs.declared.script.ReceiverScript.{ReceiverScript}
use Rattle.oneshot_world.specs.declared.script.SenderScript.{SenderScript}
use Rattle.oneshot_world.specs.declared.state.ReceiverState.TheVariants.{Ready}
use Rattle.oneshot_world.specs.declared.state.SenderState.{SenderState}
use Rattle.oneshot_world.specs.declared.state.SenderState.TheVariants.{At}
use Rattle.oneshot_bridge.specs.Gives.{gave_message}
use Rattle.oneshot_bridge.specs.OrdersRun.{RunsTo}
use Rattle.oneshot_bridge.specs.Scripted.{SendsOnly}
use Rattle.oneshot_bridge.specs.Walks.{Answered, SenderStand, ReceiverStand}

-- a call as a script has it: there a poll has the number of its waker, which is in no log
abbrev pub in_script : ReceiverStart → Call
in_script RC.Poll = Poll 0
in_script call = Of_receiver call

abbrev pub receiver_answered : List (ReceiverStart × Reply) → List Answered
receiver_answered = map (λ (x : ReceiverStart × Reply). (in_script x.0, x.1))

abbrev pub sender_answered : List (SenderCall × Reply) → List Answered
sender_answered = map (λ (x : SenderCall × Reply). (Of_sender x.0, x.1))

-- the sender has no call under way
abbrev pub is_at_rest : SenderState → Bool
is_at_rest (At position) = false
is_at_rest _ = true

-- A run under two scripts, with these logs and this word. The receiver is between two calls. Its script
-- has only these calls, and it has made them all, with these replies.
pub record RunsCalls {T : Type 0} (message : T) (received : List (ReceiverStart × Reply)) (xs ys : List Noted)
    (word : ℕ) : Type 0 where
  pub sender : SenderScript T
  pub sends : SendsOnly message sender
  pub receiver : ReceiverScript
  pub s : SenderStand
  pub r : ReceiverStand
  pub run : RunsTo sender receiver xs ys word s r
  pub rests : r.0 ≡ Ready
  pub none_left : r.1.calls ≡ []
  pub answered : r.2 ≡ receiver_answered received

-- the same, and the sender is between its calls too, and has made these
pub record RunsBoth {T : Type 0} (message : T) (sent : List (SenderCall × Reply))
    (received : List (ReceiverStart × Reply)) (xs ys : List Noted) (word : ℕ) : Type 0 where
  pub calls : RunsCalls message received xs ys word
  pub rests : IsTrue (is_at_rest calls.s.0)
  pub none_left : calls.s.1.calls ≡ []
  pub answered : calls.s.2 ≡ sender_answered sent

-- Wherever the sender is: the receiver's own calls, with their replies.
abbrev pub CallsAreRuns : (T W : Type 0) → Type 0
CallsAreRuns T W =
    (message : T) (form : Form) (received : List (ReceiverStart × Reply)) (xs ys : List Noted) (word : ℕ)
    → Reaches xs ys word → ReceiverCalled T W form received ys → RunsCalls message received xs ys word

-- If both are between their calls: the own calls of both. The order may be any.
abbrev pub BothCallsAreRuns : (T W : Type 0) → Type 0
BothCallsAreRuns T W =
    (message : T) (form : Form) (sent : List (SenderCall × Reply)) (received : List (ReceiverStart × Reply))
    (xs ys : List Noted) (word : ℕ)
    → InOrder xs ys word → SenderCalled T W sent xs → ReceiverCalled T W form received ys
    → RunsBoth message sent received xs ys word

-- At most one of the receiver's own calls returned the message.
abbrev pub OneCallGets : (T W : Type 0) → Type 0
OneCallGets T W =
    T → (form : Form) (received : List (ReceiverStart × Reply)) (xs ys : List Noted) (word : ℕ)
    → Reaches xs ys word → ReceiverCalled T W form received ys
    → length (filter gave_message (receiver_answered received)) ≤ 1
