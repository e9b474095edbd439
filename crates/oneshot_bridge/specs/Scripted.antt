-- Each state that the rule of the word allows is that of a run of the model, under two scripts and a schedule.
use Rattle.std.specs.Prelude.{◌≡◌, ℕ, List, Some}
use Rattle.oneshot_machine.specs.Noted.{Noted}
use Rattle.oneshot_machine.specs.Orders.{Reaches}
use Rattle.oneshot_world.specs.declared.script.Move.{Move}
use Rattle.oneshot_world.specs.declared.script.ReceiverScript.{ReceiverScript}
use Rattle.oneshot_world.specs.declared.script.SenderScript.{SenderScript}
use Rattle.oneshot_world.specs.declared.trace.Entry.{Entry}
use Rattle.oneshot_replay.specs.Rest.{message_of}
use Rattle.oneshot_replay.specs.Right.{IsRight}
use Rattle.oneshot_replay.specs.Run.{trace_at}
use Rattle.oneshot_replay.specs.Scene.{Scene}
use Rattle.oneshot_bridge.specs.OrdersRun.{RunsSo}
use Rattle.oneshot_bridge.specs.Walks.{SenderStand, ReceiverStand, SenderWalk, ReceiverWalk}

-- a script that sends no other message
abbrev pub SendsOnly : {T : Type 0} → T → SenderScript T → Type 0
SendsOnly {T} message s = (other : T) → message_of s.last ≡ Some other → other ≡ message

-- For each log that an order allows an end, a script of that end and a walk of it have this log. A
-- sender needs a message to send.
abbrev pub SenderIsScripted : (T : Type 0) → Type 0
SenderIsScripted T =
    (message : T) (xs ys : List Noted) (word : ℕ)
    → Reaches xs ys word → (s : SenderScript T) × SendsOnly message s × (at : SenderStand) × SenderWalk s xs at

abbrev pub ReceiverIsScripted : Type 0
ReceiverIsScripted =
    (xs ys : List Noted) (word : ℕ)
    → Reaches xs ys word → (r : ReceiverScript) × (at : ReceiverStand) × ReceiverWalk r ys at

-- Two scripts and a schedule: the run of the model has these operations of the sender, these of the
-- receiver and this word, and it keeps every law of a trace.
pub record IsOfARun {T : Type 0} (message : T) (xs ys : List Noted) (word : ℕ) : Type 0 where
  pub sender : SenderScript T
  pub sends : SendsOnly message sender
  pub receiver : ReceiverScript
  pub moves : List Move
  pub entries : List Entry
  pub now : Scene T
  pub run : RunsSo sender receiver moves entries now xs ys word
  pub right : IsRight sender receiver moves (trace_at entries now)

-- Each state that the rule of the word allows is that of a run.
abbrev pub StatesAreOfRuns : (T : Type 0) → Type 0
StatesAreOfRuns T = (message : T) (xs ys : List Noted) (word : ℕ) → Reaches xs ys word → IsOfARun message xs ys word
