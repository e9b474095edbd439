-- A run of a call: steps from the call's first position to its reply, each a row of the table.
use Rattle.std.specs.Prelude.{◌≡◌, List, [], ◌∷◌, Option, Some}
use Rattle.oneshot_machine.specs.declared.machine.Reply.{Reply}
use Rattle.oneshot_machine.specs.declared.machine.Seen.{Seen}
use Rattle.oneshot_machine.specs.declared.machine.Step.{Step}
use Rattle.oneshot_machine.specs.declared.machine.receiver.ReceiverStart.{ReceiverStart}
use Rattle.oneshot_machine.specs.declared.machine.sender.SenderCall.{SenderCall}
use Rattle.oneshot_machine.specs.TableRows.{Outcome, Goes, Answers}
use Rattle.oneshot_machine.specs.Sender.{sender_start, sender_step, sender_row}
use Rattle.oneshot_machine.specs.Receiver.{receiver_start, receiver_step, receiver_row}
use Rattle.oneshot_machine.specs.Logs.{Event, Log, Grows, messages_given, messages_got}

-- from this position on, these steps lead to this reply
pub data Run {P T W : Type 0} (step : P → Step) (row : P → Seen → Option (Outcome P))
    : P → List (Event T W) → Reply → Type 0 where
  last : {p : P} {r : Reply} (x : Event T W)
      → x.step ≡ step p → row p x.seen ≡ Some (Answers r) → Run step row p (x ∷ []) r
  more : {p : P} {r : Reply} (next : P) (x : Event T W) (xs : List (Event T W))
      → x.step ≡ step p → row p x.seen ≡ Some (Goes next) → Run step row next xs r → Run step row p (x ∷ xs) r

-- Between the two logs a ground made one run, which ends in the reply.
-- It was handed the messages `given`, and took the messages `got` out of their slot.
pub record Ran {P T W : Type 0} (step : P → Step) (row : P → Seen → Option (Outcome P))
    (from : P) (before after : Log T W) (reply : Reply) (given got : List T) : Type 0 where
  pub run : List (Event T W)
  pub is_run : Run step row from run reply
  pub grows : Grows before after run
  pub gives : messages_given run ≡ given
  pub gets : messages_got run ≡ got

module _ {T W : Type 0} where
  abbrev pub SenderRan : SenderCall → Log T W → Log T W → Reply → List T → List T → Type 0
  SenderRan call = Ran sender_step sender_row (sender_start call)

  abbrev pub ReceiverRan : ReceiverStart → Log T W → Log T W → Reply → List T → List T → Type 0
  ReceiverRan call = Ran receiver_step receiver_row (receiver_start call)
