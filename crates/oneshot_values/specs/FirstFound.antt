-- How a call replies by the word that its first operation finds.
use Rattle.std.specs.Prelude.{◌≡◌, Bool, true, false, IsTrue, ℕ, List, [], ◌∷◌}
use Rattle.oneshot_machine.specs.declared.machine.Reply.{Reply}
use Rattle.oneshot_machine.specs.declared.machine.Reply.TheVariants as R
use Rattle.oneshot_machine.specs.declared.machine.Seen.TheVariants.{Word}
use Rattle.oneshot_machine.specs.declared.machine.receiver.ReceiverStart.{ReceiverStart}
use Rattle.oneshot_machine.specs.declared.machine.receiver.ReceiverStart.TheVariants as RC
use Rattle.oneshot_machine.specs.declared.machine.sender.SenderCall.TheVariants.{Send}
use Rattle.oneshot_machine.specs.declared.states.Op.{Op}
use Rattle.oneshot_machine.specs.declared.states.TheConstants.{DISCONNECTED, MESSAGE}
use Rattle.oneshot_machine.specs.Logs.{Event, words}
use Rattle.oneshot_machine.specs.Noted.{Noted}
use Rattle.oneshot_machine.specs.Receiver.{receiver_start, receiver_step, receiver_row}
use Rattle.oneshot_machine.specs.Runs.{Run}
use Rattle.oneshot_machine.specs.Sender.{sender_start, sender_step, sender_row}
use Rattle.oneshot_ends.specs.Ends.{UnnamedWaker}

-- the receives and the polls
abbrev pub receives : ReceiverStart → Bool
receives RC.TryRecv = true
receives RC.Recv = true
receives RC.RecvRef = true
receives RC.RecvDeadline = true
receives (RC.RecvTimeout representable) = true
receives RC.Poll = true
receives RC.AsyncTryRecv = true
receives _ = false

-- the first of these operations found this word
pub data FirstFound (word : ℕ) : List Noted → Type 0 where
  first_found : (op : Op) (rest : List Noted) → FirstFound word ((op, Word word) ∷ rest)

module _ (T : Type 0) where
  abbrev pub ReceiveRun : ReceiverStart → List (Event T UnnamedWaker) → Reply → Type 0
  ReceiveRun call = Run receiver_step receiver_row (receiver_start call)

  -- Each run of a receive or a poll has an operation. If the first one finds MESSAGE, the run ends in the reply
  -- Message. If it finds DISCONNECTED, the run ends in the reply Disconnected.
  pub record ReceivesByFirstWord : Type 0 where
    pub operates : (call : ReceiverStart) (run : List (Event T UnnamedWaker)) (reply : Reply) → IsTrue (receives call)
        → ReceiveRun call run reply → words run ≡ [] → ⊥
    pub message : (call : ReceiverStart) (run : List (Event T UnnamedWaker)) (reply : Reply) → IsTrue (receives call)
        → ReceiveRun call run reply → FirstFound MESSAGE (words run) → reply ≡ R.Message
    pub none : (call : ReceiverStart) (run : List (Event T UnnamedWaker)) (reply : Reply) → IsTrue (receives call)
        → ReceiveRun call run reply → FirstFound DISCONNECTED (words run) → reply ≡ R.Disconnected

  abbrev pub SendRun : List (Event T UnnamedWaker) → Reply → Type 0
  SendRun = Run sender_step sender_row (sender_start Send)

  -- Each run of a `send` has an operation. If the first one finds DISCONNECTED, the run ends in the refusal.
  pub record SendsByFirstWord : Type 0 where
    pub operates : (run : List (Event T UnnamedWaker)) (reply : Reply) → SendRun run reply → words run ≡ [] → ⊥
    pub refused : (run : List (Event T UnnamedWaker)) (reply : Reply) → SendRun run reply
        → FirstFound DISCONNECTED (words run) → reply ≡ R.Refused
