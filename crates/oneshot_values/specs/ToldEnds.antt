-- What the operations of a receiver tell of its sender.
use Rattle.std.specs.Prelude.{◌≡◌, Bool, true, false, IsTrue, List}
use Rattle.oneshot_machine.specs.Noted.{Noted}
use Rattle.oneshot_machine.specs.Phases.{sending, dropping, finished, sender_at, ReceiverAt, full, overwritten, disconnected, resolved, receiver_at}
use Rattle.oneshot_word.specs.Side.{Side}
use Rattle.oneshot_ends.specs.Moments.{AtOneMoment}
use Rattle.oneshot_ends.specs.OwnWakers.{RealWaker}
use Rattle.oneshot_ends.specs.Taken.{has_found}

-- a receiver that has found the message, or that none will come, and was not dropped
abbrev pub is_answered : ReceiverAt → Bool
is_answered (full got) = true
is_answered (overwritten by) = true
is_answered (disconnected closing) = true
is_answered (resolved closing) = true
is_answered _ = false

abbrev pub IsAnswered : List Noted → Type 0
IsAnswered log = IsTrue (is_answered (receiver_at log))

module _ {T P : Type 0} (keeps : P → T → Type 0) where
  -- A receiver whose operations found the message has a sender whose `send` found it there.
  abbrev pub FoundMessagesWereSent : Type 0
  FoundMessagesWereSent =
      (sender receiver : Side T RealWaker P) → AtOneMoment keeps sender receiver → has_found receiver.log ≡ true
      → sender_at sender.log ≡ finished sending

  -- A receiver that found that no message will come, and whose operations found none, has a sender whose drop found it
  -- there.
  abbrev pub LostSendersWereDropped : Type 0
  LostSendersWereDropped =
      (sender receiver : Side T RealWaker P) → AtOneMoment keeps sender receiver → IsAnswered receiver.log
      → has_found receiver.log ≡ false → sender_at sender.log ≡ finished dropping
