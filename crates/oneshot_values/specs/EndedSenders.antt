-- What is there for a receiver once its sender has performed its last operation: the word, and after a `send` the
-- message.
use Rattle.std.specs.Prelude.{◌≡◌, Bool, true, false, IsTrue, ℕ, List, [], ◌∷◌, Some}
use Rattle.futures.specs.declared.task.waker.Waker.{Waker}
use Rattle.oneshot_machine.specs.declared.states.TheConstants.{DISCONNECTED, MESSAGE}
use Rattle.oneshot_machine.specs.Noted.{Noted}
use Rattle.oneshot_machine.specs.Over.{SenderIsOver}
use Rattle.oneshot_machine.specs.Phases.{By, sending, dropping, sender_at, ReceiverAt, untouched, idle, waits, claimed, withdrew, overdue, receiver_at}
use Rattle.oneshot_word.specs.Rule.{Home, has_message}
use Rattle.oneshot_word.specs.Side.{Side}
use Rattle.oneshot_ends.specs.declared.token.WakingHalf.{WakingHalf}
use Rattle.oneshot_ends.specs.Ends.{IsOpen}
use Rattle.oneshot_ends.specs.Moments.{AtOneMoment}
use Rattle.oneshot_ends.specs.OwnWakers.{RealWaker}

-- a receiver that has found neither the message nor that none will come, and was not dropped
abbrev pub is_seeking : ReceiverAt → Bool
is_seeking untouched = true
is_seeking (idle open_at) = true
is_seeking (waits waiting) = true
is_seeking claimed = true
is_seeking withdrew = true
is_seeking overdue = true
is_seeking _ = false

abbrev pub IsSeeking : List Noted → Type 0
IsSeeking log = IsTrue (is_seeking (receiver_at log))

-- the word that the last operation of a sender leaves for a receiver that is there
abbrev pub last_word : By → ℕ
last_word sending = MESSAGE
last_word dropping = DISCONNECTED

-- The message's slot has the message that the sender gave. Nothing is stated of the waker's slot.
pub record MessageIsThere {T P : Type 0} (homes : List (Home T WakingHalf Waker)) (sender : Side T RealWaker P)
    : Type 0 where
  pub message : T
  pub gave : sender.passed ≡ Some message
  pub waker : Home T WakingHalf Waker
  pub there : homes ≡ has_message message ∷ waker ∷ []

-- An open receiver is one that seeks.
abbrev pub OpenReceiversSeek : Type 0
OpenReceiversSeek = (log : List Noted) → IsOpen log → IsSeeking log

module _ {T P : Type 0} (keeps : P → T → Type 0) where
  -- Once the sender has performed its last operation, and while the receiver seeks, the word is the one that this
  -- operation left.
  abbrev pub LastWordsAreThere : Type 0
  LastWordsAreThere =
      (by : By) (sender receiver : Side T RealWaker P) → (moment : AtOneMoment keeps sender receiver)
      → SenderIsOver by (sender_at sender.log) → IsSeeking receiver.log → moment.words ≡ last_word by ∷ []

  -- Once a `send` has performed its last operation, and while the receiver seeks, the message that the sender gave is
  -- in its slot.
  abbrev pub SentMessagesAreThere : Type 0
  SentMessagesAreThere =
      (sender receiver : Side T RealWaker P) → (moment : AtOneMoment keeps sender receiver)
      → SenderIsOver sending (sender_at sender.log) → IsSeeking receiver.log → MessageIsThere moment.homes sender
