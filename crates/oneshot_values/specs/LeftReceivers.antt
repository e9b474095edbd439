-- What is there for a sender once its receiver was dropped, and what a sender's last operation tells of its receiver.
use Rattle.std.specs.Prelude.{◌≡◌, [], ◌∷◌}
use Rattle.oneshot_machine.specs.declared.states.TheConstants.{DISCONNECTED}
use Rattle.oneshot_machine.specs.Over.{IsLate, HasLeft}
use Rattle.oneshot_machine.specs.Phases.{sender_at, receiver_at}
use Rattle.oneshot_word.specs.Side.{Side}
use Rattle.oneshot_ends.specs.Moments.{AtOneMoment}
use Rattle.oneshot_ends.specs.OwnWakers.{RealWaker}

module _ {T P : Type 0} (keeps : P → T → Type 0) where
  -- Once the drop of the receiver has performed its last operation, and before the sender has performed any, the word
  -- is DISCONNECTED.
  abbrev pub LeavingWordsAreThere : Type 0
  LeavingWordsAreThere =
      (sender receiver : Side T RealWaker P) → (moment : AtOneMoment keeps sender receiver)
      → HasLeft (receiver_at receiver.log) → sender.log ≡ [] → moment.words ≡ DISCONNECTED ∷ []

  -- A sender whose last operation found the receiver gone has a receiver that was dropped.
  abbrev pub LostReceiversWereDropped : Type 0
  LostReceiversWereDropped =
      (sender receiver : Side T RealWaker P) → AtOneMoment keeps sender receiver → IsLate (sender_at sender.log)
      → HasLeft (receiver_at receiver.log)
