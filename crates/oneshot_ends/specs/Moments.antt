-- A moment of a channel: what both ends show of it at once.
use Rattle.std.specs.Prelude.{◌≡◌, ℕ, List, Some}
use Rattle.futures.specs.declared.task.waker.Waker.{Waker}
use Rattle.oneshot_word.specs.Received.{both_views}
use Rattle.oneshot_word.specs.Rule.{Home, Tied}
use Rattle.oneshot_word.specs.Side.{Side}
use Rattle.oneshot_ends.specs.declared.token.WakingHalf.{WakingHalf}
use Rattle.oneshot_ends.specs.OwnWakers.{RealWaker}

module _ {T P : Type 0} (keeps : P → T → Type 0) where
  -- A moment of a channel, between two steps of its shared table: the table's rule allows a state in which both ends
  -- are as these sides show them. A side that was let go stays as it was.
  pub record AtOneMoment (sender receiver : Side T RealWaker P) : Type 0 where
    pub about : P
    pub words : List ℕ
    pub homes : List (Home T WakingHalf Waker)
    pub allowed : Tied keeps about words homes
        (both_views about sender.log sender.passed sender.handed receiver.log receiver.passed receiver.handed)

  -- What the receiver took, the sender gave: so it is the message that the sender gave.
  pub record TookWhatWasGiven : Type 0 where
    pub given : (sender receiver : Side T RealWaker P) (took : T) → AtOneMoment sender receiver
        → receiver.passed ≡ Some took → sender.passed ≡ Some took
    pub same : (sender receiver : Side T RealWaker P) (gave took : T) → AtOneMoment sender receiver
        → sender.passed ≡ Some gave → receiver.passed ≡ Some took → took ≡ gave
