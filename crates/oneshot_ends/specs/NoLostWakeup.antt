-- No wakeup is lost: once the sender has ended, a receiver that sleeps has the token of its own parker there, and the
-- waker of a future that is registered was used.
use Rattle.std.specs.Prelude.{◌≡◌, ℕ, Bool, true, false, not, List, Some}
use mathlib.Core.Option.{some}
use lib.ListN.{get_elem?}
use Rattle.atomic_table.specs.Seated.{TableId}
use Rattle.crossbeam_utils.specs.Token.{parker_view}
use Rattle.futures.specs.declared.task.context.Context.{Context}
use Rattle.futures.specs.declared.task.waker.Waker.{Waker}
use Rattle.oneshot_machine.specs.Logs.{receiver_of}
use Rattle.oneshot_machine.specs.Phases.{By, receiver_at}
use Rattle.oneshot_drive.specs.Blocking.{Parks}
use Rattle.oneshot_drive.specs.Wakes.{found_receiver_waiting}
use Rattle.oneshot_word.specs.declared.any_waker.AnyWaker.TheVariants.{Task}
use Rattle.oneshot_word.specs.Side.{Side}
use Rattle.oneshot_ends.specs.declared.token.Given.{Given}
use Rattle.oneshot_ends.specs.declared.token.Half.{Half}
use Rattle.oneshot_ends.specs.declared.token.Half.TheVariants.{Parking}
use Rattle.oneshot_ends.specs.OwnWakers.{RealWaker, IsCopyFor, IsTaskOf, IsHalfOf, IsNoThread, is_waiting, Gave, WaitsByHalvesOf, WaitsByNoThread}
use Rattle.oneshot_ends.specs.Ends.{registered_by}
use Rattle.oneshot_ends.specs.Grounds.{state_of}
use Rattle.oneshot_ends.specs.Moments.{AtOneMoment}
use Rattle.oneshot_ends.specs.Tokens.{TokenIs, ParkingView}
use Rattle.oneshot_ends.specs.Woken.{Sending, WokeBy, HasEnded, found_waiting}

-- A receiver that sleeps by this half of its parker: what `park` requires of its ground, by the log and the wakers, and
-- of the half.
pub record SleepsOn {T P : Type 0} (half : ParkingView) (receiver : Side T RealWaker P) : Type 0 where
  pub timed : Bool
  pub parks : Parks timed (receiver_of (state_of receiver).log)
  pub own : WaitsByHalvesOf half.parker receiver
  pub untaken : half.taken ≡ false

-- A moment of a parker, between two steps of its table: the token's rule allows a state with the half that gave the
-- token, and with a parking half that took it or not.
pub record ParkerAt (evidence : Given) (taken is_there : Bool) : Type 0 where
  pub halves : List Half
  pub own : ℕ
  pub allowed : TokenIs is_there halves
  pub gave : get_elem? halves evidence.pass.id ≡ some (parker_view evidence.pass)
  pub parks : get_elem? halves own ≡ some (Parking taken)

-- A token that was given is there until the parking half takes it.
abbrev pub GivenTokensStay : Type 0
GivenTokensStay = (given : Given) (taken is_there : Bool) → ParkerAt given taken is_there → is_there ≡ not taken

-- the sender has given the token of this parker
pub record HasGivenTokenOf {T P : Type 0} (parker : TableId) (sender : Sending T RealWaker P) : Type 0 where
  pub evidence : Given
  pub is_it : sender.given ≡ Some evidence
  pub of_parker : evidence.pass.table_id ≡ parker

-- The sender has given the token of this half's parker, and it is there.
pub record HasTokenThere {T P : Type 0} (half : ParkingView) (sender : Sending T RealWaker P) : Type 0 where
  pub gave : HasGivenTokenOf half.parker sender
  pub there : (is_there : Bool) → ParkerAt gave.evidence half.taken is_there → is_there ≡ true

-- The sender has found its receiver waiting, has taken this copy of a task's waker, and has used it.
pub record HasUsed {T P : Type 0} (waker : Waker) (sender : Sending T RealWaker P) : Type 0 where
  pub found : found_waiting sender ≡ true
  pub woke : WokeBy (Task waker) sender

-- It has used a copy for the task of this context.
abbrev pub HasUsedWakerOf : {T P : Type 0} → Context → Sending T RealWaker P → Type 0
HasUsedWakerOf cx sender = (waker : Waker) × HasUsed waker sender × IsCopyFor cx waker

module _ {T P : Type 0} (keeps : P → T → Type 0) where
  -- A sender that has ended and found its receiver waiting has given the token of the parker whose half that
  -- receiver gave.
  abbrev pub EndedSendersGaveTokens : Type 0
  EndedSendersGaveTokens =
      (by : By) (sender : Sending T RealWaker P) (receiver : Side T RealWaker P) (parker : TableId)
      → AtOneMoment keeps sender.side receiver → HasEnded by sender → found_receiver_waiting sender.side.log ≡ true
      → Gave (IsHalfOf parker) receiver.handed → HasGivenTokenOf parker sender

  -- Once the sender has ended, a receiver that sleeps has its token there.
  abbrev pub NoSleeperIsForgotten : Type 0
  NoSleeperIsForgotten =
      (by : By) (sender : Sending T RealWaker P) (receiver : Side T RealWaker P) (half : ParkingView)
      → AtOneMoment keeps sender.side receiver → HasEnded by sender → SleepsOn half receiver
      → HasTokenThere half sender

  -- From a future that waits the sender takes no thread's waker.
  abbrev pub FuturesWakeNoThread : Type 0
  FuturesWakeNoThread =
      (sender : Sending T RealWaker P) (future : Side T RealWaker P) (taken : RealWaker)
      → AtOneMoment keeps sender.side future → WaitsByNoThread future
      → is_waiting (receiver_at future.log) ≡ true → sender.side.handed ≡ Some taken → IsNoThread taken

  -- A sender that has ended and found a future waiting, which gave a copy for this context's task last, has used a copy
  -- for this task. It is the one that the future gave last (`WokenIsPut` of `oneshot_word`).
  abbrev pub EndedSendersWokeTasks : Type 0
  EndedSendersWokeTasks =
      (by : By) (sender : Sending T RealWaker P) (future : Side T RealWaker P) (cx : Context)
      → AtOneMoment keeps sender.side future → HasEnded by sender → found_receiver_waiting sender.side.log ≡ true
      → Gave (IsTaskOf cx) future.handed → HasUsedWakerOf cx sender

  -- Once the sender has ended, it has used the waker of a future that is registered.
  abbrev pub NoTaskIsForgotten : Type 0
  NoTaskIsForgotten =
      (by : By) (sender : Sending T RealWaker P) (future : Side T RealWaker P) (waker : Waker)
      → AtOneMoment keeps sender.side future → HasEnded by sender → registered_by future ≡ Some waker
      → HasUsed waker sender
