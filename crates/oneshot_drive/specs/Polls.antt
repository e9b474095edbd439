-- How a poll ends, the states of a future between its calls, and which wakers its calls pass on.
use Rattle.std.specs.Prelude.{◌≡◌, ◌⊎◌, ⊤, Bool, true, false, List, [], ◌∷◌, Option, None, Result, Ok, Err}
use Rattle.std.specs.List.{filter_map}
use Rattle.futures.specs.declared.task.Poll.{Poll}
use Rattle.futures.specs.declared.task.Poll.TheVariants.{Ready, Pending}
use Rattle.oneshot_errors.specs.declared.recv.RecvError.{RecvError}
use Rattle.oneshot_errors.specs.declared.try_recv.TryRecvError.{TryRecvError}
use Rattle.oneshot_errors.specs.declared.try_recv.TryRecvError.TheVariants as E
use Rattle.oneshot_drive.specs.declared.found.Found.{Found}
use Rattle.oneshot_drive.specs.declared.found.Found.TheVariants as F
use Rattle.oneshot_machine.specs.declared.machine.Reply.{Reply}
use Rattle.oneshot_machine.specs.declared.machine.Reply.TheVariants as R
use Rattle.oneshot_machine.specs.declared.machine.receiver.ReceiverPos.{ReceiverPos}
use Rattle.oneshot_machine.specs.declared.machine.receiver.ReceiverPos.TheVariants.{Try}
use Rattle.oneshot_machine.specs.declared.machine.try_recv.TryPos.TheVariants.{Close}
use Rattle.oneshot_machine.specs.Phases.{Closing, closed_itself, Got, after_load, polled, again, ReceiverAt, idle, waits, claimed, full, disconnected, resolved, word_of}
use Rattle.oneshot_machine.specs.declared.machine.Step.{Step}
use Rattle.oneshot_machine.specs.declared.machine.Step.TheVariants.{WriteWaker, Copy}
use Rattle.oneshot_machine.specs.declared.states.Op.TheVariants.{Exchange}
use Rattle.oneshot_machine.specs.declared.states.TheConstants.{RECEIVING, EMPTY, MESSAGE}
use Rattle.oneshot_machine.specs.Logs.{Event, Log, Grows, receiver_of}
use Rattle.oneshot_machine.specs.TableRows.{Outcome, Goes, Answers}
use Rattle.oneshot_machine.specs.Slots.{vacant, held, ReceiverMay}
use Rattle.oneshot_drive.specs.Grounds.{GroundState, Stands, StandsIn}
use Rattle.oneshot_drive.specs.BetweenCalls.{Rests, IsClosedAt, received}

-- the phases of a future between two calls
pub data Polled : ReceiverAt → Type 0 where
  -- as a receiver between two calls
  unpolled : {q : ReceiverAt} → Rests q → Polled q
  -- its last poll left a copy of its waker
  left_copy : Polled (waits polled)
  -- and a later call found it there
  kept_copy : Polled (waits again)
  -- its last call found the sender about to finish
  found_sender : Polled claimed
  -- a call ended the channel, and the future has performed no operation since
  has_resolved : (c : Closing) → Polled (resolved c)

-- a future between two calls
abbrev pub IsPolled : {T W : Type 0} → GroundState T W → Type 0
IsPolled = StandsIn Polled

-- How a poll leaves the future, by its reply: closed after the message or the disconnected error, otherwise open.
pub data LeavesPolled : Reply → ReceiverAt → Type 0 where
  leaves_message : LeavesPolled R.Message (disconnected closed_itself)
  leaves_resolved : LeavesPolled R.Message (resolved closed_itself)
  leaves_over : (c : Closing) → LeavesPolled R.Disconnected (disconnected c)
  leaves_gone : (c : Closing) → LeavesPolled R.Disconnected (resolved c)
  leaves_uncopied : LeavesPolled R.Pending (idle after_load)
  leaves_waiting : LeavesPolled R.Pending (waits polled)
  leaves_its_copy : LeavesPolled R.Pending (waits again)
  leaves_claimed : LeavesPolled R.Pending claimed

-- How `try_recv` leaves the future, by its reply: closed after the message or the disconnected error, otherwise open.
pub data LeavesTried : Reply → ReceiverAt → Type 0 where
  tried_received : LeavesTried R.Message (disconnected closed_itself)
  tried_resolved : LeavesTried R.Message (resolved closed_itself)
  tried_closed : (c : Closing) → LeavesTried R.Disconnected (disconnected c)
  tried_uncopied : LeavesTried R.Empty (idle after_load)
  tried_its_copy : LeavesTried R.Empty (waits again)
  tried_claimed : LeavesTried R.Empty claimed

-- a future whose copy of its task's waker is in the channel, unless the sender took it to wake the task
abbrev pub is_registered : ReceiverAt → Bool
is_registered (waits w) = true
is_registered claimed = true
is_registered _ = false

-- After `Empty` it is registered if and only if it was before.
abbrev pub StaysRegistered : {T : Type 0} → Result T TryRecvError → ReceiverAt → ReceiverAt → Type 0
StaysRegistered result before after = result ≡ Err E.Empty → is_registered after ≡ is_registered before

abbrev pub poll_reply : {T : Type 0} → Poll (Result T RecvError) → Reply
poll_reply (Ready (Ok x)) = R.Message
poll_reply (Ready (Err e)) = R.Disconnected
poll_reply Pending = R.Pending

-- How a pending poll leaves its task: with its copy as the waker that the future gave last, or woken.
abbrev pub LeavesTask : ReceiverAt → Type 0 → Type 0 → Type 0
LeavesTask at its_copy woken = ((at ≡ waits polled) × its_copy) ⊎ woken

-- the message that was returned, if any
abbrev pub poll_received : {T : Type 0} → Poll (Result T RecvError) → List T
poll_received (Ready result) = received result
poll_received Pending = []

-- where the word that decides a poll leads
abbrev pub poll_end : Found → Outcome ReceiverPos
poll_end F.Message = Goes (Try Close)
poll_end F.Nothing = Answers R.Pending
poll_end _ = Answers R.Disconnected

-- the receiver's state then
abbrev pub EndsPoll : {T W : Type 0} → Found → GroundState T W → Type 0
EndsPoll F.Message s = (g : Got) × (word_of g ≡ MESSAGE) × Stands (full g) s
EndsPoll F.Closed s = StandsIn IsClosedAt s
EndsPoll F.Overwritten s = ⊥
EndsPoll F.Nothing s = StandsIn (LeavesPolled R.Pending) s

-- the waker's slot is empty, and with a copy in it the receiver may exchange EMPTY for RECEIVING
pub record MayLeave {T W : Type 0} (s : GroundState T W) : Type 0 where
  pub room : s.waker ≡ vacant
  pub asks : (copy : W) → ReceiverMay (receiver_of s.log) (Exchange EMPTY RECEIVING) s.message (held copy)

-- the disconnected error
pub data IsDisconnected {T : Type 0} : Poll (Result T RecvError) → Type 0 where
  is_disconnected : (e : RecvError) → IsDisconnected (Ready (Err e))

-- the copy in hand after a step: what the step gave, if it was a copy
abbrev pub hand_after : {W : Type 0} → Step → Option W → Option W → Option W
hand_after Copy given hand = given
hand_after _ given hand = hand

-- a step that writes a waker writes the one in hand
abbrev pub WritesHand : {W : Type 0} → Step → Option W → Option W → Type 0
WritesHand WriteWaker written hand = written ≡ hand
WritesHand _ written hand = ⊤

module _ {T W : Type 0} where
  -- each step that writes a waker writes the last copy made before it
  abbrev pub WritesCopies : Option W → List (Event T W) → Type 0
  WritesCopies hand [] = ⊤
  WritesCopies hand (x ∷ xs) =
      WritesHand x.step x.waker hand × WritesCopies (hand_after x.step x.waker hand) xs

  -- Between the two logs a ground with this copy in hand wrote no waker but its own copies. The log of a
  -- whole ground has all its steps; any other log has no waker.
  pub record WroteCopies (hand : Option W) (before after : Log T W) : Type 0 where
    pub steps : List (Event T W)
    pub grows : Grows before after steps
    pub own : WritesCopies hand steps

  -- a call that begins with no copy in hand
  abbrev pub WritesItsCopy : Log T W → Log T W → Type 0
  WritesItsCopy = WroteCopies None

  -- the wakers that these steps hand in or out
  abbrev pub wakers_handed : List (Event T W) → List W
  wakers_handed = filter_map (λ x. x.waker)

  -- Between the two logs a ground wrote, took, copied and used no waker. The log of a whole ground has all
  -- its steps; any other log has no waker.
  pub record HandsNoWaker (before after : Log T W) : Type 0 where
    pub steps : List (Event T W)
    pub grows : Grows before after steps
    pub none : wakers_handed steps ≡ []
