-- The states of an end between its calls, and what a call leaves and replies.
use Rattle.std.specs.Prelude.{◌≡◌, ℕ, Bool, true, false, IsTrue, List, [], ◌∷◌, Option, None, Result, Ok, Err}
use Rattle.oneshot_errors.specs.declared.recv.RecvError.{RecvError}
use Rattle.oneshot_errors.specs.declared.recv_timeout.RecvTimeoutError.{RecvTimeoutError}
use Rattle.oneshot_errors.specs.declared.recv_timeout.RecvTimeoutError.TheVariants as Timed
use Rattle.oneshot_errors.specs.declared.try_recv.TryRecvError.{TryRecvError}
use Rattle.oneshot_errors.specs.declared.try_recv.TryRecvError.TheVariants as E
use Rattle.oneshot_machine.specs.declared.machine.Reply.{Reply}
use Rattle.oneshot_machine.specs.declared.machine.Reply.TheVariants.{Sent, Refused, Message, Empty, Timeout, Disconnected}
use Rattle.oneshot_machine.specs.declared.machine.Step.TheVariants.{TakeWaker, Wake}
use Rattle.oneshot_machine.specs.declared.states.Op.TheVariants.{Swap}
use Rattle.oneshot_machine.specs.declared.states.TheConstants.{UNPARKING, DISCONNECTED, EMPTY}
use Rattle.oneshot_machine.specs.Logs.{Event, Log, Grows, sender_of, handed, worded}
use Rattle.oneshot_machine.specs.Phases.{By, SenderAt, fresh, finished, overtaken, Closing, closed_itself, Open, after_load, after_timeout, ReceiverAt, untouched, idle, waits, claimed}
use Rattle.oneshot_machine.specs.Phases.{disconnected, resolved}
use Rattle.oneshot_machine.specs.Slots.{Held, away, vacant, held, SenderMay}
use Rattle.oneshot_drive.specs.Grounds.{GroundState, SenderStands, StandsIn}

-- a sender that has performed no operation: it owns the message's slot, which is empty
abbrev pub IsFresh : {T W : Type 0} → GroundState T W → Type 0
IsFresh = SenderStands fresh

-- The end of a refused `send`: it owns both slots, with this in the message's and no waker.
pub record IsError {T W : Type 0} (refused : Held T) (s : GroundState T W) : Type 0 where
  pub keeps : s.message ≡ refused
  pub no_waker : s.waker ≡ vacant

-- A sender that found a waiting receiver: it owns the slot with that receiver's waker. Once it has taken
-- the waker out, it owes this last word.
pub record Owes {T W : Type 0} (last : ℕ) (s : GroundState T W) : Type 0 where
  pub waker : W
  pub has_waker : s.waker ≡ held waker
  pub has_slot : ¬ (s.message ≡ away)
  pub asks : SenderMay {W = W} (sender_of s.log) (Swap last) s.message vacant

-- the steps that it makes then
abbrev pub finishing : {T W : Type 0} → ℕ → ℕ → W → List (Event T W)
finishing last found k = handed TakeWaker k ∷ worded (Swap last) found ∷ handed Wake k ∷ []

-- its last operation finds the receiver waiting, past its deadline, or gone
pub data LastFinds : ℕ → Bool → Type 0 where
  finds_waiting : LastFinds UNPARKING true
  finds_overdue : LastFinds EMPTY true
  finds_gone : LastFinds DISCONNECTED false

-- how that operation leaves the sender: at its end, or overtaken by a receiver that left
pub data LastLeaves (by : By) : Bool → SenderAt → Type 0 where
  last_finished : LastLeaves by true (finished by)
  last_overtaken : LastLeaves by false (overtaken by)

-- Between the two logs it made these steps, left this last word, and found whether the receiver is here.
-- The waker has woken the receiver.
pub record Finishes {T W : Type 0} (last : ℕ) (here : Bool) (woken : W → Type 0) (before after : Log T W) : Type 0 where
  pub found : ℕ
  pub finds : LastFinds found here
  pub waker : W
  pub woke : woken waker
  pub grows : Grows before after (finishing last found waker)

-- Between the two states it found the receiver gone. It owns both slots, and the message's is unchanged.
pub record IsOvertaken {T W : Type 0} (before after : GroundState T W) : Type 0 where
  pub message : after.message ≡ before.message
  pub waker : after.waker ≡ vacant

-- the phases of a receiver between two calls
pub data Rests : ReceiverAt → Type 0 where
  rests_new : Rests untouched
  rests_open : (o : Open) → Rests (idle o)
  rests_closed : (c : Closing) → Rests (disconnected c)

-- a receiver between two calls
abbrev pub AtRest : {T W : Type 0} → GroundState T W → Type 0
AtRest = StandsIn Rests

abbrev pub is_closed_at : ReceiverAt → Bool
is_closed_at (disconnected c) = true
is_closed_at (resolved c) = true
is_closed_at _ = false

-- a closed receiver: no message can come
abbrev pub IsClosedAt : ReceiverAt → Type 0
IsClosedAt at = IsTrue (is_closed_at at)

abbrev pub is_open_at : ReceiverAt → Bool
is_open_at untouched = true
is_open_at (idle o) = true
-- a future, with its copy in the slot, or with the sender about to finish
is_open_at (waits w) = true
is_open_at claimed = true
is_open_at _ = false

-- an open receiver between two calls: a later receive may return a message
abbrev pub IsOpenAt : ReceiverAt → Type 0
IsOpenAt at = IsTrue (is_open_at at)

-- How a call leaves a receiver, by its reply: closed after the message or the disconnected error, otherwise open.
pub data Leaves : Reply → ReceiverAt → Type 0 where
  leaves_received : Leaves Message (disconnected closed_itself)
  leaves_closed : (c : Closing) → Leaves Disconnected (disconnected c)
  leaves_empty : Leaves Empty (idle after_load)
  leaves_late : Leaves Timeout (idle after_timeout)

-- The hand of a receiver that may block: it has a waker, unless the receiver is closed.
abbrev pub IsReady : {W : Type 0} → Option W → ReceiverAt → Type 0
IsReady hand q = hand ≡ None → IsClosedAt q

abbrev pub send_reply : Bool → Reply
send_reply true = Sent
send_reply false = Refused

abbrev pub try_recv_reply : {T : Type 0} → Result T TryRecvError → Reply
try_recv_reply (Ok x) = Message
try_recv_reply (Err E.Empty) = Empty
try_recv_reply (Err E.Disconnected) = Disconnected

abbrev pub recv_reply : {T : Type 0} → Result T RecvError → Reply
recv_reply (Ok x) = Message
recv_reply (Err e) = Disconnected

abbrev pub timed_reply : {T : Type 0} → Result T RecvTimeoutError → Reply
timed_reply (Ok x) = Message
timed_reply (Err Timed.Timeout) = Timeout
timed_reply (Err Timed.Disconnected) = Disconnected

-- the message that was returned, if any
abbrev pub received : {T E : Type 0} → Result T E → List T
received (Ok x) = x ∷ []
received (Err e) = []
