-- What a contract sees of an end: the channel that it belongs to, and the log of its operations on the word.
use Rattle.std.specs.Prelude.{◌≡◌, ℕ, Bool, List, [], ◌∷◌, ◌++◌, ◌⊎◌, true, Option, Some, None, IsSomeAnd, IsTrue}
use Rattle.atomic_table.specs.Seated.{TableId}
use Rattle.futures.specs.declared.task.context.Context.{Context}
use Rattle.futures.specs.declared.task.waker.Waker.{Waker}
use Rattle.oneshot_machine.specs.declared.machine.Reply.{Reply}
use Rattle.oneshot_machine.specs.declared.machine.Reply.TheVariants.{Refused}
use Rattle.oneshot_machine.specs.declared.machine.receiver.ReceiverStart.{ReceiverStart}
use Rattle.oneshot_machine.specs.declared.machine.sender.SenderCall.{SenderCall}
use Rattle.oneshot_machine.specs.declared.machine.sender.SenderCall.TheVariants.{Send}
use Rattle.oneshot_machine.specs.Called.{Form, stays, ReceiverCalled, SenderCalled}
use Rattle.oneshot_machine.specs.Logs.{Event, words}
use Rattle.oneshot_machine.specs.Orders.{Reaches}
use Rattle.oneshot_machine.specs.Phases.{receiver_at}
use Rattle.oneshot_machine.specs.Receiver.{receiver_start, receiver_step, receiver_row}
use Rattle.oneshot_machine.specs.Runs.{Run}
use Rattle.oneshot_machine.specs.Sender.{sender_start, sender_step, sender_row}
use Rattle.oneshot_machine.specs.Noted.{Noted}
use Rattle.oneshot_drive.specs.BetweenCalls.{IsClosedAt, IsOpenAt}
use Rattle.oneshot_drive.specs.Polls.{is_registered}
use Rattle.oneshot_word.specs.declared.any_waker.AnyWaker.{AnyWaker}
use Rattle.oneshot_word.specs.declared.any_waker.AnyWaker.TheVariants.{Task}
use Rattle.oneshot_word.specs.Side.{Side}
use Rattle.oneshot_ends.specs.OwnWakers.{IsCopyFor}

-- a waker in a run; contracts leave open which one
abbrev pub UnnamedWaker : Type 0
UnnamedWaker = Unit {0}

-- A channel: its shared table, and the value that its promise is about. So ends of one channel are about one value.
pub record Channel (P : Type 0) : Type 0 where
  pub table : TableId
  pub about : P

-- a sender
pub record SenderView (P : Type 0) : Type 0 where
  pub channel : Channel P
  pub log : List Noted

-- a receiver: the same, with the message that it took out of the channel, if it has
pub record ReceiverView (T P : Type 0) : Type 0 where
  pub channel : Channel P
  pub log : List Noted
  pub took : Option T

-- A future: the same, with the source at which its polls register, and the waker by which the sender wakes it, while
-- one is in the channel or the sender has taken it.
pub record FutureView (T P : Type 0) : Type 0 where
  pub channel : Channel P
  pub log : List Noted
  pub source : ℕ
  pub took : Option T
  pub registered : Option Waker

-- an error: the message that was refused, and the sender's channel and log
pub record RefusedView (T P : Type 0) : Type 0 where
  pub message : T
  pub channel : Channel P
  pub log : List Noted

-- the channel that an end's side belongs to
abbrev pub channel_at : {T W P : Type 0} → Side T W P → Channel P
channel_at side = record { table = side.table; about = side.about }

-- the task's waker that the future gave last, if it is registered
abbrev pub registered_if : {H K : Type 0} → Bool → Option (AnyWaker H K) → Option K
registered_if true (Some (Task waker)) = Some waker
registered_if _ _ = None

abbrev pub registered_by : {T H K P : Type 0} → Side T (AnyWaker H K) P → Option K
registered_by side = registered_if (is_registered (receiver_at side.log)) side.handed

-- After a poll: somebody has asked for this task to be polled again, perhaps before this poll, or the future is
-- registered by a copy of this task's waker.
abbrev pub WillBeWoken : {T P : Type 0} → Context → FutureView T P → Type 0
WillBeWoken cx future = (cx.is_woken ≡ true) ⊎ IsSomeAnd future.registered (IsCopyFor cx)

-- the log grew by the operations of one run of this call, which ends in this reply
pub record SenderGrew (T : Type 0) (call : SenderCall) (before after : List Noted) (reply : Reply) : Type 0 where
  pub run : List (Event T UnnamedWaker)
  pub is_run : Run sender_step sender_row (sender_start call) run reply
  pub list : after ≡ before ++ words run

pub record ReceiverGrew (T : Type 0) (call : ReceiverStart) (before after : List Noted) (reply : Reply) : Type 0 where
  pub run : List (Event T UnnamedWaker)
  pub is_run : Run receiver_step receiver_row (receiver_start call) run reply
  pub list : after ≡ before ++ words run

-- The log of a receiver or a future between two calls is that of some calls that have returned.
abbrev pub HasCalls : (T : Type 0) → Form → List Noted → Type 0
HasCalls T form log = (calls : List (ReceiverStart × Reply)) × ReceiverCalled T UnnamedWaker form calls log

-- Adds one more call, which leaves the receiver in place, to those before it.
abbrev pub CallsAddUp : (T : Type 0) → Type 0
CallsAddUp T =
    (form : Form) (calls : List (ReceiverStart × Reply)) (before after : List Noted) (reply : Reply)
    (call : ReceiverStart) → IsTrue (stays form call) → ReceiverCalled T UnnamedWaker form calls before
    → ReceiverGrew T call before after reply → ReceiverCalled T UnnamedWaker form (calls ++ (call, reply) ∷ []) after

-- the log is its end's part of some order of both ends' operations
abbrev pub SenderIsOrdered : List Noted → Type 0
SenderIsOrdered xs = (ys : List Noted) × (word : ℕ) × Reaches xs ys word

abbrev pub ReceiverIsOrdered : List Noted → Type 0
ReceiverIsOrdered ys = (xs : List Noted) × (word : ℕ) × Reaches xs ys word

-- the log of an error is that of one call, a `send` that was refused
abbrev pub WasRefused : (T : Type 0) → List Noted → Type 0
WasRefused T log = SenderCalled T UnnamedWaker ((Send, Refused) ∷ []) log

-- A receiver or a future with this log is closed, so that every later receive or poll fails, or is open, so that one
-- may return the message. Between two calls it is one of both.
abbrev pub IsClosed : List Noted → Type 0
IsClosed log = IsClosedAt (receiver_at log)

abbrev pub IsOpen : List Noted → Type 0
IsOpen log = IsOpenAt (receiver_at log)
