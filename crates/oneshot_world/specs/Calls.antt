-- The calls of both ends, as lists, and what is left of them as calls reply.
use Rattle.std.specs.Prelude.{ℕ, Bool, true, false, List, [], ◌∷◌, Option, Some, None}
use Rattle.oneshot_machine.specs.declared.machine.End.TheVariants.{Sender, Receiver}
use Rattle.oneshot_machine.specs.declared.machine.End.{End}
use Rattle.oneshot_machine.specs.declared.machine.Reply.TheVariants as R
use Rattle.oneshot_machine.specs.declared.machine.Reply.{Reply}
use Rattle.oneshot_machine.specs.declared.machine.receiver.ReceiverStart.TheVariants as RC
use Rattle.oneshot_machine.specs.declared.machine.receiver.ReceiverStart.{ReceiverStart}
use Rattle.oneshot_machine.specs.declared.machine.sender.SenderCall.{SenderCall}

-- A call as the machine of its end names it. A poll also has its number, which the machine does not
-- know. `Stray` is no call: it stands for what an end does that has no call left.
pub data Call : Type 0 where
  Of_sender : (call : SenderCall) → Call
  Of_receiver : (call : ReceiverStart) → Call
  Poll : (number : ℕ) → Call
  Stray : Call

-- the call as the machine of each end begins it; none for a call of the other end
abbrev pub as_sender_call : Call → Option SenderCall
as_sender_call (Of_sender call) = Some call
as_sender_call _ = None

abbrev pub as_receiver_call : Call → Option ReceiverStart
as_receiver_call (Of_receiver call) = Some call
as_receiver_call (Poll number) = Some RC.Poll
as_receiver_call _ = None

-- the number of a poll's waker
abbrev pub number_of : Call → Option ℕ
number_of (Poll number) = Some number
number_of _ = None

-- two scripts as lists of calls: the sender's, those of the error of a refused send, the receiver's
pub record Calls : Type 0 where
  pub sender : List Call
  pub error : List Call
  pub receiver : List Call

-- What an end has left: the calls that have not replied, the one under way first, and those that follow
-- a refused send.
pub record Unanswered : Type 0 where
  pub calls : List Call
  pub error : List Call

abbrev pub first : {X : Type 0} → List X → Option X
first [] = None
first (x ∷ xs) = Some x

abbrev pub rest : {X : Type 0} → List X → List X
rest [] = []
rest (x ∷ xs) = xs

abbrev pub is_none_left : {X : Type 0} → List X → Bool
is_none_left [] = true
is_none_left (x ∷ xs) = false

-- once a call has replied, the next one follows; the error's calls follow a refused send
abbrev pub answered : End → Reply → Unanswered → Unanswered
answered Sender R.Refused left = record { calls = left.error; error = left.error }
answered Sender _ left = record { calls = rest left.calls; error = left.error }
answered Receiver reply left = record { calls = rest left.calls; error = left.error }

-- what is left after an entry
abbrev pub left_by : End → Option Reply → Unanswered → Unanswered
left_by side None left = left
left_by side (Some reply) left = answered side reply left
