-- What a step sees, and what it does to the word, the message's place and the state of its end.
use Rattle.std.specs.Prelude.{ℕ, Bool, true, false, Option, Some, None, if◌then◌else◌}
use Rattle.oneshot_machine.specs.States.{word_after}
use Rattle.oneshot_machine.specs.TableRows.{Outcome, Goes, Answers}
use Rattle.oneshot_machine.specs.declared.machine.Reply.{Reply}
use Rattle.oneshot_machine.specs.declared.machine.Reply.TheVariants as R
use Rattle.oneshot_machine.specs.declared.machine.Seen.{Seen}
use Rattle.oneshot_machine.specs.declared.machine.Seen.TheVariants as S
use Rattle.oneshot_machine.specs.declared.machine.Step.{Step}
use Rattle.oneshot_machine.specs.declared.machine.Step.TheVariants as T
use Rattle.oneshot_machine.specs.declared.machine.Step.TheVariants.{Word, WriteMessage, TakeMessage, DropMessage, Park, Clock, Free, Plain}
use Rattle.oneshot_machine.specs.declared.machine.receiver.ReceiverPos.{ReceiverPos}
use Rattle.oneshot_machine.specs.declared.machine.sender.SenderPos.{SenderPos}
use Rattle.oneshot_machine.specs.declared.states.Op.TheVariants.{Store}
use Rattle.oneshot_world.specs.declared.state.ReceiverState.{ReceiverState}
use Rattle.oneshot_world.specs.declared.state.ReceiverState.TheVariants as RS
use Rattle.oneshot_world.specs.declared.state.SenderState.{SenderState}
use Rattle.oneshot_world.specs.declared.state.SenderState.TheVariants as SS
use Rattle.oneshot_world.specs.declared.state.State.{State}
use Rattle.oneshot_world.specs.declared.trace.Place.{Place}
use Rattle.oneshot_world.specs.declared.trace.Place.TheVariants.{InCell, InError, Delivered, FromError, Dropped}

-- what a step sees: an operation the word before it, unless it is a store; a park its token; a clock or
-- a copy the answer of the move
abbrev pub seen_by : Bool → State → Step → Seen
seen_by answer s (Word (Store new)) = S.Done
seen_by answer s (Word op) = S.Word s.word
seen_by answer s Park = S.Token s.wakers.token
seen_by answer s Clock = S.Over answer
seen_by answer s T.Copy = S.Refused answer
seen_by answer s _ = S.Done

abbrev pub word_left : ℕ → Step → ℕ
word_left word (Word op) = word_after op word
word_left word _ = word

abbrev pub freed_by : Bool → Step → Bool
freed_by freed Free = true
freed_by freed _ = freed

-- the word that an entry shows: none once the block is freed
abbrev pub shown : Bool → ℕ → Option ℕ
shown true word = None
shown false word = Some word

-- where a step puts the message, if it moves it; a refused send leaves the message with the error
abbrev pub sender_puts : Step → Option Reply → Option Place
sender_puts WriteMessage reply = Some InCell
sender_puts TakeMessage reply = Some FromError
sender_puts DropMessage reply = Some Dropped
sender_puts _ (Some R.Refused) = Some InError
sender_puts _ _ = None

abbrev pub receiver_puts : Step → Option Place
receiver_puts TakeMessage = Some Delivered
receiver_puts DropMessage = Some Dropped
receiver_puts _ = None

-- the message's place after that, if there is a message
abbrev pub place_left : Option Place → Option Place → Option Place
place_left None to = None
place_left (Some from) None = Some from
place_left (Some from) (Some to) = Some to

-- the message's move, if it moves
abbrev pub move_of : Option Place → Option Place → Option (Place × Place)
move_of (Some from) (Some to) = Some (from, to)
move_of (Some from) None = None
move_of None to = None

abbrev pub reply_of : {P : Type 0} → Outcome P → Option Reply
reply_of (Goes next) = None
reply_of (Answers reply) = Some reply

-- The state of an end after a row. A look leaves the sender ready. A refused send leaves its error, and
-- so does a look at the error. Any other reply ends the sender's side. A drop, and a call that frees,
-- end the receiver. Any other reply leaves it ready.
abbrev pub is_plain : Step → Bool
is_plain Plain = true
is_plain _ = false

abbrev pub sender_goes : Step → Outcome SenderPos → SenderState
sender_goes step (Goes next) = SS.At next
sender_goes step (Answers R.Yes) = SS.Ready
sender_goes step (Answers R.No) = SS.Ready
sender_goes step (Answers R.Refused) = SS.Failed
sender_goes step (Answers R.Message) = if is_plain step then SS.Failed else SS.Ended
sender_goes step (Answers _) = SS.Ended

abbrev pub is_free : Step → Bool
is_free Free = true
is_free _ = false

abbrev pub receiver_goes : Step → Outcome ReceiverPos → ReceiverState
receiver_goes step (Goes next) = RS.At next
receiver_goes step (Answers R.Done) = RS.Ended
receiver_goes step (Answers _) = if is_free step then RS.Ended else RS.Ready

-- the reply that makes the receiver a future
abbrev pub is_future : Option Reply → Bool
is_future (Some R.Future) = true
is_future _ = false
