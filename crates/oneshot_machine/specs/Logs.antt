-- A ground's log: the steps that it made, and which of them it keeps.
use Rattle.std.specs.Prelude.{◌≡◌, ℕ, Bool, true, false, List, ◌++◌, filter, Option, Some, None, is_some, is_none}
use Rattle.std.specs.List.{filter_map}
use Rattle.std.specs.Option.{option_map}
use Rattle.oneshot_machine.specs.declared.machine.Seen.{Seen}
use Rattle.oneshot_machine.specs.declared.machine.Seen.TheVariants.{Done, Over, Refused, Token}
use Rattle.oneshot_machine.specs.declared.machine.Step.{Step}
use Rattle.oneshot_machine.specs.declared.machine.Step.TheVariants.{Word, WriteMessage, TakeMessage, Park, Clock, Copy}
use Rattle.oneshot_machine.specs.declared.states.Op.{Op}
use Rattle.oneshot_machine.specs.Noted.{Noted, saw, op_of}
use Rattle.oneshot_machine.specs.Phases.{SenderAt, sender_at, ReceiverAt, receiver_at}

-- a step, what it saw, and the message or waker that it handed in or out
pub record Event (T W : Type 0) : Type 0 where
  pub step : Step
  pub seen : Seen
  pub message : Option T
  pub waker : Option W

abbrev pub when_written : {T : Type 0} → Step → Option T → Option T
when_written WriteMessage message = message
when_written _ message = None

abbrev pub when_taken : {T : Type 0} → Step → Option T → Option T
when_taken TakeMessage message = message
when_taken _ message = None

module _ {T W : Type 0} where
  -- a step that hands nothing in or out and sees nothing
  abbrev pub did : Step → Event T W
  did s = record { step = s; seen = Done; message = None; waker = None }

  abbrev pub wrote : T → Event T W
  wrote m = record { step = WriteMessage; seen = Done; message = Some m; waker = None }

  abbrev pub took : T → Event T W
  took m = record { step = TakeMessage; seen = Done; message = Some m; waker = None }

  -- a step that hands this waker in or out
  abbrev pub handed : Step → W → Event T W
  handed s k = record { step = s; seen = Done; message = None; waker = Some k }

  -- a park that ended by its token, or without one
  abbrev pub parked : Bool → Event T W
  parked woken = record { step = Park; seen = Token woken; message = None; waker = None }

  -- a reading of the clock
  abbrev pub clocked : Bool → Event T W
  clocked over = record { step = Clock; seen = Over over; message = None; waker = None }

  -- a copy of a waker, or its refusal
  abbrev pub copied : Option W → Event T W
  copied copy = record { step = Copy; seen = Refused (is_none copy); message = None; waker = copy }

  -- an operation that found this word
  abbrev pub worded : Op → ℕ → Event T W
  worded op word = record { step = Word op; seen = saw op word; message = None; waker = None }

  -- the operation of a step on the word, with what it saw
  abbrev pub noted : Event T W → Option Noted
  noted x = option_map (λ op. (op, x.seen)) (op_of x.step)

  -- the operations on the word
  abbrev pub words : List (Event T W) → List Noted
  words = filter_map noted

  -- The steps that a ground's log keeps: all if it is whole, else the operations on the word.
  abbrev pub kept : Bool → List (Event T W) → List (Event T W)
  kept true xs = xs
  kept false xs = filter (λ x. is_some (op_of x.step)) xs

  -- the messages that were handed in
  abbrev pub messages_given : List (Event T W) → List T
  messages_given = filter_map (λ x. when_written x.step x.message)

  -- those that were taken out of their slot
  abbrev pub messages_got : List (Event T W) → List T
  messages_got = filter_map (λ x. when_taken x.step x.message)

-- a log: whether its ground is whole, the channel, and the steps
pub record Log (T W : Type 0) : Type 0 where
  pub whole : Bool
  pub channel : List ℕ
  pub list : List (Event T W)

-- between the two logs a ground made these steps
pub record Grows {T W : Type 0} (before after : Log T W) (steps : List (Event T W)) : Type 0 where
  pub whole : after.whole ≡ before.whole
  pub channel : after.channel ≡ before.channel
  pub list : after.list ≡ before.list ++ kept before.whole steps

module _ {T W : Type 0} where
  -- the phase of a ground's end
  abbrev pub sender_of : Log T W → SenderAt
  sender_of l = sender_at (words l.list)

  abbrev pub receiver_of : Log T W → ReceiverAt
  receiver_of l = receiver_at (words l.list)
