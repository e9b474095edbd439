-- Worked logs that the definitions accept, and wrong logs that they refuse.
use Rattle.std.specs.Prelude.{◌≡◌, List, [], ◌∷◌, Option, Some, None}
use Rattle.oneshot_machine.specs.declared.machine.Reply.TheVariants as R
use Rattle.oneshot_machine.specs.declared.machine.Seen.TheVariants.{Done, Word}
use Rattle.oneshot_machine.specs.declared.machine.receiver.ReceiverStart.TheVariants.{TryRecv}
use Rattle.oneshot_machine.specs.declared.states.Op.TheVariants.{Load, Store, Add}
use Rattle.oneshot_machine.specs.declared.states.TheConstants.{RECEIVING, DISCONNECTED, EMPTY, MESSAGE}
use Rattle.oneshot_machine.specs.Called.{as_receiver}
use Rattle.oneshot_machine.specs.Noted.{Noted}
use Rattle.oneshot_bridge.specs.CallExamples.{tried_twice}
use Rattle.oneshot_values.specs.Values.{message_replies, ReceiverRuns, OnlyTheLastGot, ErrorRuns}

-- two tries that each took a message: no order has this log
abbrev pub got_twice : List Noted
got_twice = (Load, Word MESSAGE) ∷ (Store DISCONNECTED, Done) ∷ (Load, Word MESSAGE) ∷ (Store DISCONNECTED, Done) ∷ []

module _ {T : Type 0} (m : T) where
  pub record WorkedValues : Type 0 where
    -- a `try_recv` that found nothing, and one that took the message
    pub tried : ReceiverRuns T as_receiver (Some m) tried_twice
    pub got_it : message_replies ((TryRecv, R.Empty) ∷ (TryRecv, R.Message) ∷ []) ≡ 1
    pub last_got : OnlyTheLastGot T tried_twice
    -- a `send` that found the receiver gone
    pub refused : ErrorRuns m ((Add, Word DISCONNECTED) ∷ [])

  pub record WrongValues : Type 0 where
    -- no receiver finds a waker that it did not store
    pub finds_a_waker : {took : Option T} → ReceiverRuns T as_receiver took ((Load, Word RECEIVING) ∷ []) → ⊥
    -- the message that a call returned was taken, and a receiver that got none has taken none
    pub took_none : ReceiverRuns T as_receiver None tried_twice → ⊥
    pub took_unfound : ReceiverRuns T as_receiver (Some m) [] → ⊥
    -- two messages are not one
    pub got_two : message_replies ((TryRecv, R.Message) ∷ (TryRecv, R.Message) ∷ []) ≡ 1 → ⊥
    -- a `try_recv` is not the only one that returned the message if one before did
    pub got_before : OnlyTheLastGot T got_twice → ⊥
    -- one that found nothing did not return it, whatever was called before
    pub found_nothing : OnlyTheLastGot T ((Load, Word EMPTY) ∷ []) → ⊥
    -- no sender loads the word
    pub loaded : ErrorRuns m ((Load, Word EMPTY) ∷ []) → ⊥
