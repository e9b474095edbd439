-- Examples and counterexamples of which calls a log is of.
use Rattle.std.specs.Prelude.{List, [], ◌∷◌}
use Rattle.oneshot_machine.specs.declared.machine.Reply.TheVariants as R
use Rattle.oneshot_machine.specs.declared.machine.Seen.TheVariants.{Done, Word}
use Rattle.oneshot_machine.specs.declared.machine.receiver.ReceiverStart.TheVariants.{TryRecv, Recv, Poll, IntoFuture}
use Rattle.oneshot_machine.specs.declared.machine.sender.SenderCall.TheVariants.{Send, Drop}
use Rattle.oneshot_machine.specs.declared.states.Op.TheVariants.{Load, Store, Exchange, Add}
use Rattle.oneshot_machine.specs.declared.states.TheConstants.{RECEIVING, DISCONNECTED, EMPTY, MESSAGE}
use Rattle.oneshot_machine.specs.Called.{as_receiver, as_future, ReceiverCalled, SenderCalled}
use Rattle.oneshot_machine.specs.Noted.{Noted}

-- two calls of `try_recv`: the first found nothing, the second took the message
abbrev pub tried_twice : List Noted
tried_twice = (Load, Word EMPTY) ∷ (Load, Word MESSAGE) ∷ (Store DISCONNECTED, Done) ∷ []

module _ (T W : Type 0) where
  pub record WorkedCalls : Type 0 where
    pub tries : ReceiverCalled T W as_receiver ((TryRecv, R.Empty) ∷ (TryRecv, R.Message) ∷ []) tried_twice
    -- a receiver that found nothing, and became a future whose poll registered its task
    pub polls : ReceiverCalled T W as_future ((TryRecv, R.Empty) ∷ (IntoFuture, R.Future) ∷ (Poll, R.Pending) ∷ [])
        ((Load, Word EMPTY) ∷ (Load, Word EMPTY) ∷ (Exchange EMPTY RECEIVING, Word EMPTY) ∷ [])
    pub sends : SenderCalled T W ((Send, R.Sent) ∷ []) ((Add, Word EMPTY) ∷ [])

  pub record WrongCalls : Type 0 where
    -- without a call there is no operation
    pub leaves_none : ReceiverCalled T W as_receiver [] tried_twice → ⊥
    -- a call that ends its receiver is not among those that the receiver has made
    pub has_ended : (log : List Noted) → ReceiverCalled T W as_receiver ((Recv, R.Message) ∷ []) log → ⊥
    -- a receiver that is no future has not polled
    pub polls_not : (log : List Noted) → ReceiverCalled T W as_receiver ((Poll, R.Pending) ∷ []) log → ⊥
    -- the log is not that of another reply
    pub takes_nothing : ReceiverCalled T W as_receiver ((TryRecv, R.Message) ∷ []) ((Load, Word EMPTY) ∷ []) → ⊥
    -- a sender makes only one call
    pub sends_once : (log : List Noted) → SenderCalled T W ((Send, R.Sent) ∷ (Drop, R.Done) ∷ []) log → ⊥
