-- Logs and runs of a future, and some that no future has.
use Rattle.std.specs.Prelude.{◌≡◌, ℕ, List, [], ◌∷◌, ◌++◌, Some, None}
use Rattle.oneshot_machine.specs.declared.machine.Reply.TheVariants.{Message, Disconnected, Pending}
use Rattle.oneshot_machine.specs.declared.machine.Reply.TheVariants as R
use Rattle.oneshot_machine.specs.declared.machine.Seen.TheVariants.{Done, Word}
use Rattle.oneshot_machine.specs.declared.machine.Step.TheVariants.{WriteWaker, Withdraw, WakeOwn, Plain, Free}
use Rattle.oneshot_machine.specs.declared.machine.receiver.ReceiverPos.TheVariants.{Future, AsyncDrop}
use Rattle.oneshot_machine.specs.declared.machine.future.FuturePos.TheVariants.{IntoFuture, PollLoad, AsyncTryLoad}
use Rattle.oneshot_machine.specs.declared.machine.async_drop.AsyncDropPos.TheVariants.{AsyncLoad}
use Rattle.oneshot_machine.specs.declared.states.Op.TheVariants.{Load, Store, Swap, Exchange}
use Rattle.oneshot_machine.specs.declared.states.TheConstants.{RECEIVING, UNPARKING, DISCONNECTED, EMPTY, MESSAGE}
use Rattle.oneshot_machine.specs.Noted.{Noted}
use Rattle.oneshot_machine.specs.Phases.{waits, polled, again, claimed, withdrew, full, by_future, by_poll, disconnected, resolved, found_closed, closed_itself, gone, ended, no_receiver}
use Rattle.oneshot_machine.specs.Phases.{receiver_at}
use Rattle.oneshot_machine.specs.Logs.{Event, did, took, handed, copied, worded}
use Rattle.oneshot_contract_examples.specs.RunExamples.{ReceiverRun}

-- a poll that stored its copy
abbrev pub once_polled : List Noted
once_polled = (Load, Word EMPTY) ∷ (Exchange EMPTY RECEIVING, Word EMPTY) ∷ []

-- the phases of a future, by its logs
pub record LogsOfFuture : Type 0 where
  pub polls : receiver_at once_polled ≡ waits polled
  pub polls_again : receiver_at (once_polled ++ (Load, Word RECEIVING) ∷ []) ≡ waits again
  pub takes_its_copy_back :
      receiver_at (once_polled ++ (Load, Word RECEIVING) ∷ (Exchange RECEIVING EMPTY, Word RECEIVING) ∷ []) ≡ withdrew
  pub stores_another_copy :
      receiver_at (once_polled ++ (Load, Word RECEIVING) ∷ (Exchange RECEIVING EMPTY, Word RECEIVING)
      ∷ (Exchange EMPTY RECEIVING, Word EMPTY) ∷ [])
      ≡ waits polled
  pub sees_the_sender_finish : receiver_at (once_polled ++ (Load, Word UNPARKING) ∷ []) ≡ claimed
  pub exchanges_too_late :
      receiver_at (once_polled ++ (Load, Word RECEIVING) ∷ (Exchange RECEIVING EMPTY, Word UNPARKING)
      ∷ (Load, Word UNPARKING) ∷ []) ≡ claimed
  pub finds_it_by_its_load : receiver_at (once_polled ++ (Load, Word MESSAGE) ∷ []) ≡ full by_future
  pub finds_it_by_its_exchange :
      receiver_at ((Load, Word EMPTY) ∷ (Exchange EMPTY RECEIVING, Word MESSAGE) ∷ []) ≡ full by_poll
  pub receives :
      receiver_at (once_polled ++ (Load, Word MESSAGE) ∷ (Store DISCONNECTED, Done) ∷ []) ≡ resolved closed_itself
  pub finds_nobody_by_its_exchange :
      receiver_at ((Load, Word EMPTY) ∷ (Exchange EMPTY RECEIVING, Word DISCONNECTED) ∷ []) ≡ resolved found_closed
  pub polls_after_the_end :
      receiver_at (once_polled ++ (Load, Word MESSAGE) ∷ (Store DISCONNECTED, Done) ∷ (Load, Word DISCONNECTED) ∷ [])
      ≡ disconnected closed_itself
  pub is_dropped_with_its_copy :
      receiver_at (once_polled ++ (Load, Word RECEIVING) ∷ (Exchange RECEIVING EMPTY, Word RECEIVING)
      ∷ (Swap DISCONNECTED, Word EMPTY) ∷ []) ≡ gone
  pub is_dropped_over_a_message : receiver_at ((Load, Word MESSAGE) ∷ (Swap DISCONNECTED, Word MESSAGE) ∷ []) ≡ ended
  pub tries_over_its_copy : receiver_at (once_polled ++ (Load, Word RECEIVING) ∷ (Load, Word UNPARKING) ∷ []) ≡ claimed
  pub is_dropped_over_a_sender_that_finishes :
      receiver_at (once_polled ++ (Load, Word UNPARKING) ∷ (Swap DISCONNECTED, Word UNPARKING) ∷ []) ≡ gone
  pub is_dropped_when_it_has_finished :
      receiver_at (once_polled ++ (Load, Word UNPARKING) ∷ (Swap DISCONNECTED, Word MESSAGE) ∷ []) ≡ ended
  -- and logs that no future has
  pub stores_without_a_load : receiver_at ((Exchange EMPTY RECEIVING, Word EMPTY) ∷ []) ≡ no_receiver
  pub takes_back_without_a_load :
      receiver_at (once_polled ++ (Exchange RECEIVING EMPTY, Word RECEIVING) ∷ []) ≡ no_receiver
  pub blocks : receiver_at (once_polled ++ (Swap RECEIVING, Word RECEIVING) ∷ []) ≡ no_receiver
  pub stops_by_a_swap :
      receiver_at (once_polled ++ (Load, Word RECEIVING) ∷ (Swap EMPTY, Word RECEIVING) ∷ []) ≡ no_receiver
  pub is_dropped_over_its_copy :
      receiver_at (once_polled ++ (Load, Word RECEIVING) ∷ (Swap DISCONNECTED, Word RECEIVING) ∷ []) ≡ no_receiver
  pub is_dropped_twice :
      receiver_at (once_polled ++ (Load, Word UNPARKING) ∷ (Swap DISCONNECTED, Word UNPARKING)
      ∷ (Swap DISCONNECTED, Word DISCONNECTED) ∷ []) ≡ no_receiver
  pub is_dropped_in_its_poll :
      receiver_at ((Load, Word EMPTY) ∷ (Exchange EMPTY RECEIVING, Word MESSAGE) ∷ (Swap DISCONNECTED, Word MESSAGE)
      ∷ []) ≡ no_receiver
  pub is_dropped_without_a_load :
      receiver_at ((Load, Word EMPTY) ∷ (Exchange EMPTY RECEIVING, Word DISCONNECTED)
      ∷ (Swap DISCONNECTED, Word DISCONNECTED) ∷ []) ≡ no_receiver

-- a poll that copied its waker, up to its exchange, which finds this word
abbrev pub polling : ℕ → List (Event ℕ ℕ)
polling word =
    worded Load EMPTY ∷ copied (Some 1) ∷ handed WriteWaker 1 ∷ worded (Exchange EMPTY RECEIVING) word ∷ []

-- a later poll, up to the exchange before it takes the stored copy back, which finds this word
abbrev pub polling_again : ℕ → List (Event ℕ ℕ)
polling_again word = worded Load RECEIVING ∷ copied (Some 2) ∷ worded (Exchange RECEIVING EMPTY) word ∷ []

-- steps that are a run of the future's call, with this reply
pub record FutureRuns : Type 0 where
  pub becomes_a_future : ReceiverRun (Future IntoFuture) (did Plain ∷ []) R.Future
  pub waits_by_a_poll : ReceiverRun (Future PollLoad) (polling EMPTY) Pending
  pub finds_no_memory_for_a_copy :
      ReceiverRun (Future PollLoad) (worded Load EMPTY ∷ copied None ∷ did WakeOwn ∷ []) Pending
  pub finds_the_message_by_its_exchange :
      ReceiverRun
      (Future PollLoad)
      (polling MESSAGE ++ handed Withdraw 1 ∷ worded (Store DISCONNECTED) MESSAGE ∷ took 7 ∷ [])
      Message
  pub finds_no_sender_by_its_exchange :
      ReceiverRun (Future PollLoad) (polling DISCONNECTED ++ handed Withdraw 1 ∷ []) Disconnected
  pub replaces_its_copy :
      ReceiverRun
      (Future PollLoad)
      (polling_again RECEIVING ++ handed Withdraw 1 ∷ handed WriteWaker 2 ∷ worded (Exchange EMPTY RECEIVING) EMPTY
      ∷ [])
      Pending
  pub polls_too_late : ReceiverRun (Future PollLoad) (polling_again UNPARKING ++ did WakeOwn ∷ []) Pending
  pub polls_while_the_sender_finishes : ReceiverRun (Future PollLoad) (worded Load UNPARKING ∷ did WakeOwn ∷ []) Pending
  pub tries_in_vain : ReceiverRun (Future AsyncTryLoad) (worded Load RECEIVING ∷ []) R.Empty
  pub tries_while_the_sender_finishes : ReceiverRun (Future AsyncTryLoad) (worded Load UNPARKING ∷ []) R.Empty
  pub receives_by_a_try :
      ReceiverRun (Future AsyncTryLoad)
      (worded Load MESSAGE ∷ worded (Store DISCONNECTED) MESSAGE ∷ took 7 ∷ []) Message
  pub drops_its_copy :
      ReceiverRun
      (AsyncDrop AsyncLoad)
      (worded Load RECEIVING ∷ worded (Exchange RECEIVING EMPTY) RECEIVING ∷ handed Withdraw 1
      ∷ worded (Swap DISCONNECTED) EMPTY ∷ [])
      R.Done
  pub leaves_its_copy_with_the_sender :
      ReceiverRun (AsyncDrop AsyncLoad) (worded Load RECEIVING ∷ worded (Exchange RECEIVING EMPTY) UNPARKING
      ∷ worded (Swap DISCONNECTED) UNPARKING ∷ []) R.Done
  pub frees_where_the_sender_has_finished :
      ReceiverRun (AsyncDrop AsyncLoad)
      (worded Load UNPARKING ∷ worded (Swap DISCONNECTED) DISCONNECTED ∷ did Free ∷ []) R.Done

-- and steps that are no run
pub record FutureRunsThatAreNot : Type 0 where
  pub keeps_the_old_copy :
      ReceiverRun (Future PollLoad) (worded Load RECEIVING ∷ copied (Some 2) ∷ []) Pending → ⊥
  pub waits_for_nothing : ReceiverRun (Future PollLoad) (worded Load EMPTY ∷ copied None ∷ []) Pending → ⊥
  pub forgets_its_copy :
      ReceiverRun (Future PollLoad) (polling MESSAGE ++ worded (Store DISCONNECTED) MESSAGE ∷ took 7 ∷ []) Message → ⊥
  pub waits_in_its_poll : ReceiverRun (Future PollLoad) (worded Load UNPARKING ∷ worded Load MESSAGE ∷ []) Pending → ⊥
  pub sleeps_unwoken : ReceiverRun (Future PollLoad) (worded Load UNPARKING ∷ []) Pending → ⊥
  pub tries_and_takes_its_copy_back :
      ReceiverRun (Future AsyncTryLoad) (worded Load RECEIVING ∷ handed Withdraw 1 ∷ []) R.Empty → ⊥
  pub frees_before_the_sender :
      ReceiverRun (AsyncDrop AsyncLoad)
      (worded Load UNPARKING ∷ worded (Swap DISCONNECTED) UNPARKING ∷ did Free ∷ []) R.Done → ⊥
  pub drops_its_copy_too_early :
      ReceiverRun (AsyncDrop AsyncLoad)
      (worded Load RECEIVING ∷ handed Withdraw 1 ∷ worded (Swap DISCONNECTED) RECEIVING ∷ []) R.Done → ⊥
