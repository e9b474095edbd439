-- Logs and runs of an end, and some that no end has.
use Rattle.std.specs.Prelude.{◌≡◌, ℕ, true, false, List, [], ◌∷◌, ◌++◌}
use Rattle.oneshot_machine.specs.declared.machine.Reply.{Reply}
use Rattle.oneshot_machine.specs.declared.machine.Reply.TheVariants.{Sent, Refused, Message, Empty, Timeout, Disconnected}
use Rattle.oneshot_machine.specs.declared.machine.Reply.TheVariants as R
use Rattle.oneshot_machine.specs.declared.machine.Seen.TheVariants.{Done, Word}
use Rattle.oneshot_machine.specs.declared.machine.Step.TheVariants.{DropMessage, WriteWaker, TakeWaker, Withdraw, Wake, Free}
use Rattle.oneshot_machine.specs.declared.machine.receiver.ReceiverPos.{ReceiverPos}
use Rattle.oneshot_machine.specs.declared.machine.receiver.ReceiverPos.TheVariants.{Try, Ref, Timed, Value, Drop}
use Rattle.oneshot_machine.specs.declared.machine.try_recv.TryPos.TheVariants.{TryLoad}
use Rattle.oneshot_machine.specs.declared.machine.by_ref.RefPos.TheVariants.{StartLoad}
use Rattle.oneshot_machine.specs.declared.machine.timed.TimedPos.TheVariants.{SumClock}
use Rattle.oneshot_machine.specs.declared.machine.value.ValuePos.TheVariants.{RecvLoad}
use Rattle.oneshot_machine.specs.declared.machine.drop.DropPos.TheVariants.{DropSwap}
use Rattle.oneshot_machine.specs.declared.machine.sender.SenderPos.{SenderPos}
use Rattle.oneshot_machine.specs.declared.machine.sender.SenderPos.TheVariants.{SendWrite, DropXor, IntoTake, ErrorDrop}
use Rattle.oneshot_machine.specs.declared.states.Op.TheVariants.{Load, Store, Swap, Add, Xor}
use Rattle.oneshot_machine.specs.declared.states.TheConstants.{RECEIVING, UNPARKING, DISCONNECTED, EMPTY, MESSAGE}
use Rattle.oneshot_machine.specs.Sender.{sender_step, sender_row}
use Rattle.oneshot_machine.specs.Receiver.{receiver_step, receiver_row}
use Rattle.oneshot_machine.specs.Phases.{sending, dropping, fresh, owes, finished, found_gone, overtaken, no_sender, sender_at, untouched, idle, after_load, after_timeout}
use Rattle.oneshot_machine.specs.Phases.{waits, blocked, overdue, full}
use Rattle.oneshot_machine.specs.Phases.{at_once, waited}
use Rattle.oneshot_machine.specs.Phases.{swapped, storing, stopping, overwritten, disconnected, found_closed, closed_itself, gone, ended, no_receiver, receiver_at}
use Rattle.oneshot_machine.specs.Logs.{Event, did, wrote, took, handed, parked, clocked, worded, words, kept, messages_given, messages_got}
use Rattle.oneshot_machine.specs.Runs.{Run}

-- the phases of a sender, by its logs
pub record LogsOfSender : Type 0 where
  pub nothing_yet : sender_at [] ≡ fresh
  pub sent : sender_at ((Add, Word EMPTY) ∷ []) ≡ finished sending
  pub sent_too_late : sender_at ((Add, Word DISCONNECTED) ∷ []) ≡ found_gone sending
  pub found_a_waker : sender_at ((Add, Word RECEIVING) ∷ []) ≡ owes sending
  pub sent_to_it : sender_at ((Add, Word RECEIVING) ∷ (Swap MESSAGE, Word UNPARKING) ∷ []) ≡ finished sending
  pub sent_to_one_that_stopped : sender_at ((Add, Word RECEIVING) ∷ (Swap MESSAGE, Word EMPTY) ∷ []) ≡ finished sending
  pub sent_to_one_that_left_meanwhile :
      sender_at ((Add, Word RECEIVING) ∷ (Swap MESSAGE, Word DISCONNECTED) ∷ []) ≡ overtaken sending
  pub dropped : sender_at ((Xor, Word EMPTY) ∷ []) ≡ finished dropping
  pub dropped_before_it :
      sender_at ((Xor, Word RECEIVING) ∷ (Swap DISCONNECTED, Word UNPARKING) ∷ []) ≡ finished dropping
  pub dropped_too_late : sender_at ((Xor, Word DISCONNECTED) ∷ []) ≡ found_gone dropping
  pub dropped_after_one_that_left_meanwhile :
      sender_at ((Xor, Word RECEIVING) ∷ (Swap DISCONNECTED, Word DISCONNECTED) ∷ []) ≡ overtaken dropping
  -- and logs that no sender has
  pub sends_over_a_message : sender_at ((Add, Word MESSAGE) ∷ []) ≡ no_sender
  pub sends_twice : sender_at ((Add, Word EMPTY) ∷ (Add, Word EMPTY) ∷ []) ≡ no_sender
  pub drops_after_it_sent : sender_at ((Add, Word EMPTY) ∷ (Xor, Word EMPTY) ∷ []) ≡ no_sender
  pub tries_again : sender_at ((Add, Word DISCONNECTED) ∷ (Add, Word EMPTY) ∷ []) ≡ no_sender
  pub ends_its_send_as_a_drop : sender_at ((Add, Word RECEIVING) ∷ (Swap DISCONNECTED, Word UNPARKING) ∷ []) ≡ no_sender
  pub finds_its_waker_again : sender_at ((Add, Word RECEIVING) ∷ (Swap MESSAGE, Word RECEIVING) ∷ []) ≡ no_sender
  pub swaps : sender_at ((Swap MESSAGE, Word EMPTY) ∷ []) ≡ no_sender
  pub does_not_see : sender_at ((Add, Done) ∷ []) ≡ no_sender

-- the phases of a receiver, by its logs
pub record LogsOfReceiver : Type 0 where
  pub nothing_yet : receiver_at [] ≡ untouched
  pub loaded_in_vain : receiver_at ((Load, Word EMPTY) ∷ (Load, Word EMPTY) ∷ []) ≡ idle after_load
  pub found_it : receiver_at ((Load, Word EMPTY) ∷ (Load, Word MESSAGE) ∷ []) ≡ full at_once
  pub received : receiver_at ((Load, Word MESSAGE) ∷ (Store DISCONNECTED, Done) ∷ []) ≡ disconnected closed_itself
  pub tried_again :
      receiver_at ((Load, Word MESSAGE) ∷ (Store DISCONNECTED, Done) ∷ (Load, Word DISCONNECTED) ∷ [])
      ≡ disconnected closed_itself
  pub found_no_sender :
      receiver_at ((Load, Word DISCONNECTED) ∷ (Load, Word DISCONNECTED) ∷ []) ≡ disconnected found_closed
  pub began_to_wait : receiver_at ((Load, Word EMPTY) ∷ (Swap RECEIVING, Word EMPTY) ∷ []) ≡ waits blocked
  pub woke_too_early :
      receiver_at ((Load, Word EMPTY) ∷ (Swap RECEIVING, Word EMPTY) ∷ (Load, Word RECEIVING) ∷ (Load, Word UNPARKING)
      ∷ []) ≡ waits blocked
  pub waited_for_it :
      receiver_at ((Load, Word EMPTY) ∷ (Swap RECEIVING, Word EMPTY) ∷ (Load, Word MESSAGE) ∷ []) ≡ full waited
  pub found_it_by_its_swap :
      receiver_at ((Load, Word EMPTY) ∷ (Swap RECEIVING, Word MESSAGE) ∷ []) ≡ full (swapped storing)
  pub found_nobody_by_its_swap :
      receiver_at ((Load, Word EMPTY) ∷ (Swap RECEIVING, Word DISCONNECTED) ∷ []) ≡ overwritten storing
  pub ran_out :
      receiver_at ((Load, Word EMPTY) ∷ (Swap RECEIVING, Word EMPTY) ∷ (Swap EMPTY, Word RECEIVING) ∷ [])
      ≡ idle after_timeout
  pub ran_out_and_tried_again :
      receiver_at ((Load, Word EMPTY) ∷ (Swap RECEIVING, Word EMPTY) ∷ (Swap EMPTY, Word RECEIVING) ∷ (Load, Word EMPTY)
      ∷ []) ≡ idle after_load
  pub ran_out_over_a_message :
      receiver_at ((Load, Word EMPTY) ∷ (Swap RECEIVING, Word EMPTY) ∷ (Swap EMPTY, Word MESSAGE) ∷ [])
      ≡ full (swapped stopping)
  pub ran_out_over_a_drop :
      receiver_at ((Load, Word EMPTY) ∷ (Swap RECEIVING, Word EMPTY) ∷ (Swap EMPTY, Word DISCONNECTED) ∷ [])
      ≡ overwritten stopping
  pub ran_out_too_late :
      receiver_at ((Load, Word EMPTY) ∷ (Swap RECEIVING, Word EMPTY) ∷ (Swap EMPTY, Word UNPARKING) ∷ []) ≡ overdue
  pub waited_for_the_sender :
      receiver_at ((Load, Word EMPTY) ∷ (Swap RECEIVING, Word EMPTY) ∷ (Swap EMPTY, Word UNPARKING) ∷ (Load, Word EMPTY)
      ∷ (Load, Word MESSAGE) ∷ [])
      ≡ full waited
  pub put_it_back :
      receiver_at ((Load, Word EMPTY) ∷ (Swap RECEIVING, Word DISCONNECTED) ∷ (Store DISCONNECTED, Done) ∷ [])
      ≡ disconnected closed_itself
  pub dropped_early : receiver_at ((Load, Word EMPTY) ∷ (Swap DISCONNECTED, Word EMPTY) ∷ []) ≡ gone
  pub dropped_over_a_message : receiver_at ((Swap DISCONNECTED, Word MESSAGE) ∷ []) ≡ ended
  pub dropped_after_all : receiver_at ((Load, Word DISCONNECTED) ∷ (Swap DISCONNECTED, Word DISCONNECTED) ∷ []) ≡ ended
  -- and logs that no receiver has
  pub leaves_the_message : receiver_at ((Load, Word MESSAGE) ∷ (Load, Word MESSAGE) ∷ []) ≡ no_receiver
  pub drops_in_its_call :
      receiver_at ((Load, Word EMPTY) ∷ (Swap RECEIVING, Word MESSAGE) ∷ (Swap DISCONNECTED, Word RECEIVING) ∷ [])
      ≡ no_receiver
  pub stores_another_word : receiver_at ((Load, Word MESSAGE) ∷ (Store EMPTY, Done) ∷ []) ≡ no_receiver
  pub closes_unasked : receiver_at ((Load, Word EMPTY) ∷ (Store DISCONNECTED, Done) ∷ []) ≡ no_receiver
  pub opens_again : receiver_at ((Load, Word DISCONNECTED) ∷ (Load, Word EMPTY) ∷ []) ≡ no_receiver
  pub goes_on_after_its_drop :
      receiver_at ((Swap DISCONNECTED, Word EMPTY) ∷ (Load, Word DISCONNECTED) ∷ []) ≡ no_receiver
  pub waits_without_a_load : receiver_at ((Swap RECEIVING, Word EMPTY) ∷ []) ≡ no_receiver
  pub drops_while_it_waits :
      receiver_at ((Load, Word EMPTY) ∷ (Swap RECEIVING, Word EMPTY) ∷ (Swap DISCONNECTED, Word RECEIVING) ∷ [])
      ≡ no_receiver
  pub waits_on_a_word_that_it_left :
      receiver_at ((Load, Word EMPTY) ∷ (Swap RECEIVING, Word EMPTY) ∷ (Load, Word EMPTY) ∷ []) ≡ no_receiver
  pub leaves_its_late_word :
      receiver_at ((Load, Word EMPTY) ∷ (Swap RECEIVING, Word EMPTY) ∷ (Swap EMPTY, Word UNPARKING)
      ∷ (Swap DISCONNECTED, Word EMPTY) ∷ []) ≡ no_receiver
  pub waits_without_a_second_load :
      receiver_at ((Load, Word EMPTY) ∷ (Swap RECEIVING, Word EMPTY) ∷ (Swap EMPTY, Word RECEIVING)
      ∷ (Swap RECEIVING, Word EMPTY) ∷ []) ≡ no_receiver
  pub stops_before_it_waits : receiver_at ((Load, Word EMPTY) ∷ (Swap EMPTY, Word EMPTY) ∷ []) ≡ no_receiver
  pub adds : receiver_at ((Add, Word EMPTY) ∷ []) ≡ no_receiver

abbrev pub SenderRun : SenderPos → List (Event ℕ ℕ) → Reply → Type 0
SenderRun = Run sender_step sender_row

abbrev pub ReceiverRun : ReceiverPos → List (Event ℕ ℕ) → Reply → Type 0
ReceiverRun = Run receiver_step receiver_row

abbrev pub sending_7 : List (Event ℕ ℕ)
sending_7 = wrote 7 ∷ worded Add EMPTY ∷ []

abbrev pub receiving_7 : List (Event ℕ ℕ)
receiving_7 = worded Load MESSAGE ∷ worded (Store DISCONNECTED) MESSAGE ∷ took 7 ∷ []

-- a send to a receiver that waits, with the waker 1
abbrev pub waking : List (Event ℕ ℕ)
waking = wrote 7 ∷ worded Add RECEIVING ∷ handed TakeWaker 1 ∷ worded (Swap MESSAGE) UNPARKING ∷ handed Wake 1 ∷ []

-- a receive that stores the waker 1, and parks twice
abbrev pub waiting : List (Event ℕ ℕ)
waiting =
    worded Load EMPTY
    ∷ handed WriteWaker 1
    ∷ worded (Swap RECEIVING) EMPTY
    ∷ parked false
    ∷ worded Load UNPARKING
    ∷ parked true
    ∷ worded Load MESSAGE
    ∷ []

-- a receive whose swap finds that it need not wait
abbrev pub withdrawing : ℕ → List (Event ℕ ℕ)
withdrawing word = worded Load EMPTY ∷ handed WriteWaker 1 ∷ worded (Swap RECEIVING) word ∷ handed Withdraw 1 ∷ []

-- a receive with a deadline that waits once
abbrev pub waited_once : List (Event ℕ ℕ)
waited_once =
    worded Load EMPTY
    ∷ handed WriteWaker 1
    ∷ worded (Swap RECEIVING) EMPTY
    ∷ clocked false
    ∷ parked false
    ∷ worded Load RECEIVING
    ∷ []

-- and then finds its deadline over
abbrev pub running_out : List (Event ℕ ℕ)
running_out = waited_once ++ clocked true ∷ []

-- steps that are a run of the call, with this reply
pub record RunsThatAre : Type 0 where
  pub sends : SenderRun SendWrite sending_7 Sent
  pub is_refused : SenderRun SendWrite (wrote 7 ∷ worded Add DISCONNECTED ∷ []) Refused
  pub wakes : SenderRun SendWrite waking Sent
  pub is_refused_at_its_last_operation :
      SenderRun SendWrite (wrote 7 ∷ worded Add RECEIVING ∷ handed TakeWaker 1 ∷ worded (Swap MESSAGE) DISCONNECTED
      ∷ handed Wake 1 ∷ []) Refused
  pub wakes_by_its_drop :
      SenderRun DropXor
      (worded Xor RECEIVING ∷ handed TakeWaker 1 ∷ worded (Swap DISCONNECTED) UNPARKING ∷ handed Wake 1 ∷ []) R.Done
  pub frees_after_its_wake :
      SenderRun DropXor (worded Xor RECEIVING ∷ handed TakeWaker 1 ∷ worded (Swap DISCONNECTED) DISCONNECTED
      ∷ handed Wake 1 ∷ did Free ∷ []) R.Done
  pub gives_it_back : SenderRun IntoTake (took 7 ∷ did Free ∷ []) Message
  pub drops_the_error : SenderRun ErrorDrop (did DropMessage ∷ did Free ∷ []) R.Done
  pub drops_the_sender : SenderRun DropXor (worded Xor DISCONNECTED ∷ did Free ∷ []) R.Done
  pub receives : ReceiverRun (Try TryLoad) receiving_7 Message
  pub finds_nothing : ReceiverRun (Try TryLoad) (worded Load EMPTY ∷ []) Empty
  pub finds_no_sender : ReceiverRun (Try TryLoad) (worded Load DISCONNECTED ∷ []) Disconnected
  pub waits_for_it :
      ReceiverRun (Ref (StartLoad false)) (waiting ++ worded (Store DISCONNECTED) MESSAGE ∷ took 7 ∷ []) Message
  pub need_not_wait :
      ReceiverRun (Ref (StartLoad false))
      (withdrawing MESSAGE ++ worded (Store DISCONNECTED) RECEIVING ∷ took 7 ∷ []) Message
  pub waits_for_nobody :
      ReceiverRun (Ref (StartLoad false))
      (withdrawing DISCONNECTED ++ worded (Store DISCONNECTED) RECEIVING ∷ []) Disconnected
  pub runs_out :
      ReceiverRun (Ref (StartLoad true)) (running_out ++ worded (Swap EMPTY) RECEIVING ∷ handed Withdraw 1 ∷ []) Timeout
  pub runs_out_after_its_sum :
      ReceiverRun (Timed (SumClock true))
      (clocked true ∷ running_out ++ worded (Swap EMPTY) RECEIVING ∷ handed Withdraw 1 ∷ [])
      Timeout
  pub runs_out_over_a_message :
      ReceiverRun (Ref (StartLoad true))
      (running_out ++ worded (Swap EMPTY) MESSAGE ∷ worded (Store DISCONNECTED) EMPTY ∷ took 7 ∷ []) Message
  pub runs_out_over_a_drop :
      ReceiverRun (Ref (StartLoad true))
      (running_out ++ worded (Swap EMPTY) DISCONNECTED ∷ worded (Store DISCONNECTED) EMPTY ∷ []) Disconnected
  pub waits_for_the_sender :
      ReceiverRun
      (Ref (StartLoad true))
      (running_out ++ worded (Swap EMPTY) UNPARKING ∷ parked false ∷ worded Load EMPTY ∷ parked true
      ∷ worded Load DISCONNECTED ∷ [])
      Disconnected
  pub never_runs_out : ReceiverRun (Timed (SumClock false)) (clocked false ∷ worded Load DISCONNECTED ∷ []) Disconnected
  pub waits_and_frees : ReceiverRun (Value RecvLoad) (waiting ++ took 7 ∷ did Free ∷ []) Message
  pub waits_for_nobody_and_frees : ReceiverRun (Value RecvLoad) (withdrawing DISCONNECTED ++ did Free ∷ []) Disconnected
  pub drops_the_message :
      ReceiverRun (Drop DropSwap) (worded (Swap DISCONNECTED) MESSAGE ∷ did DropMessage ∷ did Free ∷ []) R.Done
  -- the messages that they hand in and out, and the steps that a real ground keeps
  pub handed_in : messages_given sending_7 ≡ 7 ∷ []
  pub handed_out : messages_got receiving_7 ≡ 7 ∷ []
  pub hands_nothing_out : messages_got sending_7 ≡ []
  pub keeps_all : kept true sending_7 ≡ sending_7
  pub keeps_no_waker : kept false waking ≡ worded Add RECEIVING ∷ worded (Swap MESSAGE) UNPARKING ∷ []
  pub keeps_the_word : kept false sending_7 ≡ worded Add EMPTY ∷ []
  pub as_words : words receiving_7 ≡ (Load, Word MESSAGE) ∷ (Store DISCONNECTED, Done) ∷ []

-- and steps that are no run
pub record RunsThatAreNot : Type 0 where
  pub writes_nothing : SenderRun SendWrite (worded Add EMPTY ∷ []) Sent → ⊥
  pub says_that_it_sent : SenderRun SendWrite (wrote 7 ∷ worded Add DISCONNECTED ∷ []) Sent → ⊥
  pub stops_halfway : (r : Reply) → SenderRun SendWrite (wrote 7 ∷ []) r → ⊥
  pub does_not_free : (r : Reply) → SenderRun DropXor (worded Xor DISCONNECTED ∷ []) r → ⊥
  pub frees_unasked : (r : Reply) → SenderRun DropXor (worded Xor EMPTY ∷ did Free ∷ []) r → ⊥
  pub takes_and_leaves_4 : (r : Reply) → ReceiverRun (Try TryLoad) (worded Load MESSAGE ∷ took 7 ∷ []) r → ⊥
  pub says_that_all_are_gone : ReceiverRun (Try TryLoad) (worded Load EMPTY ∷ []) Disconnected → ⊥
  pub wakes_before_its_swap :
      (r : Reply) → SenderRun SendWrite (wrote 7 ∷ worded Add RECEIVING ∷ handed TakeWaker 1 ∷ handed Wake 1 ∷ []) r → ⊥
  pub answers_unwoken : (r : Reply) → ReceiverRun (Ref (StartLoad false)) waiting r → ⊥
  pub parks_before_it_swaps :
      (r : Reply) → ReceiverRun (Ref (StartLoad false)) (worded Load EMPTY ∷ handed WriteWaker 1 ∷ parked true ∷ []) r
      → ⊥
  pub runs_out_over_4 :
      ReceiverRun (Ref (StartLoad true)) (running_out ++ worded (Swap EMPTY) MESSAGE ∷ []) Timeout → ⊥
  pub runs_out_over_1 :
      ReceiverRun (Ref (StartLoad true)) (running_out ++ worded (Swap EMPTY) UNPARKING ∷ []) Timeout → ⊥
  pub runs_out_by_the_clock_alone : (r : Reply) → ReceiverRun (Ref (StartLoad true)) running_out r → ⊥
  pub loses_the_message :
      (r : Reply) → ReceiverRun (Drop DropSwap) (worded (Swap DISCONNECTED) MESSAGE ∷ did Free ∷ []) r → ⊥
