-- Examples and counterexamples of what is there for one end once the other is over, of what an operation found first,
-- and of receivers that seek or are answered.
use Rattle.std.specs.Prelude.{◌≡◌, ⊤, ℕ, true, false, List, [], ◌∷◌, Some, None}
use Rattle.futures.specs.declared.task.waker.Waker.{Waker}
use Rattle.oneshot_machine.specs.declared.machine.Reply.TheVariants as R
use Rattle.oneshot_machine.specs.declared.machine.Seen.TheVariants.{Word}
use Rattle.oneshot_machine.specs.declared.machine.Step.TheVariants as Steps
use Rattle.oneshot_machine.specs.Logs.{Event, words, did, worded}
use Rattle.oneshot_machine.specs.declared.machine.receiver.ReceiverStart.TheVariants as RC
use Rattle.oneshot_machine.specs.declared.states.Op.TheVariants.{Load, Store, Swap, Add, Xor}
use Rattle.oneshot_machine.specs.declared.states.TheConstants.{RECEIVING, UNPARKING, DISCONNECTED, EMPTY, MESSAGE}
use Rattle.oneshot_machine.specs.Noted.{Noted}
use Rattle.oneshot_machine.specs.Over.{IsLate, SenderIsOver, HasLeft}
use Rattle.oneshot_machine.specs.Phases.{sending, dropping, sender_at, receiver_at}
use Rattle.oneshot_word.specs.Rule.{Home, bare, has_message}
use Rattle.oneshot_word.specs.Side.{Side}
use Rattle.oneshot_contract_examples.specs.EndExamples.{ran_out, received_and_closed}
use Rattle.oneshot_contract_examples.specs.ExampleLogs.{loaded, waits, sent_over}
use Rattle.oneshot_contract_examples.specs.StateExamples.{stopped_over, exchanged_back, left_meanwhile, dropped_over, went}
use Rattle.oneshot_contract_examples.specs.TakenExamples.{passed_by, Beside}
use Rattle.oneshot_ends.specs.declared.token.WakingHalf.{WakingHalf}
use Rattle.oneshot_values.specs.EndedSenders.{IsSeeking, last_word, MessageIsThere}
use Rattle.oneshot_ends.specs.Ends.{UnnamedWaker}
use Rattle.oneshot_values.specs.FirstFound.{receives, FirstFound, ReceiveRun, SendRun}
use Rattle.oneshot_ends.specs.OwnWakers.{RealWaker}
use Rattle.oneshot_ends.specs.Taken.{has_found}
use Rattle.oneshot_values.specs.ToldEnds.{IsAnswered}

-- a `send` and a sender's drop that found the receiver there and not waiting, and a `send` that found it gone
abbrev pub sent_here : List Noted
sent_here = (Add, Word EMPTY) ∷ []

abbrev pub dropped_here : List Noted
dropped_here = (Xor, Word EMPTY) ∷ []

abbrev pub refused_late : List Noted
refused_late = (Add, Word DISCONNECTED) ∷ []

-- a receiver that found at once that no message will come, and one whose swap found it
abbrev pub found_no_sender : List Noted
found_no_sender = (Load, Word DISCONNECTED) ∷ []

abbrev pub overwrote : List Noted
overwrote = (Load, Word EMPTY) ∷ (Swap RECEIVING, Word DISCONNECTED) ∷ []

-- the steps of a `try_recv` that takes the message, and of a `send` that is refused
abbrev pub takes : List (Event ℕ UnnamedWaker)
takes = worded Load MESSAGE ∷ worded (Store DISCONNECTED) MESSAGE ∷ did Steps.TakeMessage ∷ []

abbrev pub refuses : List (Event ℕ UnnamedWaker)
refuses = did Steps.WriteMessage ∷ worded Add DISCONNECTED ∷ []

-- the message's slot with this content, and the waker's slot without a waker
abbrev pub homes_with : Home ℕ WakingHalf Waker → List (Home ℕ WakingHalf Waker)
homes_with home = home ∷ bare ∷ []

-- one end that is over beside the other, what is there then, operations that found it first, and receivers that seek
pub record FindsThatAre : Type 0 where
  pub sent_beside_a_new_one : (m : ℕ) → Beside (passed_by sent_here (Some m)) (passed_by [] None)
      × SenderIsOver sending (sender_at sent_here) × IsSeeking []
  pub sent_after_its_load : (m : ℕ) → Beside (passed_by sent_here (Some m)) (passed_by loaded None)
      × SenderIsOver sending (sender_at sent_here) × IsSeeking loaded
  pub sent_to_an_overdue_one : (m : ℕ)
      → Beside (passed_by (sent_over EMPTY) (Some m)) (passed_by (stopped_over UNPARKING) None)
      × SenderIsOver sending (sender_at (sent_over EMPTY)) × IsSeeking (stopped_over UNPARKING)
  pub dropped_beside_a_new_one : Beside (passed_by dropped_here None) (passed_by [] None)
      × SenderIsOver dropping (sender_at dropped_here) × IsSeeking []
  pub dropped_beside_one_that_waits : Beside (passed_by (dropped_over UNPARKING) None) (passed_by waits None)
      × SenderIsOver dropping (sender_at (dropped_over UNPARKING)) × IsSeeking waits
  -- a receiver that found the message, and one that found that its sender was dropped
  pub found_its_message : (m : ℕ)
      → Beside (passed_by sent_here (Some m)) (passed_by ((Load, Word MESSAGE) ∷ []) (Some m))
      × (has_found ((Load, Word MESSAGE) ∷ []) ≡ true)
  pub found_a_drop : Beside (passed_by dropped_here None) (passed_by found_no_sender None)
      × IsAnswered found_no_sender × (has_found found_no_sender ≡ false)
  -- a receiver that was dropped, beside a sender that has performed no operation, and beside two that are late
  pub went_before_a_send : Beside (passed_by [] None) (passed_by went None) × HasLeft (receiver_at went)
  pub went_and_refused : Beside (passed_by refused_late None) (passed_by went None) × IsLate (sender_at refused_late)
  pub went_and_overtook : Beside (passed_by (sent_over DISCONNECTED) None) (passed_by left_meanwhile None)
      × IsLate (sender_at (sent_over DISCONNECTED)) × HasLeft (receiver_at left_meanwhile)
  pub is_there : (m : ℕ) → MessageIsThere (homes_with (has_message m)) (passed_by sent_here (Some m))
  pub sends_leave : last_word sending ≡ MESSAGE
  pub drops_leave : last_word dropping ≡ DISCONNECTED
  -- runs of a `try_recv` and of a `send` by the word that their first operation finds
  pub took_it : ReceiveRun ℕ RC.TryRecv takes R.Message × FirstFound MESSAGE (words takes)
  pub found_no_message : ReceiveRun ℕ RC.TryRecv (worded Load DISCONNECTED ∷ []) R.Disconnected
      × FirstFound DISCONNECTED found_no_sender
  pub was_refused : SendRun ℕ refuses R.Refused × FirstFound DISCONNECTED (words refuses)
  pub ran_out_seeks : IsSeeking ran_out
  pub withdrawn_seeks : IsSeeking (exchanged_back RECEIVING)
  pub overwritten_is_answered : IsAnswered overwrote
  pub received_is_answered : IsAnswered received_and_closed
  pub a_try_receives : receives RC.TryRecv ≡ true
  pub a_recv_receives : receives RC.Recv ≡ true
  pub a_recv_ref_receives : receives RC.RecvRef ≡ true
  pub a_recv_deadline_receives : receives RC.RecvDeadline ≡ true
  pub a_recv_timeout_receives : (representable : _) → receives (RC.RecvTimeout representable) ≡ true
  pub a_poll_receives : receives RC.Poll ≡ true
  pub a_futures_try_receives : receives RC.AsyncTryRecv ≡ true

-- messages that are not there, words that were not found first, receivers that do not seek or are not answered, and
-- calls that receive nothing
pub record FindsThatAreNot : Type 0 where
  pub is_lost : (s : Side ℕ RealWaker ⊤) → MessageIsThere (homes_with bare) s → ⊥
  pub is_another : (s : Side ℕ RealWaker ⊤) → s.passed ≡ Some 8 → MessageIsThere (homes_with (has_message 7)) s → ⊥
  pub was_not_given : (s : Side ℕ RealWaker ⊤) (homes : List (Home ℕ WakingHalf Waker)) → s.passed ≡ None
      → MessageIsThere homes s → ⊥
  pub found_it_later : FirstFound MESSAGE ((Load, Word EMPTY) ∷ (Swap RECEIVING, Word MESSAGE) ∷ []) → ⊥
  pub found_another : FirstFound MESSAGE found_no_sender → ⊥
  pub found_none : FirstFound MESSAGE [] → ⊥
  pub full_seeks : IsSeeking ((Load, Word MESSAGE) ∷ []) → ⊥
  pub received_seeks : IsSeeking received_and_closed → ⊥
  pub overwritten_seeks : IsSeeking overwrote → ⊥
  pub disconnected_seeks : IsSeeking found_no_sender → ⊥
  pub dropped_seeks : IsSeeking went → ⊥
  pub new_is_answered : IsAnswered [] → ⊥
  pub loaded_is_answered : IsAnswered loaded → ⊥
  pub waiting_is_answered : IsAnswered waits → ⊥
  pub overdue_is_answered : IsAnswered (stopped_over UNPARKING) → ⊥
  pub dropped_is_answered : IsAnswered went → ⊥
  pub a_look_receives : receives RC.HasMessage ≡ false
  pub another_look_receives : receives RC.IsClosed ≡ false
  pub a_drop_receives : receives RC.Drop ≡ false
  pub a_futures_drop_receives : receives RC.DropAsync ≡ false
  pub into_future_receives : receives RC.IntoFuture ≡ false
