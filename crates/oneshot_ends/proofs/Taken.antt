-- What a receiver took, by its log: each run of a call that stays in place finds the message exactly if it returns it.
use Rattle.std.proofs.Common.{◌≡◌, ◌⊎◌, inl, inr, Bool, true, false, List, [], ◌∷◌, ◌++◌, Option, Some, None, Result, Ok, Err, refl, sym, ap, ◌∙◌, subst}
use Rattle.std.proofs.lemmas.Bool.{and_parts}
use Rattle.std.proofs.lemmas.List.Folds.{list_any-append}
use mathlib.Core.Bool.{or_assoc, or_comm}
use Rattle.std.specs.Prelude.{ℕ, ◌&&◌, ◌||◌, is_some, is_err, IfOk, IsErr}
use Rattle.futures.specs.declared.task.Poll.{Poll}
use Rattle.futures.specs.declared.task.waker.Waker.{Waker}
use Rattle.futures.specs.declared.task.Poll.TheVariants.{Ready, Pending}
use Rattle.futures.specs.Poll.{IfReady}
use Rattle.oneshot_machine.specs.declared.machine.Reply.{Reply}
use Rattle.oneshot_machine.specs.declared.machine.Seen.{Seen}
use Rattle.oneshot_machine.specs.declared.machine.Seen.TheVariants.{Word}
use Rattle.oneshot_machine.specs.declared.machine.receiver.ReceiverStart.{ReceiverStart}
use Rattle.oneshot_machine.specs.declared.machine.receiver.ReceiverStart.TheVariants as RC
use Rattle.oneshot_machine.specs.declared.machine.receiver.ReceiverPos.{ReceiverPos}
use Rattle.oneshot_machine.specs.declared.machine.receiver.ReceiverPos.TheVariants.{Try, Ref, Timed, Future}
use Rattle.oneshot_machine.specs.declared.machine.try_recv.TryPos.TheVariants.{TryLoad, Close, Take}
use Rattle.oneshot_machine.specs.declared.machine.by_ref.RefPos.TheVariants.{StartSwap, BackFull}
use Rattle.oneshot_machine.specs.declared.machine.timed.TimedPos.TheVariants.{Clock}
use Rattle.oneshot_machine.specs.declared.machine.future.FuturePos.TheVariants.{IntoFuture, PollBackFull}
use Rattle.oneshot_machine.specs.declared.states.Op.{Op}
use Rattle.oneshot_machine.specs.declared.states.TheConstants.{MESSAGE}
use Rattle.oneshot_machine.specs.Called.{Form, as_receiver, as_future, stays}
use Rattle.oneshot_machine.specs.Noted.{Noted, saw}
use Rattle.oneshot_machine.specs.Logs.{Event, words}
use Rattle.oneshot_machine.specs.Receiver.{receiver_start, receiver_step, receiver_rows, receiver_row}
use Rattle.oneshot_machine.specs.Phases.{ReceiverAt, receiver_at, phase_from}
use Rattle.oneshot_machine.specs.Runs.{Run}
use Rattle.oneshot_machine.specs.TableRows.{is_same_seen}
use Rattle.oneshot_machine.proofs.RunsByRows.{carries, by_tests}
use Rattle.oneshot_errors.specs.declared.recv.RecvError.{RecvError}
use Rattle.oneshot_errors.specs.declared.recv_timeout.RecvTimeoutError.{RecvTimeoutError}
use Rattle.oneshot_errors.specs.declared.recv_timeout.RecvTimeoutError.TheVariants as Timeouts
use Rattle.oneshot_errors.specs.declared.try_recv.TryRecvError.{TryRecvError}
use Rattle.oneshot_errors.specs.declared.try_recv.TryRecvError.TheVariants as E
use Rattle.oneshot_drive.specs.BetweenCalls.{Rests, rests_new, rests_open, rests_closed, AtRest, IsClosedAt, is_open_at, try_recv_reply, recv_reply, timed_reply}
use Rattle.oneshot_drive.specs.Polls.{Polled, unpolled, left_copy, kept_copy, found_sender, has_resolved, IsPolled, IsDisconnected, poll_reply}
use Rattle.oneshot_drive.proofs.LeftPhases.{resting}
use Rattle.oneshot_word.specs.Received.{both_views}
use Rattle.oneshot_word.specs.Rule.{Tied}
use Rattle.oneshot_word.specs.Seats.{gave}
use Rattle.oneshot_word.specs.Side.{Side, SenderDid, ReceiverDid}
use Rattle.oneshot_machine.specs.Slots.{away, held}
use Rattle.oneshot_word.proofs.WordsEqual.{is_bool, bools_are}
use Rattle.oneshot_word.proofs.RuleReceives.{received_is_sent}
use Rattle.oneshot_ends.specs.declared.token.WakingHalf.{WakingHalf}
use Rattle.oneshot_ends.specs.Ends.{ReceiverGrew}
use Rattle.oneshot_ends.specs.Grounds.{state_of, left_of, unless_freed}
use Rattle.oneshot_ends.proofs.GrewByRuns.{at_end}
use Rattle.oneshot_ends.proofs.OpenTaken.{open_took_none}
use Rattle.oneshot_ends.specs.Moments.{AtOneMoment, TookWhatWasGiven}
use Rattle.oneshot_ends.specs.OwnWakers.{RealWaker}
use Rattle.oneshot_ends.specs.Taken.{StaysTaken, has_found, TookAsFound, KeepsTaken, Takes, TakesReady, is_message}

pub found_both : (xs ys : List Noted) → has_found (xs ++ ys) ≡ (has_found xs || has_found ys)
found_both xs ys = list_any-append (λ x. is_same_seen x.1 (Word MESSAGE)) xs ys

-- positions at which a call has found the message
abbrev has_it : ReceiverPos → Bool
has_it (Try Close) = true
has_it (Try Take) = true
has_it (Ref BackFull) = true
has_it (Future PollBackFull) = true
has_it _ = false

-- those of the calls that leave the receiver in place
abbrev in_place : ReceiverPos → Bool
in_place (Try at) = true
in_place (Ref at) = true
in_place (Timed at) = true
in_place (Future at) = true
in_place _ = false

-- whether an operation found it now, or one before
abbrev finds_it : Bool → Op → Seen → Bool
finds_it found op seen = found || is_same_seen seen (Word MESSAGE)

-- whether what was found is right at this position, or for this reply
abbrev stands : ReceiverPos → Bool → Bool
stands p found = in_place p && is_bool (has_it p) found

abbrev replies : Reply → Bool → Bool
replies reply found = is_bool found (is_message reply)

abbrev carries_at : ReceiverPos → Bool → Bool
carries_at = carries stands replies receiver_step receiver_rows finds_it

each_carries : (p : ReceiverPos) → (carries_at p true && carries_at p false) ≡ true
each_carries (Try TryLoad) = refl
each_carries (Ref (StartSwap false)) = refl
each_carries (Timed Clock) = refl
each_carries (Future IntoFuture) = refl
each_carries _ = refl

case_carries : (p : ReceiverPos) (found : Bool) → carries_at p found ≡ true
case_carries p true = (and_parts (carries_at p true) (carries_at p false) (each_carries p)).0
case_carries p false = (and_parts (carries_at p true) (carries_at p false) (each_carries p)).1

found_from : (found : Bool) (xs : List Noted) → phase_from finds_it found xs ≡ (found || has_found xs)
found_from found [] = sym (or_comm found false)
found_from found (x ∷ xs) =
    found_from (found || is_same_seen x.1 (Word MESSAGE)) xs
    ∙ or_assoc found (is_same_seen x.1 (Word MESSAGE)) (has_found xs)

-- a call that leaves the receiver in place
abbrev pub begins : ReceiverStart → Bool
begins call = in_place (receiver_start call)

pub stays_begins : (form : Form) (call : ReceiverStart) → stays form call ≡ true → begins call ≡ true
stays_begins as_receiver RC.TryRecv e = refl
stays_begins as_receiver RC.RecvRef e = refl
stays_begins as_receiver RC.RecvDeadline e = refl
stays_begins as_receiver (RC.RecvTimeout representable) e = refl
stays_begins as_future RC.Poll e = refl
stays_begins as_future RC.AsyncTryRecv e = refl
stays_begins _ _ e = absurd (cc)

-- it begins without the message
begins_so : (call : ReceiverStart) → begins call ≡ true → stands (receiver_start call) false ≡ true
begins_so RC.TryRecv e = refl
begins_so _ e = e

-- a call's own operations found the message exactly if it returned it
pub found_in_call : {T W : Type 0} (call : ReceiverStart) (run : List (Event T W)) (reply : Reply)
    → begins call ≡ true → Run receiver_step receiver_row (receiver_start call) run reply
    → has_found (words run) ≡ is_message reply
found_in_call call run reply e is_run =
    sym (found_from false (words run))
    ∙ bools_are (phase_from finds_it false (words run)) (is_message reply)
    (by_tests stands replies receiver_step receiver_rows finds_it case_carries (receiver_start call) false run reply
    (begins_so call e) is_run)

-- so does its log
module _ {T : Type 0} where
  pub grew_found : {before after : List Noted} {reply : Reply} (call : ReceiverStart) → begins call ≡ true
      → ReceiverGrew T call before after reply → has_found after ≡ (has_found before || is_message reply)
  grew_found {before} {reply = reply} call e grew =
      ap has_found grew.list ∙ found_both before (words grew.run)
      ∙ ap (λ b. has_found before || b) (found_in_call call grew.run reply e grew.is_run)

-- equal, if none was taken meanwhile
same_taken : {T : Type 0} (before after : Option T) → StaysTaken before after → is_some after ≡ is_some before
    → after ≡ before
same_taken None None stays e = refl
same_taken (Some x) after stays e = stays x refl
same_taken None (Some y) stays e = absurd (cc)

abbrev is_answer : {T E : Type 0} → Result T E → Bool
is_answer (Ok x) = true
is_answer (Err e) = false

told_tried : {T : Type 0} (result : Result T TryRecvError) → is_message (try_recv_reply result) ≡ is_answer result
told_tried (Ok x) = refl
told_tried (Err E.Empty) = refl
told_tried (Err E.Disconnected) = refl

told_recv : {T : Type 0} (result : Result T RecvError) → is_message (recv_reply result) ≡ is_answer result
told_recv (Ok x) = refl
told_recv (Err e) = refl

told_timed : {T : Type 0} (result : Result T RecvTimeoutError) → is_message (timed_reply result) ≡ is_answer result
told_timed (Ok x) = refl
told_timed (Err Timeouts.Timeout) = refl
told_timed (Err Timeouts.Disconnected) = refl

-- between two calls a receiver is open or closed
abbrev pub IsEither : ReceiverAt → Type 0
IsEither at = (is_open_at at ≡ true) ⊎ IsClosedAt at

rests_either : {at : ReceiverAt} → Rests at → IsEither at
rests_either rests_new = inl refl
rests_either (rests_open o) = inl refl
rests_either (rests_closed c) = inr refl

polled_either : {at : ReceiverAt} → Polled at → IsEither at
polled_either (unpolled rests) = rests_either rests
polled_either left_copy = inl refl
polled_either kept_copy = inl refl
polled_either found_sender = inl refl
polled_either (has_resolved c) = inr refl

module _ {T W P : Type 0} (s : Side T W P) where
  pub rests_so : AtRest (state_of s) → IsEither (receiver_at s.log)
  rests_so rests = rests_either (at_end W Rests s (resting rests))

  pub polled_so : IsPolled (state_of s) → IsEither (receiver_at s.log)
  polled_so rests = polled_either (at_end W Polled s (resting rests))

-- a closed receiver receives nothing
is_error : {T E : Type 0} {result : Result T E} {e : E} → result ≡ Err e → IsErr result
is_error is = ap is_err is

not_error : {T : Type 0} (E : Type 0) (x : T) → IsErr {E = E} (Ok x) → ⊥
not_error E x e = cc e

not_ready : {T : Type 0} (x : T) → IsDisconnected (Ready (Ok x)) → ⊥
not_ready x is = elim is [ ]

-- what a receiver has taken before and after a call
pub record TakenBy {T : Type 0} (log next : List Noted) (before after : Option T) : Type 0 where
  pub stays : StaysTaken before after
  pub was : TookAsFound before log
  pub either : IsEither (receiver_at log)
  pub is : TookAsFound after next

module _ {T : Type 0} {log next : List Noted} {before after : Option T} (by : TakenBy log next before after) where
  takes_none : has_found next ≡ (has_found log || false) → after ≡ before
  takes_none grew = same_taken before after by.stays (by.is ∙ grew ∙ or_comm (has_found log) false ∙ sym by.was)

  none_before : (IsClosedAt (receiver_at log) → ⊥) → before ≡ None
  none_before not_closed =
      elim by.either [
        | inl is_open ↦ open_took_none before log by.was is_open
        | inr closed ↦ absurd (not_closed closed)
      ]

  result_takes : {E : Type 0} (result : Result T E) → has_found next ≡ (has_found log || is_answer result)
      → (IsClosedAt (receiver_at log) → IsErr result) → IfOk result (λ x. after ≡ Some x) → Takes result before after
  result_takes {E} (Ok x) grew closed had = (none_before (λ is_closed. not_error E x (closed is_closed)), had)
  result_takes (Err e) grew closed had = takes_none grew

  pub tried_takes : (call : ReceiverStart) → begins call ≡ true → (result : Result T TryRecvError)
      → ReceiverGrew T call log next (try_recv_reply result)
      → (IsClosedAt (receiver_at log) → result ≡ Err E.Disconnected)
      → IfOk result (λ x. after ≡ Some x) → Takes result before after
  tried_takes call e result grew closed =
      result_takes result (grew_found call e grew ∙ ap (λ b. has_found log || b) (told_tried result))
      (λ is_closed. is_error (closed is_closed))

  pub recv_takes : (call : ReceiverStart) → begins call ≡ true → (result : Result T RecvError)
      → ReceiverGrew T call log next (recv_reply result) → (IsClosedAt (receiver_at log) → IsErr result)
      → IfOk result (λ x. after ≡ Some x) → Takes result before after
  recv_takes call e result grew =
      result_takes result (grew_found call e grew ∙ ap (λ b. has_found log || b) (told_recv result))

  pub timed_takes : (call : ReceiverStart) → begins call ≡ true → (result : Result T RecvTimeoutError)
      → ReceiverGrew T call log next (timed_reply result)
      → (IsClosedAt (receiver_at log) → result ≡ Err Timeouts.Disconnected)
      → IfOk result (λ x. after ≡ Some x) → Takes result before after
  timed_takes call e result grew closed =
      result_takes result (grew_found call e grew ∙ ap (λ b. has_found log || b) (told_timed result))
      (λ is_closed. is_error (closed is_closed))

  pub poll_takes : (result : Poll (Result T RecvError)) → ReceiverGrew T RC.Poll log next (poll_reply result)
      → (IsClosedAt (receiver_at log) → IsDisconnected result)
      → IfReady result (λ answer. IfOk answer (λ x. after ≡ Some x)) → TakesReady result before after
  poll_takes (Ready (Ok x)) grew closed had = (none_before (λ is_closed. not_ready x (closed is_closed)), had)
  poll_takes (Ready (Err e)) grew closed had = takes_none (grew_found RC.Poll refl grew)
  poll_takes Pending grew closed had = takes_none (grew_found RC.Poll refl grew)

module _ {T W P : Type 0} where
  -- what an operation on the word keeps
  did_keeps : {s t : Side T W P} {op : Op} {word : ℕ} → ReceiverDid s op word t
      → KeepsTaken s.passed t.passed s.log t.log
  did_keeps {s} {op = op} {word = word} did =
      record {
        stays = did.stays;
        found = λ so. did.takes ∙ ap (λ b. b || is_same_seen (saw op word) (Word MESSAGE)) so
            ∙ ap (λ b. has_found s.log || b) (or_comm false (is_same_seen (saw op word) (Word MESSAGE)))
            ∙ sym (ap has_found did.list ∙ found_both s.log ((op, saw op word) ∷ []));
      }

  -- what stays with the log and what passed
  pub side_keeps : (s t : Side T W P) → t.passed ≡ s.passed → t.log ≡ s.log
      → KeepsTaken s.passed t.passed s.log t.log
  side_keeps s t passed logs =
      record {
        stays = λ x is. passed ∙ is;
        found = λ so. ap is_some passed ∙ so ∙ sym (ap has_found logs);
      }

  pub ground_keeps : (freed : Bool) (s : Side T W P) {now next : Side T W P} {op : Op} {word : ℕ}
      → left_of freed s ≡ now → ReceiverDid s op word next
      → (next.about ≡ now.about) × KeepsTaken now.passed next.passed now.log next.log
  ground_keeps freed s {next = next} is did =
      subst (λ now. (next.about ≡ now.about) × KeepsTaken now.passed next.passed now.log next.log) is
      (did.about, did_keeps did)

  -- a ground that was lent
  pub lent_found : {own s : Side T W P} → s ≡ own → TookAsFound own.passed own.log → TookAsFound s.passed s.log
  lent_found is so = subst (λ s. TookAsFound s.passed s.log) (sym is) so

  -- a call on the ground of a receiver, its own or lent for the call
  pub took_by : {own s : Side T W P} {log : List Noted} {took : Option T} → s ≡ own → own.log ≡ log
      → own.passed ≡ took → (next : Side T W P) → KeepsTaken s.passed next.passed s.log next.log
      → TookAsFound own.passed own.log → IsEither (receiver_at own.log) → TakenBy log next.log took next.passed
  took_by is logs takes next keeps so either =
      record {
        stays = λ x e. keeps.stays x (ap (λ s. s.passed) is ∙ takes ∙ e);
        was = ap is_some (sym takes) ∙ so ∙ ap has_found logs;
        either = subst (λ xs. IsEither (receiver_at xs)) logs either;
        is = keeps.found (lent_found is so);
      }

  -- a new one
  pub new_found : (s now : Side T W P) → now ≡ s → s.log ≡ [] → s.passed ≡ None → TookAsFound now.passed now.log
  new_found s now is log passed =
      subst (λ s. TookAsFound s.passed s.log) (sym is) (ap is_some passed ∙ sym (ap has_found log))

  -- a sender that gives up its slot gave what was there
  pub gave_it : (freed : Bool) (s : Side T W P) {now next : Side T W P} {op : Op} {word : ℕ} → left_of freed s ≡ now
      → SenderDid s op word next → (x : T) → now.message ≡ held x → unless_freed freed next.message ≡ away
      → next.passed ≡ Some x
  gave_it true s is did x has gone =
      let was : away ≡ held x = ap (λ (s : Side T W P). s.message) is ∙ has in absurd (cc was)
  gave_it false s is did x has gone =
      let was : s.message ≡ held x = ap (λ (s : Side T W P). s.message) is ∙ has in
      did.passed ∙ (λ i. gave (was i) (gone i) s.passed)

-- by the rule of the shared table, who gave it
module _ {T P : Type 0} (keeps : P → T → Type 0) where
  gave_that : (sender receiver : Side T RealWaker P) (took : T) → AtOneMoment keeps sender receiver
      → receiver.passed ≡ Some took → sender.passed ≡ Some took
  gave_that sender receiver took moment is =
      (received_is_sent WakingHalf Waker keeps).taken moment.about moment.words moment.homes sender.log receiver.log
      sender.passed receiver.handed sender.handed took
      (subst (λ taken. Tied keeps moment.about moment.words moment.homes
      (both_views moment.about sender.log sender.passed sender.handed receiver.log taken receiver.handed))
      is moment.allowed)

  pub took_what_was_given : TookWhatWasGiven keeps
  took_what_was_given =
      record {
        given = gave_that;
        same = λ sender receiver gave took moment gives takes.
            let e = sym (gave_that sender receiver took moment takes) ∙ gives in cc e;
      }
