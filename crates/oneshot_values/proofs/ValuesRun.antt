-- An end's log belongs to an order of operations, and each order to a run.
use Rattle.std.proofs.Common.{◌≡◌, ◌≤◌, ◌+◌, ℕ, zero, suc, Bool, true, false, Option, Some, None, sym, List, [], ◌∷◌, ◌++◌, arith, length, length-append, refl, ap, ◌∙◌, subst}
use Rattle.std.specs.Prelude.{filter, Result, Ok, Err, IfOk, ◌&&◌, ◌||◌, is_some}
use Rattle.std.proofs.lemmas.List.{map-append}
use Rattle.std.proofs.lemmas.List.Elements.{filter-append}
use Rattle.oneshot_machine.specs.declared.machine.Reply.{Reply}
use Rattle.oneshot_machine.specs.declared.machine.receiver.ReceiverStart.{ReceiverStart}
use Rattle.oneshot_machine.specs.declared.machine.Reply.TheVariants as R
use Rattle.oneshot_machine.specs.declared.machine.receiver.ReceiverStart.TheVariants.{TryRecv}
use Rattle.oneshot_machine.specs.declared.machine.receiver.ReceiverStart.TheVariants as RC
use Rattle.oneshot_machine.specs.Called.{Form, as_receiver, as_future, stays, ReceiverCalled, not_called, called, became_future}
use Rattle.oneshot_machine.specs.Logs.{words}
use Rattle.oneshot_laws.specs.Actions.{is_receive}
use Rattle.oneshot_laws.specs.Entries.{is_same_reply}
use Rattle.oneshot_machine.specs.Noted.{Noted}
use Rattle.oneshot_errors.specs.declared.try_recv.TryRecvError.{TryRecvError}
use Rattle.oneshot_drive.specs.BetweenCalls.{try_recv_reply}
use Rattle.oneshot_ends.specs.Ends.{UnnamedWaker, ReceiverGrew, HasCalls, CallsAddUp, SenderIsOrdered, ReceiverIsOrdered}
use Rattle.oneshot_bridge.specs.CallsRun.{in_script, receiver_answered}
use Rattle.oneshot_bridge.specs.Gives.{gave_message}
use Rattle.oneshot_bridge.specs.Walks.{Answered}
use Rattle.oneshot_bridge.proofs.CallsRun.{calls_run, one_call_gets}
use Rattle.oneshot_bridge.proofs.StatesRun.{states_run}
use Rattle.oneshot_ends.specs.Taken.{has_found, TookAsFound, is_message}
use Rattle.oneshot_ends.proofs.Taken.{found_both, found_in_call, stays_begins}
use Rattle.oneshot_values.specs.Values.{message_replies, one_if, ReceiverRuns, OnlyTheLastGot, ErrorRuns}

-- the messages of some calls and of one more
messages_more : (calls : List (ReceiverStart × Reply)) (call : ReceiverStart × Reply)
    → message_replies (calls ++ call ∷ []) ≡ message_replies calls + message_replies (call ∷ [])
messages_more calls call =
    ap (λ told. length (filter gave_message told)) (map-append in_script_with calls (call ∷ []))
    ∙ ap length (filter-append gave_message (receiver_answered calls) (receiver_answered (call ∷ [])))
    ∙ length-append (filter gave_message (receiver_answered calls))
    (filter gave_message (receiver_answered (call ∷ [])))
  where
    in_script_with : ReceiverStart × Reply → Answered
    in_script_with x = (in_script x.0, x.1)

same_message : (reply : Reply) → is_same_reply R.Message reply ≡ is_message reply
same_message R.Message = refl
same_message _ = refl

count_one : (b : Bool) (x : Answered) → gave_message x ≡ b → length (filter gave_message (x ∷ [])) ≡ one_if b
count_one true x e = rw e refl
count_one false x e = rw e refl

-- a call that leaves the receiver in place is a receive
is_receives : (form : Form) (call : ReceiverStart) → stays form call ≡ true → is_receive (in_script call) ≡ true
is_receives as_receiver RC.TryRecv e = refl
is_receives as_receiver RC.RecvRef e = refl
is_receives as_receiver RC.RecvDeadline e = refl
is_receives as_receiver (RC.RecvTimeout representable) e = refl
is_receives as_future RC.Poll e = refl
is_receives as_future RC.AsyncTryRecv e = refl
is_receives _ _ e = absurd (cc)

one_reply : (form : Form) (call : ReceiverStart) (reply : Reply) → stays form call ≡ true
    → message_replies ((call, reply) ∷ []) ≡ one_if (is_message reply)
one_reply form call reply its =
    count_one (is_message reply) (in_script call, reply)
    (ap (λ b. b && is_same_reply R.Message reply) (is_receives form call its) ∙ same_message reply)

-- one more reply
positive : ℕ → Bool
positive zero = false
positive (suc n) = true

more_is : (n m : ℕ) → suc n + m ≡ suc (n + m)
more_is n m = omega arith

counted : (n : ℕ) (b : Bool) → (positive n || b) ≡ positive (n + one_if b)
unfolding positive
counted zero true = refl
counted zero false = refl
counted (suc n) b = sym (ap positive (more_is n (one_if b)))

-- a log shows whether one of its calls returned the message
shows : {T : Type 0} {form : Form} {calls : List (ReceiverStart × Reply)} {log : List Noted}
    → ReceiverCalled T UnnamedWaker form calls log → has_found log ≡ positive (message_replies calls)
unfolding positive
shows not_called = refl
shows (called {form} {calls} {log} call reply run was its made) =
    found_both log (words run)
    ∙ ap (λ b. has_found log || b) (found_in_call call run reply (stays_begins form call its) made)
    ∙ ap (λ b. b || is_message reply) (shows was) ∙ counted (message_replies calls) (is_message reply)
    ∙ ap (λ n. positive (message_replies calls + n)) (sym (one_reply form call reply its))
    ∙ ap positive (sym (messages_more calls (call, reply)))
shows (became_future {calls} was) =
    shows was ∙ ap positive (sym (messages_more calls (RC.IntoFuture, R.Future) ∙ omega arith))

pub shows_none : {T : Type 0} {form : Form} {calls : List (ReceiverStart × Reply)} {log : List Noted}
    → ReceiverCalled T UnnamedWaker form calls log → message_replies calls ≡ 0 → has_found log ≡ false
unfolding positive
shows_none was none = shows was ∙ ap positive none

none_of : (count : ℕ) → positive count ≡ false → count ≡ 0
unfolding positive
none_of zero e = refl
none_of (suc count) e = absurd (cc)

one_of : (count : ℕ) → positive count ≡ true → count ≤ 1 → count ≡ 1
unfolding positive
one_of zero e few = absurd (cc)
one_of (suc count) e few = omega (arith, few)

gets_so : {T : Type 0} (took : Option T) (n : ℕ) → (T → n ≤ 1) → is_some took ≡ positive n → n ≡ one_if (is_some took)
gets_so None n few e = none_of n (sym e)
gets_so (Some m) n few e = one_of n (sym e) (few m)

pub receiver_runs : (T : Type 0) (form : Form) (took : Option T) (ys : List Noted) → HasCalls T form ys
    → ReceiverIsOrdered ys → TookAsFound took ys → ReceiverRuns T form took ys
receiver_runs T form took ys calls (xs, word, order) so =
    record {
      xs = xs;
      word = word;
      order = order;
      calls = calls;
      runs = λ message calls was. calls_run T UnnamedWaker message form calls xs ys word order was;
      gets = λ calls was.
          gets_so took (message_replies calls) (λ m. one_call_gets T UnnamedWaker m form calls xs ys word order was)
          (so ∙ shows was);
    }

pub error_runs : {T : Type 0} (message : T) (xs : List Noted) → SenderIsOrdered xs → ErrorRuns message xs
error_runs {T} message xs (ys, word, order) =
    record { ys = ys; word = word; order = order; run = states_run T message xs ys word order }

few : (b : Bool) → one_if b ≤ 1
few true = omega arith
few false = omega arith

-- a `try_recv` that returned the message was the only call that did
pub only_the_last_got : {T : Type 0} (result : Result T TryRecvError) {before after : List Noted} {took : Option T} →
    CallsAddUp T
    → HasCalls T as_receiver before → ReceiverGrew T TryRecv before after (try_recv_reply result)
    → ReceiverRuns T as_receiver took after → IfOk result (λ message. OnlyTheLastGot T after)
only_the_last_got (Err error) add calls grew runs = tt
only_the_last_got (Ok message) {before} {after} {took} add (calls, was) grew runs =
    let last : ReceiverStart × Reply = (TryRecv, R.Message) in
    let more = add as_receiver calls before after R.Message TryRecv refl was grew in
    let one : message_replies (calls ++ last ∷ []) ≤ 1 =
    subst (λ n. n ≤ 1) (sym (runs.gets (calls ++ last ∷ []) more)) (few (is_some took)) in
    let sum : message_replies (calls ++ last ∷ []) ≡ message_replies calls + 1 = messages_more calls last in
    (calls, more, omega (arith, one, sum))
