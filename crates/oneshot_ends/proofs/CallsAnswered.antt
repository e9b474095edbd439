-- The calls that an end has replied to, one more after each call.
use Rattle.std.proofs.Common.{◌≡◌, true, List, [], ◌∷◌, ◌++◌, refl, sym, ap, ◌∙◌, subst}
use Rattle.oneshot_machine.specs.declared.machine.Reply.{Reply}
use Rattle.oneshot_machine.specs.declared.machine.Reply.TheVariants as R
use Rattle.oneshot_machine.specs.declared.machine.receiver.ReceiverStart.{ReceiverStart}
use Rattle.oneshot_machine.specs.declared.machine.receiver.ReceiverStart.TheVariants as RC
use Rattle.oneshot_machine.specs.declared.machine.sender.SenderCall.TheVariants.{Send}
use Rattle.oneshot_machine.specs.Called.{Form, as_receiver, as_future, stays, ReceiverCalled, not_called, called, became_future, called_once}
use Rattle.oneshot_machine.specs.Noted.{Noted}
use Rattle.oneshot_word.specs.Side.{Side}
use Rattle.oneshot_ends.specs.Ends.{UnnamedWaker, SenderGrew, ReceiverGrew, HasCalls, WasRefused}
use Rattle.oneshot_ends.specs.Grounds.{IsNewReceiver}

module _ {T : Type 0} where
  -- a new receiver has replied to none
  pub none_answered : {W P : Type 0} (s now : Side T W P) → now ≡ s → IsNewReceiver s → HasCalls T as_receiver now.log
  none_answered s now is new = (
    [],
    subst (ReceiverCalled T UnnamedWaker as_receiver []) (sym (ap (λ (s : Side _ _ _). s.log) is ∙ new.log)) not_called,
  )

  -- Adds one more call, which leaves the receiver in place.
  pub one_more : {form : Form} {calls : List (ReceiverStart × Reply)} {before after : List Noted} {reply : Reply}
      (call : ReceiverStart) → stays form call ≡ true → ReceiverCalled T UnnamedWaker form calls before
      → ReceiverGrew T call before after reply → ReceiverCalled T UnnamedWaker form (calls ++ (call, reply) ∷ []) after
  one_more {form} {calls} {reply = reply} call its was grew =
      subst (ReceiverCalled T UnnamedWaker form (calls ++ (call, reply) ∷ [])) (sym grew.list)
      (called call reply grew.run was its grew.is_run)

  pub one_answered : {form : Form} {before after : List Noted} {reply : Reply} (call : ReceiverStart)
      → stays form call ≡ true → HasCalls T form before → ReceiverGrew T call before after reply
      → HasCalls T form after
  one_answered {reply = reply} call its (calls, was) grew = (calls ++ (call, reply) ∷ [], one_more call its was grew)

  -- a receiver that became a future
  pub then_future : {log : List Noted} → HasCalls T as_receiver log → HasCalls T as_future log
  then_future (calls, was) = (calls ++ (RC.IntoFuture, R.Future) ∷ [], became_future was)

  -- a `send` that was refused
  pub was_refused : {log : List Noted} → SenderGrew T Send [] log R.Refused → WasRefused T log
  was_refused grew =
      subst (λ ns. WasRefused T ns) (sym grew.list) (called_once Send R.Refused grew.run refl grew.is_run)
