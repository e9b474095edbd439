-- The examples of calls: each log call by call, and why the counterexamples are no calls.
use Rattle.oneshot_bridge.proofs.Names.{◌≡◌, true, false, List, [], ◌∷◌, ◌++◌, None, refl, ap, subst, Reply, Seen, Refused, Step, Try, Future, ReceiverStart, TryRecv, Recv, Poll, SenderCall, Send}
use Rattle.oneshot_bridge.proofs.Names.{SendAdd, Close, Take, Load, Store, Exchange, Add, Form, as_receiver, stays, ReceiverCalled, not_called, called, became_future, SenderCalled, not_called_yet}
use Rattle.oneshot_bridge.proofs.Names.{called_once, Event, did, worded, words, Noted, receiver_start, receiver_step, receiver_row, Run, last, more, not_empty, same_start, same_last, tried_twice}
use Rattle.oneshot_bridge.proofs.Names.{WorkedCalls, WrongCalls}
use Rattle.oneshot_machine.proofs.FirstSteps.{tries_in_vain}
use Rattle.oneshot_machine.specs.declared.machine.Reply.TheVariants as R
use Rattle.oneshot_machine.specs.declared.machine.Seen.TheVariants.{Word}
use Rattle.oneshot_machine.specs.declared.machine.Step.TheVariants as Steps
use Rattle.oneshot_machine.specs.declared.machine.future.FuturePos.TheVariants as F
use Rattle.oneshot_machine.specs.declared.machine.receiver.ReceiverStart.TheVariants.{IntoFuture}
use Rattle.oneshot_machine.specs.declared.machine.sender.SenderCall.TheVariants.{Drop}
use Rattle.oneshot_machine.specs.declared.states.TheConstants.{RECEIVING, DISCONNECTED, EMPTY, MESSAGE}

-- the first call of a receiver
record IsFirst (T W : Type 0) (x : ReceiverStart × Reply) (log : List Noted) : Type 0 where
  run : List (Event T W)
  its : stays as_receiver x.0 ≡ true
  made : Run receiver_step receiver_row (receiver_start x.0) run x.1
  leaves : log ≡ words run

module _ {T W : Type 0} where
  abbrev saw : Step → Seen → Event T W
  saw step seen = record { step = step; seen = seen; message = None; waker = None }

  tries_once : ReceiverCalled T W as_receiver ((TryRecv, R.Empty) ∷ []) ((Load, Word EMPTY) ∷ [])
  tries_once = called TryRecv R.Empty (worded Load EMPTY ∷ []) not_called refl (last (worded Load EMPTY) refl refl)

  pub worked_calls : WorkedCalls T W
  worked_calls =
      record {
        tries =
            called TryRecv R.Message
            (worded Load MESSAGE ∷ worded (Store DISCONNECTED) MESSAGE ∷ did Steps.TakeMessage ∷ []) tries_once refl
            (more (Try Close) (worded Load MESSAGE) _ refl refl
            (more (Try Take) (worded (Store DISCONNECTED) MESSAGE) _ refl refl
            (last (did Steps.TakeMessage) refl refl)));
        polls =
            called Poll R.Pending
            (worded Load EMPTY ∷ saw Steps.Copy (Refused false) ∷ did Steps.WriteWaker
            ∷ worded (Exchange EMPTY RECEIVING) EMPTY ∷ [])
            (became_future tries_once) refl
            (more (Future F.PollCopy) (worded Load EMPTY) _ refl refl
            (more (Future F.PollWrite) (saw Steps.Copy (Refused false)) _ refl refl
            (more (Future F.PollExchange) (did Steps.WriteWaker) _ refl refl
            (last (worded (Exchange EMPTY RECEIVING) EMPTY) refl refl))));
        sends =
            called_once Send R.Sent (did Steps.WriteMessage ∷ worded Add EMPTY ∷ []) refl
            (more SendAdd (did Steps.WriteMessage) _ refl refl (last (worded Add EMPTY) refl refl));
      }

  -- without a call there is no operation
  made_none : {form : Form} {calls : List (ReceiverStart × Reply)} {log : List Noted}
      → ReceiverCalled T W form calls log → calls ≡ [] → log ≡ []
  made_none not_called none = refl
  made_none (called {calls = calls} call reply run was its made) none = absurd (not_empty calls (call, reply) none)
  made_none (became_future {calls = calls} was) none = absurd (not_empty calls (IntoFuture, R.Future) none)

  first_call : (x : ReceiverStart × Reply) {calls : List (ReceiverStart × Reply)} {log : List Noted}
      → ReceiverCalled T W as_receiver calls log → calls ≡ x ∷ [] → IsFirst T W x log
  first_call x not_called is = absurd (cc is)
  first_call x (called {calls = calls} {log = log} call reply run was its made) is =
      subst (λ x. IsFirst T W x (log ++ words run)) (same_last calls [] (call, reply) x is)
      (record {
        run = run;
        its = its;
        made = made;
        leaves = ap (λ ns. ns ++ words run) (made_none was (same_start calls [] (call, reply) x is));
      })

  sends_once : {calls : List (SenderCall × Reply)} {log : List Noted} → SenderCalled T W calls log
      → calls ≡ (Send, R.Sent) ∷ (Drop, R.Done) ∷ [] → ⊥
  sends_once not_called_yet is = cc is
  sends_once (called_once call reply run its made) is = cc is

  pub wrong_calls : WrongCalls T W
  wrong_calls =
      record {
        leaves_none = λ was. let none : tried_twice ≡ [] = made_none was refl in cc none;
        has_ended =
            λ log was. let first : IsFirst T W (Recv, R.Message) log = first_call (Recv, R.Message) was refl in
            let stays_not : false ≡ true = first.its in cc stays_not;
        polls_not =
            λ log was. let first : IsFirst T W (Poll, R.Pending) log = first_call (Poll, R.Pending) was refl in
            let stays_not : false ≡ true = first.its in cc stays_not;
        takes_nothing =
            λ was. let first : IsFirst T W (TryRecv, R.Message) ((Load, Word EMPTY) ∷ []) =
            first_call (TryRecv, R.Message) was refl in tries_in_vain first.made first.leaves;
        sends_once = λ log was. sends_once was refl;
      }
