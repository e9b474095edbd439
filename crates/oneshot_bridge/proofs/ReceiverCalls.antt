-- The calls that a receiver has made are those of a walk whose script has just these calls.
use Rattle.oneshot_bridge.proofs.Names.{◌≡◌, Bool, true, false, List, [], ◌∷◌, ◌++◌, Some, refl, sym, subst, append-nil, map-append, Reply, StartLoad, StartWrite, StartSwap, AsyncLoad, DropSwap}
use Rattle.oneshot_bridge.proofs.Names.{LookFull, ReceiverPos, Look, Try, Ref, Timed, Value, Future, AsyncDrop, ReceiverStart, SumClock, TryLoad, RecvLoad, Plain, Form, as_receiver, ReceiverCalled}
use Rattle.oneshot_bridge.proofs.Names.{not_called, called, became_future, Event, did, words, Noted, receiver_start, receiver_step, receiver_row, receiver_rows, Run, last, as_receiver_call}
use Rattle.oneshot_bridge.proofs.Names.{receiver_position, ReceiverScript, ReceiverState, in_script, receiver_answered, ReceiverStand, ReceiverWalk, the_receiver, opening_receiver, begins}
use Rattle.oneshot_machine.specs.declared.machine.Reply.TheVariants as R
use Rattle.oneshot_machine.specs.declared.machine.future.FuturePos.TheVariants as F
use Rattle.oneshot_machine.specs.declared.machine.receiver.ReceiverPos.TheVariants.{Drop}
use Rattle.oneshot_machine.specs.declared.machine.receiver.ReceiverStart.TheVariants as RC
use Rattle.oneshot_machine.specs.Called.{as_future}
use Rattle.oneshot_world.specs.declared.script.AsyncCall.TheVariants as AC
use Rattle.oneshot_world.specs.declared.script.ReceiverCall.TheVariants as Script
use Rattle.oneshot_world.specs.declared.script.ReceiverLast.TheVariants as RL
use Rattle.oneshot_world.specs.declared.state.ReceiverState.TheVariants as RS
use Rattle.oneshot_bridge.proofs.CallsWalk.{Walks, RowsFit, fit_walks, HasAnswered, call_walks}
use Rattle.oneshot_bridge.proofs.ReceiverStands.{After, calls, polling, Rest, calls_in, some_rest}

-- WHAT IS COMPUTED: the rows of the positions of calls that leave the receiver in place
abbrev in_place : ReceiverPos → Bool
in_place (Try at) = true
in_place (Ref at) = true
in_place (Timed at) = true
in_place (Future at) = true
in_place _ = false

abbrev is_ready : ReceiverState → Bool
is_ready RS.Ready = true
is_ready _ = false

receiver_fits : RowsFit the_receiver in_place is_ready receiver_rows
receiver_fits (Try TryLoad) its = refl
receiver_fits (Try _) its = refl
receiver_fits (Ref (StartLoad false)) its = refl
receiver_fits (Ref (StartLoad true)) its = refl
receiver_fits (Ref (StartWrite false)) its = refl
receiver_fits (Ref (StartWrite true)) its = refl
receiver_fits (Ref (StartSwap false)) its = refl
receiver_fits (Ref (StartSwap true)) its = refl
receiver_fits (Ref _) its = refl
receiver_fits (Timed (SumClock false)) its = refl
receiver_fits (Timed (SumClock true)) its = refl
receiver_fits (Timed _) its = refl
receiver_fits (Future F.IntoFuture) its = refl
receiver_fits (Future _) its = refl
receiver_fits (Look LookFull) its = absurd (cc its)
receiver_fits (Look _) its = absurd (cc its)
receiver_fits (Value RecvLoad) its = absurd (cc its)
receiver_fits (Value _) its = absurd (cc its)
receiver_fits (AsyncDrop AsyncLoad) its = absurd (cc its)
receiver_fits (AsyncDrop _) its = absurd (cc its)
receiver_fits (Drop DropSwap) its = absurd (cc its)
receiver_fits (Drop _) its = absurd (cc its)

receiver_walks : Walks the_receiver in_place (λ s. is_ready s ≡ true)
receiver_walks =
    fit_walks the_receiver in_place is_ready receiver_rows (λ p seen. refl) receiver_fits (λ p next left replies. refl)

ready_is : (s : ReceiverState) → is_ready s ≡ true → s ≡ RS.Ready
ready_is RS.Ready e = refl
ready_is _ e = absurd (cc e)

-- the calls that may follow
abbrev after_form : Form → After
after_form as_receiver = calls
after_form as_future = polling

-- The receiver has made these calls by a walk, whichever calls follow.
record Walked (after : After) (received : List (ReceiverStart × Reply)) (ys : List Noted) : Type 0 where
  script : Rest after → ReceiverScript
  walk : (rest : Rest after)
      → ReceiverWalk (script rest) ys
      (RS.Ready, record { calls = calls_in after rest; error = [] }, receiver_answered received)

module _ {T W : Type 0} where
  -- one more call
  walked : {from to : After} {received : List (ReceiverStart × Reply)} {ys : List Noted} {reply : Reply}
      {run : List (Event T W)} (call : ReceiverStart) (more : Rest to → Rest from)
      → ((rest : Rest to) → calls_in from (more rest) ≡ in_script call ∷ calls_in to rest)
      → receiver_position RS.Ready (as_receiver_call (in_script call)) ≡ Some (receiver_start call)
      → in_place (receiver_start call) ≡ true → Run receiver_step receiver_row (receiver_start call) run reply
      → Walked from received ys → Walked to (received ++ (call, reply) ∷ []) (ys ++ words run)
  walked {from} {to} {received} {ys} {reply} {run} call more same at its made before =
      record {
        script = λ rest. before.script (more rest);
        walk =
            λ rest. let stood =
            subst
            (λ cs. ReceiverWalk (before.script (more rest)) ys
            (RS.Ready, record { calls = cs; error = [] }, receiver_answered received))
            (same rest) (before.walk (more rest)) in
            let done : HasAnswered the_receiver receiver_walks (opening_receiver (before.script (more rest)))
            (ys ++ words run) reply (record { calls = in_script call ∷ calls_in to rest; error = [] })
            (receiver_answered received) =
            call_walks the_receiver receiver_walks (opening_receiver (before.script (more rest))) made its ys RS.Ready
            (record { calls = in_script call ∷ calls_in to rest; error = [] }) (receiver_answered received) stood at in
            subst
            (λ (s : ReceiverStand). ReceiverWalk (before.script (more rest)) (ys ++ words run) s)
            (λ i. (
              ready_is done.state done.so i,
              record { calls = calls_in to rest; error = [] },
              sym (map-append (λ (x : ReceiverStart × Reply). (in_script x.0, x.1)) received ((call, reply) ∷ [])) i,
            ))
            done.walk;
      }

  walks_of : {form : Form} {received : List (ReceiverStart × Reply)} {ys : List Noted}
      → ReceiverCalled T W form received ys → Walked (after_form form) received ys
  walks_of not_called = record { script = λ rest. record { calls = rest.0; last = rest.1 }; walk = λ rest. begins }
  walks_of (called {form = as_receiver} RC.TryRecv reply run before its made) =
      walked RC.TryRecv (λ rest. (Script.TryRecv ∷ rest.0, rest.1)) (λ rest. refl) refl refl made (walks_of before)
  walks_of (called {form = as_receiver} RC.RecvRef reply run before its made) =
      walked RC.RecvRef (λ rest. (Script.RecvRef ∷ rest.0, rest.1)) (λ rest. refl) refl refl made (walks_of before)
  walks_of (called {form = as_receiver} RC.RecvDeadline reply run before its made) =
      walked RC.RecvDeadline (λ rest. (Script.RecvDeadline ∷ rest.0, rest.1)) (λ rest. refl) refl refl made
      (walks_of before)
  walks_of (called {form = as_receiver} (RC.RecvTimeout held) reply run before its made) =
      walked (RC.RecvTimeout held) (λ rest. (Script.RecvTimeout held ∷ rest.0, rest.1)) (λ rest. refl) refl refl made
      (walks_of before)
  walks_of (called {form = as_receiver} _ reply run before its made) = absurd (cc its)
  walks_of (called {form = as_future} RC.Poll reply run before its made) =
      walked RC.Poll (λ rest. (AC.Poll 0 ∷ rest.0, rest.1)) (λ rest. refl) refl refl made (walks_of before)
  walks_of (called {form = as_future} RC.AsyncTryRecv reply run before its made) =
      walked RC.AsyncTryRecv (λ rest. (AC.TryRecv ∷ rest.0, rest.1)) (λ rest. refl) refl refl made (walks_of before)
  walks_of (called {form = as_future} _ reply run before its made) = absurd (cc its)
  walks_of (became_future {calls = received} {log = ys} before) =
      subst (Walked polling (received ++ (RC.IntoFuture, R.Future) ∷ [])) (append-nil ys)
      (walked RC.IntoFuture (λ rest. ([], RL.IntoFuture (record { calls = rest.0; last = rest.1 }))) (λ rest. refl) refl
      refl (last (did {T = T} {W = W} Plain) refl refl) (walks_of before))

-- A receiver that is between two calls, and has made these, which are all of its script.
pub record ReceiverDone (received : List (ReceiverStart × Reply)) (ys : List Noted) : Type 0 where
  pub script : ReceiverScript
  pub stand : ReceiverStand
  pub rests : stand.0 ≡ RS.Ready
  pub none_left : stand.1.calls ≡ []
  pub answered : stand.2 ≡ receiver_answered received
  pub walk : ReceiverWalk script ys stand

no_more : (form : Form) → calls_in (after_form form) (some_rest (after_form form)) ≡ []
no_more as_receiver = refl
no_more as_future = refl

pub receiver_done : {T W : Type 0} (form : Form) {received : List (ReceiverStart × Reply)} {ys : List Noted}
    → ReceiverCalled T W form received ys → ReceiverDone received ys
receiver_done form was =
    let walks : Walked (after_form form) _ _ = walks_of was in
    let rest = some_rest (after_form form) in
    record {
      script = walks.script rest;
      stand = _;
      rests = refl;
      none_left = no_more form;
      answered = refl;
      walk = walks.walk rest;
    }
