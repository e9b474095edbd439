-- A receiver in a call, under a script with any further calls: its walk after a step, a reply, or a next call.
use Rattle.oneshot_bridge.proofs.Names.{◌≡◌, true, List, [], ◌∷◌, ◌++◌, Some, refl, subst, Reply, Seen, ReceiverPos, Op, Noted, receiver_start, receiver_step, receiver_row, Outcome, Goes, Answers}
use Rattle.oneshot_bridge.proofs.Names.{Call, Of_receiver, as_receiver_call, receiver_goes, receiver_call, async_call, receiver_calls, async_calls, receiver_position, AsyncCall, AsyncLast}
use Rattle.oneshot_bridge.proofs.Names.{ReceiverCall, ReceiverLast, ReceiverScript, ReceiverState, Answered, may_see, quietly, by_one, quiet, operates, stands_after, the_receiver, ReceiverStand}
use Rattle.oneshot_bridge.proofs.Names.{ReceiverWalk, begins}
use Rattle.oneshot_machine.specs.declared.machine.Step.TheVariants.{Word}
use Rattle.oneshot_machine.specs.declared.machine.receiver.ReceiverStart.TheVariants as RC
use Rattle.oneshot_world.specs.declared.script.AsyncLast.TheVariants as AL
use Rattle.oneshot_world.specs.declared.script.ReceiverLast.TheVariants as RL
use Rattle.oneshot_world.specs.declared.state.ReceiverState.TheVariants as RS

-- which calls may follow the one under way: those of a receiver, those of a future, or none
pub data After : Type 0 where
  calls : After
  polling : After
  nothing : After

abbrev pub Rest : After → Type 0
Rest calls = List ReceiverCall × ReceiverLast
Rest polling = List AsyncCall × AsyncLast
Rest nothing = Unit {0}

abbrev pub calls_in : (after : After) → Rest after → List Call
calls_in calls rest = receiver_calls rest.0 rest.1
calls_in polling rest = async_calls rest.0 rest.1
calls_in nothing rest = []

-- a walk with this log is at this position, whichever calls follow
pub record Stands (ys : List Noted) (p : ReceiverPos) (after : After) : Type 0 where
  pub call : Call
  pub state : ReceiverState
  pub replies : List Answered
  pub position : receiver_position state (as_receiver_call call) ≡ Some p
  pub script : Rest after → ReceiverScript
  pub walk : (rest : Rest after)
      → ReceiverWalk (script rest) ys (state, record { calls = call ∷ calls_in after rest; error = [] }, replies)

-- its call has replied, and these may follow
pub record IsReady (ys : List Noted) (after : After) : Type 0 where
  pub replies : List Answered
  pub script : Rest after → ReceiverScript
  pub walk : (rest : Rest after)
      → ReceiverWalk (script rest) ys (RS.Ready, record { calls = calls_in after rest; error = [] }, replies)

-- a step at a position that sees this, and the log after it
pub data Steps (ys : List Noted) (p : ReceiverPos) (seen : Seen) : List Noted → Type 0 where
  rests : may_see (receiver_step p) seen ≡ true → Steps ys p seen ys
  makes : (op : Op) → receiver_step p ≡ Word op → Steps ys p seen (ys ++ (op, seen) ∷ [])

walks : (r : ReceiverScript) {ys zs : List Noted} {s : ReceiverStand} {p : ReceiverPos} {seen : Seen}
    (row : Outcome ReceiverPos) → Steps ys p seen zs → the_receiver.position s ≡ Some p
    → receiver_row p seen ≡ Some row → ReceiverWalk r ys s
    → ReceiverWalk r zs (stands_after the_receiver p row s.1 s.2)
walks r {p} {seen} row (rests may) at rows walk = quietly walk (quiet p seen row at may rows)
walks r {p} {seen} row (makes op step) at rows walk = by_one (op, seen) walk (operates p (op, seen) row at step rows)

module _ {ys zs : List Noted} {p : ReceiverPos} {seen : Seen} {after : After} where
  pub goes : (next : ReceiverPos) → Stands ys p after → Steps ys p seen zs → receiver_row p seen ≡ Some (Goes next)
      → Stands zs next after
  goes next stands steps rows =
      record {
        call = stands.call;
        state = RS.At next;
        replies = stands.replies ++ [];
        position = refl;
        script = stands.script;
        walk = λ rest. walks (stands.script rest) (Goes next) steps stands.position rows (stands.walk rest);
      }

  pub answers : (reply : Reply) → Stands ys p after → Steps ys p seen zs → receiver_row p seen ≡ Some (Answers reply)
      → receiver_goes (receiver_step p) (Answers reply) ≡ RS.Ready → IsReady zs after
  answers reply stands steps rows ready =
      record {
        replies = stands.replies ++ (stands.call, reply) ∷ [];
        script = stands.script;
        walk =
            λ rest. subst
            (λ (s : ReceiverState). ReceiverWalk (stands.script rest) zs
            (s, record { calls = calls_in after rest; error = [] }, stands.replies ++ (stands.call, reply) ∷ []))
            ready (walks (stands.script rest) (Answers reply) steps stands.position rows (stands.walk rest));
      }

abbrev pub some_rest : (after : After) → Rest after
some_rest calls = ([], RL.Stop)
some_rest polling = ([], AL.Stop)
some_rest nothing = tt

-- if no calls follow
pub some_walk : {ys zs : List Noted} {p : ReceiverPos} {seen : Seen} {after : After} (row : Outcome ReceiverPos)
    → Stands ys p after → Steps ys p seen zs → receiver_row p seen ≡ Some row
    → (r : ReceiverScript) × (at : ReceiverStand) × ReceiverWalk r zs at
some_walk {after} row stands steps rows = (
  stands.script (some_rest after),
  _,
  walks (stands.script (some_rest after)) row steps stands.position rows (stands.walk (some_rest after)),
)

pub opens : IsReady [] calls
opens = record { replies = []; script = λ rest. record { calls = rest.0; last = rest.1 }; walk = λ rest. begins }

-- the next call, if the rest of a script has one of the calls that may follow
call_begins : {ys : List Noted} {from to : After} → IsReady ys from → (call : Call) (p : ReceiverPos)
    → receiver_position RS.Ready (as_receiver_call call) ≡ Some p → (more : Rest to → Rest from)
    → ((rest : Rest to) → calls_in from (more rest) ≡ call ∷ calls_in to rest) → Stands ys p to
call_begins {ys} {from} {to} ready call p at more same =
    record {
      call = call;
      state = RS.Ready;
      replies = ready.replies;
      position = at;
      script = λ rest. ready.script (more rest);
      walk =
          λ rest. subst
          (λ calls. ReceiverWalk (ready.script (more rest)) ys
          (RS.Ready, record { calls = calls; error = [] }, ready.replies))
          (same rest) (ready.walk (more rest));
    }

-- of a receiver: a call that leaves it in place, its last, or the one that makes it a future
module _ {ys : List Noted} (ready : IsReady ys calls) where
  pub receive_begins : (call : ReceiverCall) (p : ReceiverPos)
      → receiver_position RS.Ready (as_receiver_call (receiver_call call)) ≡ Some p → Stands ys p calls
  receive_begins call p at =
      call_begins ready (receiver_call call) p at (λ rest. (call ∷ rest.0, rest.1)) (λ rest. refl)

  pub recv_begins : Stands ys (receiver_start RC.Recv) nothing
  recv_begins =
      call_begins ready (Of_receiver RC.Recv) (receiver_start RC.Recv) refl (λ rest. ([], RL.Recv)) (λ rest. refl)

  pub drop_begins : Stands ys (receiver_start RC.Drop) nothing
  drop_begins =
      call_begins ready (Of_receiver RC.Drop) (receiver_start RC.Drop) refl (λ rest. ([], RL.Drop)) (λ rest. refl)

  pub future_begins : Stands ys (receiver_start RC.IntoFuture) polling
  future_begins =
      call_begins ready (Of_receiver RC.IntoFuture) (receiver_start RC.IntoFuture) refl
      (λ rest. ([], RL.IntoFuture (record { calls = rest.0; last = rest.1 }))) (λ rest. refl)

-- the same for a future
module _ {ys : List Noted} (ready : IsReady ys polling) where
  pub poll_begins : (call : AsyncCall) (p : ReceiverPos)
      → receiver_position RS.Ready (as_receiver_call (async_call call)) ≡ Some p → Stands ys p polling
  poll_begins call p at =
      call_begins ready (async_call call) p at (λ rest. (call ∷ rest.0, rest.1)) (λ rest. refl)

  pub async_drop_begins : Stands ys (receiver_start RC.DropAsync) nothing
  async_drop_begins =
      call_begins ready (Of_receiver RC.DropAsync) (receiver_start RC.DropAsync) refl (λ rest. ([], AL.Drop))
      (λ rest. refl)
