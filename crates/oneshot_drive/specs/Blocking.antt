-- How each receive that blocks goes through its positions, and how it ends.
use Rattle.std.specs.Prelude.{◌≡◌, Bool, true, false, List, [], ◌∷◌, Some}
use Rattle.oneshot_drive.specs.declared.found.Found.{Found}
use Rattle.oneshot_drive.specs.declared.found.Found.TheVariants as F
use Rattle.oneshot_machine.specs.declared.machine.Reply.{Reply}
use Rattle.oneshot_machine.specs.declared.machine.Reply.TheVariants as R
use Rattle.oneshot_machine.specs.declared.machine.receiver.ReceiverPos.{ReceiverPos}
use Rattle.oneshot_machine.specs.declared.machine.receiver.ReceiverPos.TheVariants.{Try, Ref, Timed, Value}
use Rattle.oneshot_machine.specs.declared.machine.try_recv.TryPos.TheVariants.{Close, CloseOnly}
use Rattle.oneshot_machine.specs.declared.machine.by_ref.RefPos.TheVariants.{StartLoad, StartWrite, Park}
use Rattle.oneshot_machine.specs.declared.machine.timed.TimedPos.TheVariants.{Clock, TimedPark, EndSwap}
use Rattle.oneshot_machine.specs.declared.machine.value.ValuePos.TheVariants.{RecvLoad, RecvWrite, RecvPark, RecvTake, RecvFreeGone}
use Rattle.oneshot_machine.specs.declared.machine.Seen.TheVariants.{Done}
use Rattle.oneshot_machine.specs.declared.states.Op.TheVariants.{Store}
use Rattle.oneshot_machine.specs.declared.states.TheConstants.{DISCONNECTED}
use Rattle.oneshot_machine.specs.Logs.{Event, Log, Grows, messages_given, messages_got}
use Rattle.oneshot_machine.specs.Phases.{Closing, closed_itself, Got, Swapping, Waiting, after_timeout, ReceiverAt, idle, waits, overdue, full, overwritten, disconnected, receiver_next}
use Rattle.oneshot_machine.specs.Receiver.{receiver_step, receiver_row}
use Rattle.oneshot_machine.specs.TableRows.{Outcome, Goes, Answers}
use Rattle.oneshot_drive.specs.Grounds.{GroundState, Stands}

-- From this position these steps lead to another position, or to a reply.
pub data Stretch {T W : Type 0} : ReceiverPos → List (Event T W) → Outcome ReceiverPos → Type 0 where
  nothing : {p : ReceiverPos} → Stretch p [] (Goes p)
  answers : {p : ReceiverPos} (r : Reply) (x : Event T W)
      → x.step ≡ receiver_step p → receiver_row p x.seen ≡ Some (Answers r) → Stretch p (x ∷ []) (Answers r)
  onward : {p : ReceiverPos} {o : Outcome ReceiverPos} (next : ReceiverPos) (x : Event T W) (xs : List (Event T W))
      → x.step ≡ receiver_step p → receiver_row p x.seen ≡ Some (Goes next) → Stretch next xs o → Stretch p (x ∷ xs) o

-- Between the two logs a ground made steps that lead from this position to this outcome. They hand no
-- message in or out.
pub record Path {T W : Type 0} (from : ReceiverPos) (to : Outcome ReceiverPos) (before after : Log T W) : Type 0 where
  pub steps : List (Event T W)
  pub grows : Grows before after steps
  pub gives : messages_given steps ≡ []
  pub gets : messages_got steps ≡ []
  pub leads : Stretch from steps to

-- the rows that a receive runs: those of the calls by reference, with a deadline or without, or those of
-- `recv`, which has no deadline
pub data ReceiveBy : Bool → Type 0 where
  by_ref : (timed : Bool) → ReceiveBy timed
  by_value : ReceiveBy false

-- the positions at which it loads, stores its waker, and begins to wait
abbrev pub load_of : {timed : Bool} → ReceiveBy timed → ReceiverPos
load_of (by_ref timed) = Ref (StartLoad timed)
load_of by_value = Value RecvLoad

abbrev pub write_of : {timed : Bool} → ReceiveBy timed → ReceiverPos
write_of (by_ref timed) = Ref (StartWrite timed)
write_of by_value = Value RecvWrite

abbrev pub wait_of : {timed : Bool} → ReceiveBy timed → ReceiverPos
wait_of (by_ref false) = Ref Park
wait_of (by_ref true) = Timed Clock
wait_of by_value = Value RecvPark

-- its position once it knows whether its deadline is over
abbrev pub asked_of : {timed : Bool} → ReceiveBy timed → Bool → ReceiverPos
asked_of (by_ref false) is_over = Ref Park
asked_of (by_ref true) false = Timed TimedPark
asked_of (by_ref true) true = Timed EndSwap
asked_of by_value is_over = Value RecvPark

-- where the word that decides it leads
abbrev pub ref_end : Found → Outcome ReceiverPos
ref_end F.Message = Goes (Try Close)
ref_end F.Closed = Answers R.Disconnected
ref_end F.Overwritten = Goes (Try CloseOnly)
ref_end F.Nothing = Answers R.Timeout

abbrev pub value_end : Found → Outcome ReceiverPos
value_end F.Message = Goes (Value RecvTake)
value_end _ = Goes (Value RecvFreeGone)

abbrev pub end_of : {timed : Bool} → ReceiveBy timed → Found → Outcome ReceiverPos
end_of (by_ref timed) = ref_end
end_of by_value = value_end

-- the receiver's state then: only a deadline ends a receive with nothing found
abbrev pub EndsAt : {T W : Type 0} → Bool → Found → GroundState T W → Type 0
EndsAt timed F.Message s =
    (g : Got) × (receiver_next (full g) (Store DISCONNECTED) Done ≡ disconnected closed_itself) × Stands (full g) s
EndsAt timed F.Closed s = (c : Closing) × Stands (disconnected c) s
EndsAt timed F.Overwritten s = (by : Swapping) × Stands (overwritten by) s
EndsAt timed F.Nothing s = (timed ≡ true) × Stands (idle after_timeout) s

-- How it may park: with a deadline or without while it waits, and without once its deadline is over.
pub data Parks : Bool → ReceiverAt → Type 0 where
  parks_waiting : (timed : Bool) (w : Waiting) → Parks timed (waits w)
  parks_overdue : Parks false overdue
