-- The standpoints of a receiver that its walks meet: which calls may follow at each, and that its number is its own.
-- A standpoint is a position of the receiver's table, with whether the receiver has become a future: in the field's
-- terms, a control state. It is defined in oneshot_machine/specs/Standing.antt.
use Rattle.oneshot_bridge.proofs.Names.{◌≡◌, ◌==◌, Bool, true, false, List, refl, get_or, map, Reply, AsyncLoad, StartLoad, StartWrite, StartSwap, ParkLoad, DropSwap, LookFull, TryLoad, Take}
use Rattle.oneshot_bridge.proofs.Names.{CloseOnly, ReceiverPos, Look, Try, Ref, Timed, Value, Future, AsyncDrop, SumClock, TimedLoad, EndBack, LateLoad, RecvLoad, Noted, receiver_opens, future_opens}
use Rattle.oneshot_bridge.proofs.Names.{receiver_step, In, head, tail, Standpoint, plainly, receiver_table, standpoint_number, standpoint_follows, Answers, receiver_goes, ReceiverState, same_by}
use Rattle.oneshot_machine.specs.declared.machine.Reply.TheVariants as R
use Rattle.oneshot_machine.specs.declared.machine.future.FuturePos.TheVariants.{IntoFuture}
use Rattle.oneshot_machine.specs.declared.machine.receiver.ReceiverPos.TheVariants.{Drop}
use Rattle.oneshot_machine.specs.Standing.{future_at}
use Rattle.oneshot_world.specs.declared.script.AsyncCall.TheVariants as AC
use Rattle.oneshot_world.specs.declared.script.ReceiverCall.TheVariants as Script
use Rattle.oneshot_world.specs.declared.state.ReceiverState.TheVariants as RS
use Rattle.oneshot_bridge.proofs.ReceiverStands.{After, calls, polling, nothing, Stands, IsReady, receive_begins, recv_begins, drop_begins, future_begins, poll_begins, async_drop_begins}

abbrev pub pos_of : Standpoint → ReceiverPos
pos_of (plainly p) = p
pos_of (future_at p) = p

-- the calls that may follow at a standpoint, and the standpoints that walks meet
abbrev pub after_of : Standpoint → After
after_of (plainly (Look at)) = calls
after_of (plainly (Try at)) = calls
after_of (plainly (Ref at)) = calls
after_of (plainly (Timed at)) = calls
after_of (plainly (Future at)) = polling
after_of (future_at (Look at)) = polling
after_of (future_at (Try at)) = polling
after_of (future_at (Future at)) = polling
after_of _ = nothing

abbrev pub is_met : Standpoint → Bool
is_met (plainly (Future IntoFuture)) = true
is_met (plainly (Future at)) = false
is_met (plainly (AsyncDrop at)) = false
is_met (future_at (Ref at)) = false
is_met (future_at (Timed at)) = false
is_met (future_at (Value at)) = false
is_met _ = true

-- a walk with this log is at this standpoint
pub record Comes (ys : List Noted) (s : Standpoint) : Type 0 where
  pub met : is_met s ≡ true
  pub stands : Stands ys (pos_of s) (after_of s)

-- a call begins, of a receiver and of a future
module _ {ys : List Noted} where
  pub receiver_begins : {s : Standpoint} → IsReady ys calls → In s (map plainly receiver_opens) → Comes ys s
  receiver_begins ready head = record { met = refl; stands = receive_begins ready Script.TryRecv _ refl }
  receiver_begins ready (tail head) = record { met = refl; stands = receive_begins ready Script.RecvRef _ refl }
  receiver_begins ready (tail (tail head)) =
      record { met = refl; stands = receive_begins ready Script.RecvDeadline _ refl }
  receiver_begins ready (tail (tail (tail head))) =
      record { met = refl; stands = receive_begins ready (Script.RecvTimeout true) _ refl }
  receiver_begins ready (tail (tail (tail (tail head)))) =
      record { met = refl; stands = receive_begins ready (Script.RecvTimeout false) _ refl }
  receiver_begins ready (tail (tail (tail (tail (tail head))))) = record { met = refl; stands = recv_begins ready }
  receiver_begins ready (tail (tail (tail (tail (tail (tail head)))))) =
      record { met = refl; stands = future_begins ready }
  receiver_begins ready (tail (tail (tail (tail (tail (tail (tail head))))))) =
      record { met = refl; stands = drop_begins ready }
  receiver_begins ready (tail (tail (tail (tail (tail (tail (tail (tail there)))))))) = elim there [ ]

  pub polls_begin : {s : Standpoint} → IsReady ys polling → In s (map future_at future_opens) → Comes ys s
  polls_begin ready head = record { met = refl; stands = poll_begins ready (AC.Poll 0) _ refl }
  polls_begin ready (tail head) = record { met = refl; stands = poll_begins ready AC.TryRecv _ refl }
  polls_begin ready (tail (tail head)) = record { met = refl; stands = async_drop_begins ready }
  polls_begin ready (tail (tail (tail there))) = elim there [ ]

-- a reply after which calls may follow leaves the receiver ready
abbrev is_ready : ReceiverState → Bool
is_ready RS.Ready = true
is_ready _ = false

abbrev pub stays_on : Standpoint → Reply → Bool
stays_on (future_at (AsyncDrop at)) reply = false
stays_on (future_at (Drop at)) reply = false
stays_on s reply = is_ready (receiver_goes (receiver_step (pos_of s)) (Answers reply))

is_ready_so : (s : ReceiverState) → is_ready s ≡ true → s ≡ RS.Ready
is_ready_so RS.Ready e = refl
is_ready_so _ e = absurd (cc e)

pub stays_ready : (s : Standpoint) (reply : Reply) → stays_on s reply ≡ true
    → receiver_goes (receiver_step (pos_of s)) (Answers reply) ≡ RS.Ready
stays_ready (future_at (AsyncDrop at)) reply e = absurd (cc e)
stays_ready (future_at (Drop at)) reply e = absurd (cc e)
stays_ready (future_at (Look at)) reply e = is_ready_so _ e
stays_ready (future_at (Try at)) reply e = is_ready_so _ e
stays_ready (future_at _) reply e = is_ready_so _ e
stays_ready (plainly p) reply e = is_ready_so _ e

-- the next call after a reply
module _ {ys : List Noted} where
  pub follows : {q : Standpoint} (s : Standpoint) (reply : Reply) → is_met s ≡ true → stays_on s reply ≡ true
      → IsReady ys (after_of s) → In q (standpoint_follows s reply) → Comes ys q
  follows (plainly (Try TryLoad)) reply met stays ready there = receiver_begins ready there
  follows (plainly (Try Take)) reply met stays ready there = receiver_begins ready there
  follows (plainly (Try CloseOnly)) reply met stays ready there = receiver_begins ready there
  follows (plainly (Ref (StartLoad timed))) reply met stays ready there = receiver_begins ready there
  follows (plainly (Ref ParkLoad)) reply met stays ready there = receiver_begins ready there
  follows (plainly (Timed TimedLoad)) reply met stays ready there = receiver_begins ready there
  follows (plainly (Timed EndBack)) reply met stays ready there = receiver_begins ready there
  follows (plainly (Timed LateLoad)) reply met stays ready there = receiver_begins ready there
  follows (plainly (Future IntoFuture)) reply met stays ready there = polls_begin ready there
  follows (plainly (Look _)) reply met stays ready there = elim there [ ]
  follows (plainly (Try _)) reply met stays ready there = elim there [ ]
  follows (plainly (Ref _)) reply met stays ready there = elim there [ ]
  follows (plainly (Timed _)) reply met stays ready there = elim there [ ]
  follows (plainly (Future _)) reply met stays ready there = elim there [ ]
  follows (plainly (Value at)) reply met stays ready there = elim there [ ]
  follows (plainly (AsyncDrop at)) reply met stays ready there = elim there [ ]
  follows (plainly (Drop at)) reply met stays ready there = elim there [ ]
  follows (future_at (Look at)) R.Done met stays ready there = elim there [ ]
  follows (future_at (Look at)) _ met stays ready there = polls_begin ready there
  follows (future_at (Try at)) R.Done met stays ready there = elim there [ ]
  follows (future_at (Try at)) _ met stays ready there = polls_begin ready there
  follows (future_at (Future at)) R.Done met stays ready there = elim there [ ]
  follows (future_at (Future at)) _ met stays ready there = polls_begin ready there
  follows (future_at (AsyncDrop at)) reply met stays ready there = absurd (cc stays)
  follows (future_at (Drop at)) reply met stays ready there = absurd (cc stays)
  follows (future_at (Ref at)) reply met stays ready there = absurd (cc met)
  follows (future_at (Timed at)) reply met stays ready there = absurd (cc met)
  follows (future_at (Value at)) reply met stays ready there = absurd (cc met)

-- each standpoint is in the table's list under its number
abbrev nowhere : Standpoint
nowhere = plainly (Look LookFull)

back : (s : Standpoint) → get_or receiver_table.positions (standpoint_number s) nowhere ≡ s
back (plainly (Look LookFull)) = refl
back (plainly (Look _)) = refl
back (plainly (Try TryLoad)) = refl
back (plainly (Try _)) = refl
back (plainly (Ref (StartLoad false))) = refl
back (plainly (Ref (StartLoad true))) = refl
back (plainly (Ref (StartWrite false))) = refl
back (plainly (Ref (StartWrite true))) = refl
back (plainly (Ref (StartSwap false))) = refl
back (plainly (Ref (StartSwap true))) = refl
back (plainly (Ref _)) = refl
back (plainly (Timed (SumClock false))) = refl
back (plainly (Timed (SumClock true))) = refl
back (plainly (Timed _)) = refl
back (plainly (Value RecvLoad)) = refl
back (plainly (Value _)) = refl
back (plainly (Future IntoFuture)) = refl
back (plainly (Future _)) = refl
back (plainly (AsyncDrop AsyncLoad)) = refl
back (plainly (AsyncDrop _)) = refl
back (plainly (Drop DropSwap)) = refl
back (plainly (Drop _)) = refl
back (future_at (Look LookFull)) = refl
back (future_at (Look _)) = refl
back (future_at (Try TryLoad)) = refl
back (future_at (Try _)) = refl
back (future_at (Ref (StartLoad false))) = refl
back (future_at (Ref (StartLoad true))) = refl
back (future_at (Ref (StartWrite false))) = refl
back (future_at (Ref (StartWrite true))) = refl
back (future_at (Ref (StartSwap false))) = refl
back (future_at (Ref (StartSwap true))) = refl
back (future_at (Ref _)) = refl
back (future_at (Timed (SumClock false))) = refl
back (future_at (Timed (SumClock true))) = refl
back (future_at (Timed _)) = refl
back (future_at (Value RecvLoad)) = refl
back (future_at (Value _)) = refl
back (future_at (Future IntoFuture)) = refl
back (future_at (Future _)) = refl
back (future_at (AsyncDrop AsyncLoad)) = refl
back (future_at (AsyncDrop _)) = refl
back (future_at (Drop DropSwap)) = refl
back (future_at (Drop _)) = refl

pub standpoint_is : (r s : Standpoint) → (standpoint_number r == standpoint_number s) ≡ true → r ≡ s
standpoint_is = same_by standpoint_number receiver_table.positions nowhere back
