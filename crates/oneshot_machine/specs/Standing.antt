-- The positions at which an end may be after a log, computed from its table.
-- In the field's terms: the table is a nondeterministic automaton, whose labels are the operations and whose other
-- steps are silent. `standing` is its subset construction.
use Rattle.std.specs.Option.{option_map}
use Rattle.std.specs.Prelude.{ℕ, ◌+◌, ◌++◌, Bool, true, false, ◌==◌, if◌then◌else◌, List, [], ◌∷◌, filter, map, Option, Some, None, is_some}
use Rattle.std.specs.List.{list_any, filter_map, flat_map}
use Rattle.std.proofs.Common.{zero, suc}
use Rattle.oneshot_machine.specs.declared.machine.Reply.{Reply}
use Rattle.oneshot_machine.specs.declared.machine.Reply.TheVariants as R
use Rattle.oneshot_machine.specs.declared.machine.Seen.{Seen}
use Rattle.oneshot_machine.specs.declared.machine.Seen.TheVariants.{Done, Over, Refused, Token}
use Rattle.oneshot_machine.specs.declared.machine.Step.{Step}
use Rattle.oneshot_machine.specs.declared.machine.receiver.ReceiverPos.{ReceiverPos}
use Rattle.oneshot_machine.specs.declared.machine.receiver.ReceiverPos.TheVariants as RP
use Rattle.oneshot_machine.specs.declared.machine.try_recv.TryPos.TheVariants.{TryLoad, Take, CloseOnly}
use Rattle.oneshot_machine.specs.declared.machine.by_ref.RefPos.TheVariants.{StartLoad, ParkLoad}
use Rattle.oneshot_machine.specs.declared.machine.timed.TimedPos.TheVariants.{TimedLoad, EndBack, LateLoad}
use Rattle.oneshot_machine.specs.declared.machine.future.FuturePos.TheVariants.{IntoFuture}
use Rattle.oneshot_machine.specs.declared.machine.sender.SenderPos.{SenderPos}
use Rattle.oneshot_machine.specs.declared.machine.sender.SenderCall.TheVariants as SC
use Rattle.oneshot_machine.specs.declared.states.Op.{Op}
use Rattle.oneshot_machine.specs.TableRows.{Outcome, Goes, Answers}
use Rattle.oneshot_machine.specs.Sender.{sender_start, sender_step, sender_row, sender_positions, sender_number}
use Rattle.oneshot_machine.specs.Receiver.{receiver_step, receiver_row, receiver_opens, future_opens, receiver_positions, receiver_number, receiver_count}
use Rattle.oneshot_machine.specs.Noted.{Noted, op_of, is_same_op}

-- An end's table, with all its positions and a number for each. `opens` are the first positions of a new
-- end's calls, and `follows` those of the calls that may follow a reply. Neither has looks, since no log
-- has them.
pub record Table (P : Type 0) : Type 0 where
  pub step : P → Step
  pub row : P → Seen → Option (Outcome P)
  pub positions : List P
  pub number : P → ℕ
  pub opens : List P
  pub follows : P → Reply → List P

abbrev pub is_op : Op → Option Op → Bool
is_op op None = false
is_op op (Some other) = is_same_op op other

-- what a step that is no operation on the word may see
abbrev pub sights : List Seen
sights = Done ∷ Over true ∷ Over false ∷ Refused true ∷ Refused false ∷ Token true ∷ Token false ∷ []

module _ {P : Type 0} (t : Table P) where
  -- The next positions that operate on the word. If more than `fuel` steps lie between, it returns every
  -- position, so too little fuel can only refuse the law.
  abbrev pub onward : (fuel : ℕ) (from : P) → Option (Outcome P) → List P
  onward fuel from None = []
  onward zero from (Some outcome) = t.positions
  onward (suc fuel) from (Some (Answers reply)) =
      flat_map (λ p. onward fuel p (Some (Goes p))) (t.follows from reply)
  onward (suc fuel) from (Some (Goes p)) =
      if is_some (op_of (t.step p)) then p ∷ [] else flat_map (λ seen. onward fuel p (t.row p seen)) sights

  abbrev pub onward_all : List P → List P
  onward_all ps = flat_map (λ p. onward 6 p (Some (Goes p))) ps

  -- each once, in the table's order
  abbrev pub in_order : List P → List P
  in_order ps = filter (λ p. list_any (λ q. t.number q == t.number p) ps) t.positions

  -- the positions after this operation at one of these
  abbrev pub moved : List P → Noted → List P
  moved ps x =
      in_order (flat_map (λ p. onward 6 p (if is_op x.0 (op_of (t.step p)) then t.row p x.1 else None)) ps)

  abbrev pub standing_from : List P → List Noted → List P
  standing_from ps [] = ps
  standing_from ps (x ∷ xs) = standing_from (moved ps x) xs

  -- where an end may be after these operations
  abbrev pub standing : List Noted → List P
  standing = standing_from (in_order (onward_all t.opens))

  -- the operations on the word at these positions
  abbrev pub made_at : List P → List Op
  made_at ps = filter_map (λ p. op_of (t.step p)) ps

  -- the operations that an end may perform after this log
  abbrev pub operations : List Noted → List Op
  operations xs = made_at (standing xs)

-- after a refused `send`: the calls of its error
abbrev pub sender_follows : SenderPos → Reply → List SenderPos
sender_follows p R.Refused = sender_start SC.IntoInner ∷ sender_start SC.DropError ∷ []
sender_follows p _ = []

abbrev pub sender_table : Table SenderPos
sender_table =
    record {
      step = sender_step;
      row = sender_row;
      positions = sender_positions;
      number = sender_number;
      opens = sender_start SC.Send ∷ sender_start SC.Drop ∷ [];
      follows = sender_follows;
    }

-- A standpoint is a receiver's position, before its `into_future` or from it on: a receiver and a future may be at the
-- same position, and other calls follow there.
pub data Standpoint : Type 0 where
  plainly : ReceiverPos → Standpoint
  future_at : ReceiverPos → Standpoint

abbrev pub standpoint_step : Standpoint → Step
standpoint_step (plainly p) = receiver_step p
standpoint_step (future_at p) = receiver_step p

abbrev pub outcome_at : (ReceiverPos → Standpoint) → Outcome ReceiverPos → Outcome Standpoint
outcome_at stands (Goes next) = Goes (stands next)
outcome_at stands (Answers reply) = Answers reply

abbrev pub standpoint_row : Standpoint → Seen → Option (Outcome Standpoint)
standpoint_row (plainly p) seen = option_map (outcome_at plainly) (receiver_row p seen)
standpoint_row (future_at p) seen = option_map (outcome_at future_at) (receiver_row p seen)

abbrev pub standpoint_number : Standpoint → ℕ
standpoint_number (plainly p) = receiver_number p
standpoint_number (future_at p) = receiver_count + receiver_number p

-- after `recv` or a drop no call follows, after `into_future` a future's, after any other all
abbrev pub receiver_follows : ReceiverPos → Reply → List Standpoint
receiver_follows (RP.Try TryLoad) reply = map plainly receiver_opens
receiver_follows (RP.Try Take) reply = map plainly receiver_opens
receiver_follows (RP.Try CloseOnly) reply = map plainly receiver_opens
receiver_follows (RP.Ref (StartLoad timed)) reply = map plainly receiver_opens
receiver_follows (RP.Ref ParkLoad) reply = map plainly receiver_opens
receiver_follows (RP.Timed TimedLoad) reply = map plainly receiver_opens
receiver_follows (RP.Timed EndBack) reply = map plainly receiver_opens
receiver_follows (RP.Timed LateLoad) reply = map plainly receiver_opens
receiver_follows (RP.Future IntoFuture) reply = map future_at future_opens
receiver_follows _ reply = []

-- after its drop no call of a future follows, after any other all
abbrev pub future_follows : Reply → List Standpoint
future_follows R.Done = []
future_follows _ = map future_at future_opens

abbrev pub standpoint_follows : Standpoint → Reply → List Standpoint
standpoint_follows (plainly p) reply = receiver_follows p reply
standpoint_follows (future_at p) reply = future_follows reply

abbrev pub receiver_table : Table Standpoint
receiver_table =
    record {
      step = standpoint_step;
      row = standpoint_row;
      positions = map plainly receiver_positions ++ map future_at receiver_positions;
      number = standpoint_number;
      opens = map plainly receiver_opens;
      follows = standpoint_follows;
    }
