-- A timeout has an end exactly if its clock failed or an instant can hold the sum, and a receive without an end
-- performs the operations of one with an end.
use Rattle.std.proofs.Common.{◌≡◌, Bool, true, false, List, [], ◌∷◌, ◌++◌, map, Option, Some, None, refl, sym, ap, ◌∙◌, subst}
use Rattle.std.specs.List.{cons_option}
use Rattle.std.specs.Option.{option_map}
use Rattle.std.specs.Prelude.{◌↔◌, IsTrue, if◌then◌else◌}
use Rattle.std.specs.declared.time.Duration.{Duration}
use Rattle.std.specs.declared.time.Instant.{Instant}
use Rattle.oneshot_machine.specs.declared.machine.Reply.{Reply}
use Rattle.oneshot_machine.specs.declared.machine.Seen.{Seen}
use Rattle.oneshot_machine.specs.declared.machine.async_drop.AsyncDropPos.TheVariants.{AsyncLoad}
use Rattle.oneshot_machine.specs.declared.machine.by_ref.RefPos.TheVariants.{StartLoad, StartWrite, StartSwap, Park, ParkLoad}
use Rattle.oneshot_machine.specs.declared.machine.drop.DropPos.TheVariants.{DropSwap}
use Rattle.oneshot_machine.specs.declared.machine.future.FuturePos.TheVariants.{PollLoad}
use Rattle.oneshot_machine.specs.declared.machine.look.LookPos.TheVariants.{LookFull}
use Rattle.oneshot_machine.specs.declared.machine.receiver.ReceiverPos.{ReceiverPos}
use Rattle.oneshot_machine.specs.declared.machine.receiver.ReceiverPos.TheVariants.{Look, Try, Ref, Timed, Value, Future, AsyncDrop, Drop}
use Rattle.oneshot_machine.specs.declared.machine.receiver.ReceiverStart.TheVariants.{RecvTimeout}
use Rattle.oneshot_machine.specs.declared.machine.timed.TimedPos.TheVariants.{SumClock, Clock, TimedPark, TimedLoad}
use Rattle.oneshot_machine.specs.declared.machine.try_recv.TryPos.TheVariants.{TryLoad}
use Rattle.oneshot_machine.specs.declared.machine.value.ValuePos.TheVariants.{RecvLoad}
use Rattle.oneshot_machine.specs.Logs.{Event, clocked, noted, words}
use Rattle.oneshot_machine.specs.Noted.{Noted}
use Rattle.oneshot_machine.specs.Receiver.{receiver_step, receiver_rows, receiver_row}
use Rattle.oneshot_machine.specs.Runs.{Run, last, more}
use Rattle.oneshot_machine.specs.TableRows.{Outcome, Goes, Answers, Rows, is_same_seen, row_for}
use Rattle.oneshot_ends.specs.declared.deadline.Deadline.{Deadline}
use Rattle.oneshot_ends.specs.declared.deadline.Deadline.TheVariants.{At, Passed, Never}
use Rattle.oneshot_ends.specs.Deadlines.{IsAfter, HasEnd, has_end}
use Rattle.oneshot_ends.specs.Ends.{ReceiverGrew}

pub ends_where_held : (timeout : Duration) (reading : Option Instant) (deadline : Deadline)
    → IsAfter timeout reading deadline → IsTrue (has_end deadline) ↔ HasEnd timeout reading
ends_where_held timeout None deadline after =
    subst (λ d. IsTrue (has_end d) ↔ HasEnd timeout None) (sym after) (λ ends. tt, λ held. refl)
ends_where_held timeout (Some now) (At end) after = (λ ends. after.1, λ held. refl)
ends_where_held timeout (Some now) Passed after = absurd after
ends_where_held timeout (Some now) Never after = (λ ends. absurd (cc ends), λ held. absurd (after held))

-- the position of a receive with an end beside one of a receive without, and where it makes the same step: it reads the
-- clock before it parks
abbrev beside : ReceiverPos → ReceiverPos
beside (Timed (SumClock false)) = Timed (SumClock true)
beside (Ref (StartLoad false)) = Ref (StartLoad true)
beside (Ref (StartWrite false)) = Ref (StartWrite true)
beside (Ref (StartSwap false)) = Ref (StartSwap true)
beside (Ref Park) = Timed Clock
beside (Ref ParkLoad) = Timed TimedLoad
beside p = p

abbrev acts : ReceiverPos → ReceiverPos
acts (Ref Park) = Timed TimedPark
acts p = beside p

abbrev leads_beside : Outcome ReceiverPos → Outcome ReceiverPos
leads_beside (Goes next) = Goes (beside next)
leads_beside (Answers reply) = Answers reply

abbrev rows_beside : Rows ReceiverPos → Rows ReceiverPos
rows_beside = map (λ row. (row.0, leads_beside row.1))

abbrev AreAlike : ReceiverPos → Type 0
AreAlike p =
    (receiver_step (acts p) ≡ receiver_step p) × (receiver_rows (acts p) ≡ rows_beside (receiver_rows p))

alike : (p : ReceiverPos) → AreAlike p
alike (Look LookFull) = (refl, refl)
alike (Try TryLoad) = (refl, refl)
alike (Ref (StartLoad false)) = (refl, refl)
alike (Ref (StartWrite false)) = (refl, refl)
alike (Ref (StartSwap false)) = (refl, refl)
alike (Timed (SumClock false)) = (refl, refl)
alike (Value RecvLoad) = (refl, refl)
alike (Future PollLoad) = (refl, refl)
alike (AsyncDrop AsyncLoad) = (refl, refl)
alike (Drop DropSwap) = (refl, refl)
alike _ = (refl, refl)

found_beside : (seen : Seen) (rows : Rows ReceiverPos)
    → row_for seen (rows_beside rows) ≡ option_map leads_beside (row_for seen rows)
found_beside seen [] = refl
found_beside seen (row ∷ rows) = by (is_same_seen row.0 seen) (found_beside seen rows)
  where
    by : (b : Bool) → row_for seen (rows_beside rows) ≡ option_map leads_beside (row_for seen rows)
        → (if b then Some (leads_beside row.1) else row_for seen (rows_beside rows))
        ≡ option_map leads_beside (if b then Some row.1 else row_for seen rows)
    by true found = refl
    by false found = found

leads_too : (p : ReceiverPos) (seen : Seen) {o : Outcome ReceiverPos} → receiver_row p seen ≡ Some o
    → receiver_row (acts p) seen ≡ Some (leads_beside o)
leads_too p seen leads =
    ap (row_for seen) (alike p).1 ∙ (found_beside seen (receiver_rows p) ∙ ap (option_map leads_beside) leads)

-- a run from this position, with these operations
record RunsWith (T W : Type 0) (p : ReceiverPos) (r : Reply) (log : List Noted) : Type 0 where
  run : List (Event T W)
  is_run : Run receiver_step receiver_row p run r
  same : words run ≡ log

module _ {T W : Type 0} where
  enters : (p : ReceiverPos) {r : Reply} {xs : List (Event T W)} {log : List Noted}
      → Run receiver_step receiver_row (acts p) xs r → words xs ≡ log → RunsWith T W (beside p) r log
  enters (Ref Park) {xs = xs} made same =
      record {
        run = clocked false ∷ xs;
        is_run = more (Timed TimedPark) (clocked false) xs refl refl made;
        same = same;
      }
  enters _ made same = record { run = _; is_run = made; same = same }

  with_its_clock : {p : ReceiverPos} {r : Reply} {xs : List (Event T W)} → Run receiver_step receiver_row p xs r
      → RunsWith T W (beside p) r (words xs)
  with_its_clock {p} (last x is leads) =
      enters p (last x (is ∙ sym (alike p).0) (leads_too p x.seen leads)) refl
  with_its_clock {p} (more next x xs is leads rest) =
      let on = with_its_clock rest in
      enters p (more (beside next) x on.run (is ∙ sym (alike p).0) (leads_too p x.seen leads) on.is_run)
      (ap (cons_option (noted x)) on.same)

module _ {T : Type 0} where
  pub with_an_end : (ends : Bool) {before after : List Noted} {reply : Reply}
      → ReceiverGrew T (RecvTimeout ends) before after reply → ReceiverGrew T (RecvTimeout true) before after reply
  with_an_end true grew = grew
  with_an_end false {before} grew =
      let on = with_its_clock grew.is_run in
      record { run = on.run; is_run = on.is_run; list = grew.list ∙ ap (λ log. before ++ log) (sym on.same) }
