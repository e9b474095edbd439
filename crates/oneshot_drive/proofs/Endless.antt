-- A receive without an end never runs out: no run of its table ends in `Timeout`. So `recv_ref` has no such reply.
use Rattle.std.proofs.Common.{◌≡◌, Bool, true, false, not, List, [], ◌∷◌, Some, refl, subst}
use Rattle.std.proofs.lemmas.Bool.{and_parts}
use Rattle.std.specs.Prelude.{if◌then◌else◌, Err}
use Rattle.std.specs.List.{list_all}
use Rattle.oneshot_errors.specs.declared.recv_timeout.RecvTimeoutError.{RecvTimeoutError}
use Rattle.oneshot_errors.specs.declared.recv_timeout.RecvTimeoutError.TheVariants as Error
use Rattle.oneshot_machine.specs.declared.machine.Reply.{Reply}
use Rattle.oneshot_machine.specs.declared.machine.Reply.TheVariants.{Timeout, Disconnected}
use Rattle.oneshot_machine.specs.declared.machine.receiver.ReceiverStart.TheVariants.{RecvRef}
use Rattle.oneshot_machine.specs.declared.machine.Seen.{Seen}
use Rattle.oneshot_machine.specs.declared.machine.by_ref.RefPos.TheVariants.{StartLoad, StartWrite, StartSwap, BackFull, BackClosed, Park, ParkLoad}
use Rattle.oneshot_machine.specs.declared.machine.receiver.ReceiverPos.{ReceiverPos}
use Rattle.oneshot_machine.specs.declared.machine.receiver.ReceiverPos.TheVariants.{Try, Ref, Timed}
use Rattle.oneshot_machine.specs.declared.machine.timed.TimedPos.TheVariants.{SumClock}
use Rattle.oneshot_machine.specs.declared.machine.try_recv.TryPos.TheVariants.{Close, CloseOnly, Take}
use Rattle.oneshot_machine.specs.Logs.{Event, Log}
use Rattle.oneshot_machine.specs.Receiver.{receiver_step, receiver_rows, receiver_row}
use Rattle.oneshot_machine.specs.Runs.{Run, last, more, Ran, ReceiverRan}
use Rattle.oneshot_machine.specs.TableRows.{Outcome, Goes, Answers, Rows, is_same_seen, row_for}
use Rattle.oneshot_drive.specs.BetweenCalls.{timed_reply}

-- the positions of such a receive
abbrev is_endless : ReceiverPos → Bool
is_endless (Timed (SumClock false)) = true
is_endless (Ref (StartLoad false)) = true
is_endless (Ref (StartWrite false)) = true
is_endless (Ref (StartSwap false)) = true
is_endless (Ref BackFull) = true
is_endless (Ref BackClosed) = true
is_endless (Ref Park) = true
is_endless (Ref ParkLoad) = true
is_endless (Try Close) = true
is_endless (Try CloseOnly) = true
is_endless (Try Take) = true
is_endless _ = false

abbrev is_timeout : Reply → Bool
is_timeout Timeout = true
is_timeout _ = false

-- a row leads to such a position, or to a reply other than `Timeout`
abbrev stays_endless : Outcome ReceiverPos → Bool
stays_endless (Goes p) = is_endless p
stays_endless (Answers r) = not (is_timeout r)

abbrev all_go_on : Rows ReceiverPos → Bool
all_go_on = list_all (λ row. stays_endless row.1)

rows_go_on : (p : ReceiverPos) → is_endless p ≡ true → all_go_on (receiver_rows p) ≡ true
rows_go_on (Timed (SumClock false)) e = refl
rows_go_on (Ref (StartLoad false)) e = refl
rows_go_on (Ref (StartWrite false)) e = refl
rows_go_on (Ref (StartSwap false)) e = refl
rows_go_on (Ref BackFull) e = refl
rows_go_on (Ref BackClosed) e = refl
rows_go_on (Ref Park) e = refl
rows_go_on (Ref ParkLoad) e = refl
rows_go_on (Try Close) e = refl
rows_go_on (Try CloseOnly) e = refl
rows_go_on (Try Take) e = refl
rows_go_on _ e = absurd (cc e)

-- the row for what was seen is one of them
found_goes_on : (seen : Seen) (rows : Rows ReceiverPos) {o : Outcome ReceiverPos} → all_go_on rows ≡ true
    → row_for seen rows ≡ Some o → stays_endless o ≡ true
found_goes_on seen [] all is = absurd (cc is)
found_goes_on seen (row ∷ rows) {o} all is =
    by (is_same_seen row.0 seen) is (and_parts (stays_endless row.1) (all_go_on rows) all) (found_goes_on seen rows)
  where
    by : (b : Bool) → (if b then Some row.1 else row_for seen rows) ≡ Some o
        → (stays_endless row.1 ≡ true) × (all_go_on rows ≡ true)
        → (all_go_on rows ≡ true → row_for seen rows ≡ Some o → stays_endless o ≡ true) → stays_endless o ≡ true
    by true is both later = subst (λ o. stays_endless o ≡ true) (cc is) both.0
    by false is both later = later both.1 is

module _ {T W : Type 0} where
  pub never_runs_out : (p : ReceiverPos) (run : List (Event T W)) → is_endless p ≡ true
      → Run receiver_step receiver_row p run Timeout → ⊥
  never_runs_out p _ endless (last x is leads) =
      let on : false ≡ true = found_goes_on x.seen (receiver_rows p) (rows_go_on p endless) leads in cc on
  never_runs_out p _ endless (more next x xs is leads rest) =
      never_runs_out next xs (found_goes_on x.seen (receiver_rows p) (rows_go_on p endless) leads) rest

  -- so the error of such a receive is that no message will come
  pub untimed_ran : (e : RecvTimeoutError) {before after : Log T W} {got : List T}
      → Ran receiver_step receiver_row (Ref (StartLoad false)) before after (timed_reply {T = T} (Err e)) [] got
      → ReceiverRan RecvRef before after Disconnected [] got
  untimed_ran Error.Timeout ran = absurd (never_runs_out _ ran.run refl ran.is_run)
  untimed_ran Error.Disconnected ran = ran
