-- Worked traces that satisfy the record of all laws, and damaged ones that it refuses, one for each field.
use Rattle.std.specs.Prelude.{ℕ, ◌+◌, true, false, Bool, map, List, [], ◌∷◌, Option, Some, None, IsTrue}
use Rattle.oneshot_world.specs.World.{World, opening, turn}
use Rattle.oneshot_world.specs.declared.script.AsyncCall.TheVariants as AC
use Rattle.oneshot_world.specs.declared.script.AsyncLast.{AsyncLast}
use Rattle.oneshot_world.specs.declared.script.AsyncLast.TheVariants as AL
use Rattle.oneshot_world.specs.declared.script.ErrorLast.{ErrorLast}
use Rattle.oneshot_world.specs.declared.script.ErrorLast.TheVariants as EL
use Rattle.oneshot_world.specs.declared.script.Move.{Move}
use Rattle.oneshot_world.specs.declared.script.Move.TheVariants as M
use Rattle.oneshot_world.specs.declared.script.ReceiverCall.{ReceiverCall}
use Rattle.oneshot_world.specs.declared.script.ReceiverCall.TheVariants.{TryRecv, RecvRef, HasMessage, IsClosed}
use Rattle.oneshot_world.specs.declared.script.ReceiverLast.{ReceiverLast}
use Rattle.oneshot_world.specs.declared.script.ReceiverLast.TheVariants as RL
use Rattle.oneshot_world.specs.declared.script.ReceiverScript.{ReceiverScript}
use Rattle.oneshot_world.specs.declared.script.SenderLast.TheVariants as SL
use Rattle.oneshot_world.specs.declared.script.SenderScript.{SenderScript}
use Rattle.oneshot_world.specs.declared.trace.Entry.{Entry}
use Rattle.oneshot_world.specs.declared.trace.Entry.TheVariants as E
use Rattle.oneshot_world.specs.declared.trace.Place.TheVariants as P
use Rattle.oneshot_machine.specs.declared.machine.End.TheVariants.{Sender}
use Rattle.oneshot_machine.specs.declared.machine.Reply.TheVariants as R
use Rattle.oneshot_laws.specs.Marks.{Mark}
use Rattle.oneshot_laws.specs.Unwoken.{NeverUnwoken}
use Rattle.oneshot_laws.specs.WakerPlaces.{AreWakersRight}
use Rattle.oneshot_replay.specs.Right.{IsRight}
use Rattle.oneshot_replay.specs.TraceView.{TraceView, IsReplayed}
use Rattle.oneshot_replay.specs.declared.rest.Rest.{Rest}
use Rattle.oneshot_replay.specs.declared.rest.Rest.TheVariants.{NotSent, Delivered, Dropped}
use Rattle.oneshot_law_examples.specs.Notation.{Example, move_in, up_to, without, exchanged, twice, answered_by, unmoved_by, moved_by, uncarried_by}
use Rattle.oneshot_law_examples.specs.Traces.{sent_then_taken, nothing_moved, dropped_unread, looked_at_both_ends, tried_again, closed_then_tried, sent_though_closed, waited_for_message}
use Rattle.oneshot_law_examples.specs.Traces.{still_waiting}
use Rattle.oneshot_law_examples.specs.FutureTraces.{dropped_while_pending}
use Rattle.oneshot_law_examples.specs.BoundExamples.{tried_then_received}
use Rattle.oneshot_law_examples.specs.LawExamples.{are_wakers_right}
use Rattle.oneshot_law_examples.specs.TaskExamples.{wakes_nobody}

-- THE SCRIPTS
abbrev pub sending : ℕ → ErrorLast → SenderScript ℕ
sending looks error = record { looks = looks; last = SL.Send 7 (record { looks = 0; last = error }) }

abbrev pub sends : SenderScript ℕ
sends = sending 0 EL.Stop

abbrev pub drops : SenderScript ℕ
drops = record { looks = 0; last = SL.Drop }

abbrev pub receiving : List ReceiverCall → ReceiverLast → ReceiverScript
receiving calls last = record { calls = calls; last = last }

abbrev pub polling : AsyncLast → ReceiverScript
polling last = receiving [] (RL.IntoFuture (record { calls = AC.Poll 1 ∷ []; last = last }))

-- THE WAKERS: the test of the wakers that a trace moves is equivalent to the record, which is of all wakers
pub record WakersAreComputed : Type 0 where
  pub of_all : (entries : List Entry) (ms : List Mark)
      → IsTrue (are_wakers_right entries ms) → AreWakersRight entries ms
  pub of_each : (entries : List Entry) (ms : List Mark)
      → AreWakersRight entries ms → IsTrue (are_wakers_right entries ms)

-- THE RUN of a trace: its moves, its worlds, and what it shows
abbrev pub moves_in : Example → List Move
moves_in x = map move_in x.entries

abbrev pub worlds_from : ℕ → World → List Entry → List World
worlds_from n w [] = []
worlds_from n w (entry ∷ entries) =
    elim (turn n w (move_in entry)) [ None ↦ [] | Some made ↦ made.1 ∷ worlds_from (n + 1) made.1 entries ]

abbrev pub worlds_in : SenderScript ℕ → ReceiverScript → Example → List World
worlds_in s r x = worlds_from 1 (opening s r) x.entries

abbrev pub shows : Example → Bool → Option (Rest ℕ) → TraceView ℕ
shows x freed rest = record { entries = x.entries; block_freed = freed; rest = rest }

-- a receiver that parks and receives the message; and a future whose drop takes its copy back
pub record RightRecords : Type 0 where
  pub of_a_thread : IsRight sends (receiving [] RL.Recv) (moves_in waited_for_message)
      (shows waited_for_message true (Some (Delivered 7)))
  pub of_a_task : IsRight (sending 0 EL.Drop) (polling AL.Drop) (moves_in dropped_while_pending)
      (shows dropped_while_pending true (Some (Dropped 7)))

-- wrong for any moves, and whatever the trace shows of the block and of the message
abbrev pub IsWrong : SenderScript ℕ → ReceiverScript → Example → Type 0
IsWrong s r x =
    (moves : List Move) (freed : Bool) (rest : Option (Rest ℕ)) → IsRight s r moves (shows x freed rest) → ⊥

-- For each field of the record, a damaged trace under its name that the record refuses. The proof uses this field; no
-- run shows the trace, so the field `run` refuses it too.
pub record WrongRecords : Type 0 where
  pub run : IsRight sends (receiving [] RL.Stop) [] (shows nothing_moved true (Some (NotSent 7))) → ⊥
  pub an_entry_a_move : (freed : Bool) (rest : Option (Rest ℕ))
      → IsRight sends (receiving (TryRecv ∷ []) RL.Drop) [] (shows sent_then_taken freed rest) → ⊥
  pub idle : IsWrong sends (receiving [] RL.Stop) (record nothing_moved { entries = E.Idle Sender ∷ [] })
  pub legal : IsWrong sends (receiving (TryRecv ∷ []) RL.Drop) (without 2 sent_then_taken)
  pub message_followed : IsWrong sends (receiving (TryRecv ∷ []) RL.Drop) (twice 5 sent_then_taken)
  pub message_put : IsWrong sends (receiving (TryRecv ∷ []) RL.Drop) (moved_by 5 P.InCell P.Dropped sent_then_taken)
  pub message_there : IsWrong sends (receiving (TryRecv ∷ []) RL.Drop)
      (moved_by 7 P.InCell P.Dropped (unmoved_by 5 sent_then_taken))
  pub message_ended : IsWrong sends (receiving (TryRecv ∷ []) RL.Drop) (unmoved_by 5 sent_then_taken)
  -- the sender never has the waker that it uses, and the waker that it has is never used
  pub wakers_followed : IsWrong sends (receiving [] RL.Recv) (uncarried_by 6 waited_for_message)
  pub wakers_ended : IsWrong sends (receiving [] RL.Recv) (uncarried_by 14 waited_for_message)
  pub cell_kept : IsWrong sends (receiving (RecvRef ∷ []) RL.Stop) (twice 2 still_waiting)
  pub never_unwoken : IsWrong sends (polling AL.Stop) wakes_nobody
  pub freed_right : IsWrong sends (receiving (TryRecv ∷ []) RL.Drop) (exchanged 6 sent_then_taken)
  pub freed_as_shown : (moves : List Move) (rest : Option (Rest ℕ))
      → IsRight sends (receiving (TryRecv ∷ []) RL.Drop) moves (shows sent_then_taken false rest) → ⊥
  pub rest_as_shown : (moves : List Move) (freed : Bool)
      → IsRight sends (receiving (TryRecv ∷ []) RL.Drop) moves (shows sent_then_taken freed (Some (Delivered 8))) → ⊥
  pub gone_after_got : IsWrong sends (receiving (TryRecv ∷ TryRecv ∷ []) RL.Stop) (answered_by 6 R.Message tried_again)
  pub got_after_full : IsWrong (sending 1 EL.Stop)
      (receiving (IsClosed ∷ HasMessage ∷ TryRecv ∷ IsClosed ∷ []) RL.Stop)
      (answered_by 8 R.Disconnected looked_at_both_ends)
  pub gone_after_closed : IsWrong drops (receiving (IsClosed ∷ TryRecv ∷ IsClosed ∷ []) RL.Stop)
      (answered_by 3 R.Empty closed_then_tried)
  pub refused_after_closed : IsWrong (sending 1 EL.Stop) (receiving [] RL.Drop)
      (answered_by 4 R.Sent sent_though_closed)
  pub nothing_only_if_open : IsWrong sends (receiving (TryRecv ∷ []) RL.Drop) (answered_by 5 R.Empty sent_then_taken)
  pub dropped_once : IsWrong sends (receiving [] RL.Drop) (unmoved_by 4 dropped_unread)
  pub lone_calls : IsWrong sends (receiving (TryRecv ∷ []) RL.Drop) (answered_by 2 R.Refused sent_then_taken)
  pub calls_bounded : IsWrong sends (receiving (TryRecv ∷ []) RL.Drop) (twice 3 sent_then_taken)
  pub soon_answered : IsWrong drops (receiving (TryRecv ∷ RecvRef ∷ []) RL.Stop) (twice 3 tried_then_received)

-- the same for the fields of a run's own records
pub record WrongRuns : Type 0 where
  -- no entry of such a run, too many entries, a block that is not freed, a message that is elsewhere
  pub tells_another_entry : (freed : Bool) (rest : Option (Rest ℕ))
      → IsReplayed sends (receiving [] RL.Stop) (M.Sender ∷ [])
      (record { entries = E.Idle Sender ∷ []; block_freed = freed; rest = rest }) → ⊥
  pub runs_unmoved : (freed : Bool) (rest : Option (Rest ℕ))
      → IsReplayed sends (receiving [] RL.Stop) [] (shows (up_to 1 sent_then_taken) freed rest) → ⊥
  pub frees_nothing : IsReplayed sends (receiving [] RL.Stop) [] (shows nothing_moved true (Some (NotSent 7))) → ⊥
  pub has_it_still : IsReplayed sends (receiving [] RL.Stop) [] (shows nothing_moved false (Some (Delivered 7))) → ⊥
  pub has_its_own : IsReplayed sends (receiving [] RL.Stop) [] (shows nothing_moved false (Some (NotSent 8))) → ⊥
  -- a list of entries that is no run, and a task that nobody woke
  pub is_no_run : NeverUnwoken sends (receiving [] RL.Stop) [] (up_to 1 sent_then_taken).entries → ⊥
  pub is_unwoken : (moves : List Move) → NeverUnwoken sends (polling AL.Stop) moves wakes_nobody.entries → ⊥
