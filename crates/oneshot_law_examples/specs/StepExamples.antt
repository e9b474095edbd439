-- Examples of a run stepped by hand: what is left of a script, what the run has reached, and how it goes on.
use Rattle.std.specs.Prelude.{◌≡◌, ℕ, true, false, [], ◌∷◌, Some, None}
use Rattle.oneshot_machine.specs.declared.machine.End.TheVariants.{Sender}
use Rattle.oneshot_machine.specs.declared.machine.receiver.ReceiverStart.TheVariants as RC
use Rattle.oneshot_machine.specs.declared.machine.sender.SenderCall.TheVariants as SC
use Rattle.oneshot_machine.specs.declared.machine.Step.TheVariants as T
use Rattle.oneshot_world.specs.Calls as C
use Rattle.oneshot_world.specs.Looks.{looks_left}
use Rattle.oneshot_world.specs.World.{opening}
use Rattle.oneshot_world.specs.declared.script.ErrorLast.TheVariants as EL
use Rattle.oneshot_world.specs.declared.script.Move.TheVariants as M
use Rattle.oneshot_world.specs.declared.script.AsyncLast.TheVariants as AL
use Rattle.oneshot_world.specs.declared.script.ReceiverCall.TheVariants.{TryRecv}
use Rattle.oneshot_world.specs.declared.script.ReceiverLast.TheVariants as RL
use Rattle.oneshot_world.specs.declared.script.ReceiverScript.{ReceiverScript}
use Rattle.oneshot_world.specs.declared.script.SenderScript.{SenderScript}
use Rattle.oneshot_world.specs.declared.trace.Entry.{Entry}
use Rattle.oneshot_world.specs.declared.trace.Entry.TheVariants as E
use Rattle.oneshot_world.specs.declared.trace.Place.TheVariants as P
use Rattle.oneshot_replay.specs.Run.{HasRun, trace_at, GoesOn}
use Rattle.oneshot_replay.specs.Scene.{Scene, sender_call_of, receiver_call_of}
use Rattle.oneshot_replay.specs.TraceView.{last_of}
use Rattle.oneshot_replay.specs.declared.rest.Rest.TheVariants.{NotSent, Delivered}
use Rattle.oneshot_law_examples.specs.Notation.{Example, sender, moving, up_to}
use Rattle.oneshot_law_examples.specs.Traces.{waited_for_message, nothing_moved}
use Rattle.oneshot_law_examples.specs.FutureTraces.{dropped_while_pending}
use Rattle.oneshot_law_examples.specs.RecordExamples.{sending, sends, receiving, polling, worlds_in, shows}

-- what the run of a trace has reached
abbrev pub scene_of : SenderScript ℕ → ReceiverScript → Example → ℕ → Scene ℕ
scene_of s r x count = record { world = last_of (opening s r) (worlds_in s r x); count = count; message = Some 7 }

-- before the first step, and after a step of the sender: it has written its message
abbrev pub tries : ReceiverScript
tries = receiving (TryRecv ∷ []) RL.Stop

abbrev pub writes : Entry
writes = E.Made (moving P.NotSent P.InCell (sender T.WriteMessage 3 3))

abbrev pub before : Scene ℕ
before = scene_of sends tries nothing_moved 0

abbrev pub after : Scene ℕ
after = scene_of sends tries (record nothing_moved { entries = writes ∷ [] }) 1

-- the calls that are left
pub record CallsThatAreLeft : Type 0 where
  pub looks_twice : looks_left (record { looks = 2; look = SC.IsClosed; last = Some SC.Send })
      ≡ C.Of_sender SC.IsClosed ∷ C.Of_sender SC.IsClosed ∷ C.Of_sender SC.Send ∷ []
  pub looks_and_stops : looks_left (record { looks = 1; look = SC.AsInner; last = None }) ≡ C.Of_sender SC.AsInner ∷ []
  pub sends_first : sender_call_of before ≡ Some SC.Send
  pub tries_first : receiver_call_of before ≡ Some RC.TryRecv
  pub looks_first : sender_call_of (scene_of (sending 1 EL.Stop) tries nothing_moved 0) ≡ Some SC.IsClosed
  -- a refused `send` is followed by its error's drop, and a poll is shown without its number
  pub drops_its_error : sender_call_of (scene_of (sending 0 EL.Drop) (polling AL.Drop)
      (up_to 11 dropped_while_pending) 11) ≡ Some SC.DropError
  pub polls : receiver_call_of (scene_of sends (polling AL.Drop) (up_to 1 dropped_while_pending) 1) ≡ Some RC.Poll
  pub none_of_the_sender : sender_call_of (scene_of sends (receiving [] RL.Recv) waited_for_message 14) ≡ None
  pub none_of_the_receiver : receiver_call_of (scene_of sends (receiving [] RL.Stop) nothing_moved 0) ≡ None

pub record StepsThatAre : Type 0 where
  pub begins : HasRun sends tries [] [] before
  pub goes_on : GoesOn before M.Sender writes after
  pub has_come : HasRun sends tries (M.Sender ∷ []) (writes ∷ []) after
  -- the traces that end at these points
  pub shows_nothing : trace_at [] before ≡ shows nothing_moved false (Some (NotSent 7))
  pub shows_its_rest : trace_at waited_for_message.entries (scene_of sends (receiving [] RL.Recv) waited_for_message 14)
      ≡ shows waited_for_message true (Some (Delivered 7))

pub record StepsThatAreNot : Type 0 where
  -- another entry, world, count or message
  pub runs_another : HasRun sends tries (M.Sender ∷ []) (E.Idle Sender ∷ []) after → ⊥
  pub stays_where_it_was : HasRun sends tries (M.Sender ∷ []) (writes ∷ []) (record before { count = 1 }) → ⊥
  pub counts_none : HasRun sends tries (M.Sender ∷ []) (writes ∷ []) (record after { count = 0 }) → ⊥
  pub has_another : HasRun sends tries (M.Sender ∷ []) (writes ∷ []) (record after { message = Some 8 }) → ⊥
  pub has_none : HasRun sends tries (M.Sender ∷ []) (writes ∷ []) (record after { message = None }) → ⊥
  -- and wrong ways to go on
  pub goes_on_idle : GoesOn before M.Sender (E.Idle Sender) after → ⊥
  pub goes_nowhere : GoesOn before M.Sender writes (record before { count = 1 }) → ⊥
  pub goes_uncounted : GoesOn before M.Sender writes (record after { count = 0 }) → ⊥
  pub goes_by_the_other : GoesOn before (M.Receiver false false) writes after → ⊥
