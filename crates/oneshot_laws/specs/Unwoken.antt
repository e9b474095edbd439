-- No lost wakeup: no receiver waits unwoken, in a park or a task, once the sender's send or drop has replied.
use Rattle.std.specs.Prelude.{ℕ, ◌==◌, Bool, false, not, ◌&&◌, ◌||◌, List, [], ◌∷◌, map, Option, Some, None, is_some, IsTrue}
use Rattle.std.specs.List.{list_any}
use Rattle.oneshot_machine.specs.declared.machine.Reply.TheVariants as R
use Rattle.oneshot_world.specs.Ahead.{Ahead, ahead_of}
use Rattle.oneshot_world.specs.Calls.{Call, number_of}
use Rattle.oneshot_world.specs.Scripts.{calls_of}
use Rattle.oneshot_world.specs.Wakers.{WakerMove}
use Rattle.oneshot_world.specs.World.{World, opening, IsRun}
use Rattle.oneshot_world.specs.declared.script.Move.{Move}
use Rattle.oneshot_world.specs.declared.script.ReceiverScript.{ReceiverScript}
use Rattle.oneshot_world.specs.declared.script.SenderScript.{SenderScript}
use Rattle.oneshot_world.specs.declared.trace.Entry.{Entry}
use Rattle.oneshot_world.specs.declared.trace.WakerName.TheVariants.{Copy}
use Rattle.oneshot_world.specs.declared.trace.WakerPlace.TheVariants.{Used}
use Rattle.oneshot_laws.specs.Entries.{is_reply}
use Rattle.oneshot_laws.specs.Actions.{is_end_of_sender, is_drop_of_receiver}
use Rattle.oneshot_laws.specs.Marks.{Mark, marks}
use Rattle.oneshot_laws.specs.Ended.{has_answered}

-- the receiver is about to park, and has no token
abbrev pub waits_in_park : Ahead → Bool
waits_in_park a = a.parks && not a.token

-- an entry wakes the tasks that poll with this number: by a poll's own wake, or by using a copy of its waker
abbrev pub uses_copy_of : ℕ → Option WakerMove → Bool
uses_copy_of number (Some (Copy other entry, from, Used)) = other == number
uses_copy_of number _ = false

abbrev pub is_own : ℕ → Option ℕ → Bool
is_own number None = false
is_own number (Some other) = other == number

abbrev pub wakes : ℕ → Mark → Bool
wakes number m = uses_copy_of number m.entry.waker || is_own number m.entry.own

abbrev pub is_poll : Call → Bool
is_poll call = is_some (number_of call)

abbrev pub begins_poll_or_drop : Mark → Bool
begins_poll_or_drop m = m.begins && (is_poll m.call || is_drop_of_receiver m.call)

abbrev pub answers_pending : Mark → Bool
answers_pending m = is_poll m.call && is_reply R.Pending m.entry.reply

-- A poll with this number begins here, and it replied "pending". Since then no poll and no drop began, and no
-- entry of the poll or after it wakes the number.
abbrev pub is_left_by : Option ℕ → Mark → List Mark → Bool
is_left_by None m later = false
is_left_by (Some number) m later =
    list_any answers_pending (m ∷ later)
    && not (list_any begins_poll_or_drop later)
    && not (list_any (wakes number) (m ∷ later))

-- the receiver's last poll left its task, and nothing woke it
abbrev pub waits_in_task : List Mark → Bool
waits_in_task [] = false
waits_in_task (m ∷ later) = m.begins && is_left_by (number_of m.call) m later || waits_in_task later

-- the sender's last call has replied, and the receiver waits, in a park or in a task
abbrev pub is_unwoken : List Mark → Ahead → Bool
is_unwoken ms ahead = has_answered is_end_of_sender ms && (waits_in_park ahead || waits_in_task ms)

-- The receiver is unwoken at no moment of a run. `so_far` returns the marks of each front of the trace; the
-- list has, for each front, what lies ahead of the world that it leads to.
abbrev pub is_never_unwoken : (List Entry → List Mark) → List Ahead → List Entry → Bool
is_never_unwoken so_far (ahead ∷ aheads) [] = not (is_unwoken (so_far []) ahead)
is_never_unwoken so_far (ahead ∷ aheads) (entry ∷ entries) =
    not (is_unwoken (so_far []) ahead) && is_never_unwoken (λ front. so_far (entry ∷ front)) aheads entries
is_never_unwoken so_far [] entries = false

-- the run of two scripts under these moves, with these entries, has no such moment
pub record NeverUnwoken {T : Type 0} (s : SenderScript T) (r : ReceiverScript) (moves : List Move)
    (entries : List Entry) : Type 0 where
  pub worlds : List World
  pub is_run : IsRun (opening s r) worlds moves entries
  pub woken : IsTrue (is_never_unwoken (marks (calls_of s r)) (map ahead_of (opening s r ∷ worlds)) entries)
