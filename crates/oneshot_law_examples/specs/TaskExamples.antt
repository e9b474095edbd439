-- The law of unwoken receivers, computed for futures, and for polls that leave their task without a wake.
use Rattle.std.specs.Prelude.{not, ◌&&◌, [], ◌∷◌, ◌++◌, take, replicate, IsTrue}
use Rattle.std.specs.List.{list_all}
use Rattle.oneshot_machine.specs.declared.machine.Reply.TheVariants as R
use Rattle.oneshot_machine.specs.declared.machine.Step.TheVariants as T
use Rattle.oneshot_machine.specs.declared.states.Op.TheVariants as O
use Rattle.oneshot_machine.specs.declared.states.TheConstants.{RECEIVING, EMPTY, MESSAGE}
use Rattle.oneshot_world.specs.declared.trace.Entry.TheVariants as E
use Rattle.oneshot_world.specs.declared.trace.Place.TheVariants as P
use Rattle.oneshot_world.specs.declared.trace.WakerName.TheVariants.{Copy}
use Rattle.oneshot_world.specs.declared.trace.WakerPlace.TheVariants as W
use Rattle.oneshot_law_examples.specs.Notation.{Example, sender, receiver, moving, carrying, waking_own, replying, up_to, answered_by, changed_at}
use Rattle.oneshot_law_examples.specs.LawExamples.{is_right}
use Rattle.oneshot_law_examples.specs.UnwokenExamples.{up, is_woken_in, is_unwoken_behind}
use Rattle.oneshot_law_examples.specs.FutureTraces.{dropped_while_finishing, dropped_once_finished, polled_while_finishing, copy_refused, polled_by_another_task, sent_before_pending}
use Rattle.oneshot_law_examples.specs.FutureTraces.{sent_while_polling, sent_while_replacing, dropped_while_pending, woken_then_ready, both_dropped_while_pending, tried_while_pending}
use Rattle.oneshot_law_examples.specs.FutureTraces.{tried_beside_a_drop, sent_to_one_that_left, dropped_to_one_that_left, polled_over_the_sender}
use Rattle.oneshot_law_examples.specs.FutureExamples.{kept_the_old_waker, refused_and_silent}

-- The second poll replies "pending", and leaves the first task's waker, which the sender then uses.
abbrev pub wakes_the_first_task : Example
wakes_the_first_task =
    record kept_the_old_waker {
      entries =
          kept_the_old_waker.entries
          ++ E.Made (moving P.NotSent P.InCell (sender T.WriteMessage 0 0))
          ∷ E.Made (sender (T.Word O.Add) 0 1)
          ∷ E.Made (carrying (Copy 1 3) W.Cell W.SenderHand (sender T.TakeWaker 1 1))
          ∷ E.Made (sender (T.Word (O.Swap MESSAGE)) 1 4)
          ∷ E.Made (replying R.Sent (carrying (Copy 1 3) W.SenderHand W.Used (sender T.Wake 4 4)))
          ∷ [];
    }

-- The poll's copy is refused, and it replies "pending" without a wake. The sender then finds nobody to wake.
abbrev pub wakes_nobody : Example
wakes_nobody =
    record refused_and_silent {
      entries =
          refused_and_silent.entries
          ++ E.Made (moving P.NotSent P.InCell (sender T.WriteMessage 3 3))
          ∷ E.Made (replying R.Sent (sender (T.Word O.Add) 3 4))
          ∷ [];
    }

-- the second poll wakes the first poll's number in place of its own
abbrev pub wakes_another : Example
wakes_another = changed_at 11 (waking_own 1) polled_while_finishing

-- A `try_recv` that finds nothing takes the stored waker back, as a poll does, and drops it. The sender then
-- finds nobody to wake.
abbrev pub withdrawn_by_a_try : Example
withdrawn_by_a_try =
    record tried_while_pending {
      entries =
          take 5 tried_while_pending.entries
          ++ E.Made (receiver (T.Word O.Load) 0 0)
          ∷ E.Made (receiver (T.Word (O.Exchange RECEIVING EMPTY)) 0 3)
          ∷ E.Made (replying R.Empty (carrying (Copy 1 3) W.Cell W.Dropped (receiver T.Withdraw 3 3)))
          ∷ E.Made (moving P.NotSent P.InCell (sender T.WriteMessage 3 3))
          ∷ E.Made (replying R.Sent (sender (T.Word O.Add) 3 4))
          ∷ [];
    }

-- the number was woken before its last poll began, and not since
abbrev pub woken_before : Example
woken_before = answered_by 12 R.Pending (up_to 12 woken_then_ready)

abbrev pub WokenTasks : Type 0
WokenTasks =
    IsTrue (list_all (is_woken_in (replicate 20 up))
    (dropped_while_finishing
    ∷ polled_while_finishing
    ∷ copy_refused
    ∷ polled_by_another_task
    ∷ sent_before_pending
    ∷ sent_while_polling
    ∷ sent_while_replacing
    ∷ dropped_while_pending
    ∷ woken_then_ready
    ∷ both_dropped_while_pending
    ∷ tried_while_pending
    ∷ tried_beside_a_drop
    ∷ dropped_once_finished
    ∷ sent_to_one_that_left
    ∷ dropped_to_one_that_left
    ∷ polled_over_the_sender
    ∷ []
    ))

abbrev pub UnwokenTasks : Type 0
UnwokenTasks =
    IsTrue (is_unwoken_behind 10 (replicate 12 up) wakes_the_first_task)
    × IsTrue (is_unwoken_behind 4 (replicate 6 up) wakes_nobody)
    × IsTrue (is_unwoken_behind 9 (replicate 11 up) withdrawn_by_a_try)
    × IsTrue (is_unwoken_behind 11 (replicate 13 up) woken_before)
    -- until the drop begins
    × IsTrue (is_woken_in (replicate 14 up) (up_to 13 wakes_another)
    && not (is_woken_in (replicate 15 up) (up_to 14 wakes_another)))
    -- the other definitions accept both wrong polls, and the wrong `try_recv`
    × IsTrue (is_right wakes_the_first_task && is_right wakes_nobody && is_right withdrawn_by_a_try)
