-- The laws, computed for worked traces of a future, and for the same traces damaged.
use Rattle.std.specs.Prelude.{◌≡◌, not, ◌&&◌, [], ◌∷◌, ◌++◌, take, replicate, Some, None, IsTrue}
use Rattle.std.specs.List.{list_all}
use Rattle.oneshot_machine.specs.declared.machine.End.TheVariants.{Sender, Receiver}
use Rattle.oneshot_machine.specs.declared.machine.Reply.TheVariants as R
use Rattle.oneshot_machine.specs.declared.machine.Step.TheVariants as T
use Rattle.oneshot_machine.specs.declared.states.Op.TheVariants as O
use Rattle.oneshot_machine.specs.declared.states.TheConstants.{DISCONNECTED, MESSAGE}
use Rattle.oneshot_machine.specs.declared.machine.receiver.ReceiverStart.TheVariants as RC
use Rattle.oneshot_world.specs.Calls as C
use Rattle.oneshot_world.specs.declared.trace.Entry.TheVariants as E
use Rattle.oneshot_world.specs.declared.trace.Place.TheVariants as P
use Rattle.oneshot_world.specs.declared.trace.WakerName.TheVariants.{Parker, Copy}
use Rattle.oneshot_world.specs.declared.trace.WakerPlace.TheVariants as W
use Rattle.oneshot_laws.specs.WakerPlaces.{is_cell_kept}
use Rattle.oneshot_laws.specs.Replies.{is_gone_after_got, is_got_after_full, is_gone_after_closed, is_nothing_only_if_open, is_dropped_once}
use Rattle.oneshot_law_examples.specs.Notation.{Example, receiver, frees, without_block, carrying, replying, up_to, without, twice, put_behind, put_before, answered_by, unmoved_by, uncarried_by}
use Rattle.oneshot_law_examples.specs.Notation.{carried_by}
use Rattle.oneshot_law_examples.specs.HistoryExamples.{acting_in, is_legal_trace}
use Rattle.oneshot_law_examples.specs.LawExamples.{are_wakers_right, marks_in, is_block_right, are_lone_replies_right, fails_at, is_right}
use Rattle.oneshot_law_examples.specs.WaitExamples.{entries_by}
use Rattle.oneshot_law_examples.specs.TimedExamples.{received_by}
use Rattle.oneshot_law_examples.specs.UnwokenExamples.{up, aheads_by}
use Rattle.oneshot_law_examples.specs.FutureTraces.{dropped_while_finishing, dropped_once_finished, polled_while_finishing, copy_refused, polled_by_another_task, sent_before_pending}
use Rattle.oneshot_law_examples.specs.FutureTraces.{sent_while_polling, sent_while_replacing, dropped_while_pending, woken_then_ready, both_dropped_while_pending, tried_while_pending}
use Rattle.oneshot_law_examples.specs.FutureTraces.{tried_beside_a_drop, sent_to_one_that_left, dropped_to_one_that_left, polled_over_the_sender}

-- THE RUNS: each trace is that of its scripts under its moves
abbrev pub FuturesAreTold : Type 0
FuturesAreTold =
    (entries_by (Some P.NotSent) dropped_while_finishing ≡ dropped_while_finishing.entries)
    × (entries_by (Some P.NotSent) polled_while_finishing ≡ polled_while_finishing.entries)
    × (entries_by (Some P.NotSent) copy_refused ≡ copy_refused.entries)
    × (entries_by (Some P.NotSent) polled_by_another_task ≡ polled_by_another_task.entries)
    × (entries_by (Some P.NotSent) sent_before_pending ≡ sent_before_pending.entries)
    × (entries_by (Some P.NotSent) sent_while_polling ≡ sent_while_polling.entries)
    × (entries_by (Some P.NotSent) sent_while_replacing ≡ sent_while_replacing.entries)
    × (entries_by (Some P.NotSent) dropped_while_pending ≡ dropped_while_pending.entries)
    × (entries_by (Some P.NotSent) woken_then_ready ≡ woken_then_ready.entries)
    × (entries_by None both_dropped_while_pending ≡ both_dropped_while_pending.entries)
    × (entries_by (Some P.NotSent) tried_while_pending ≡ tried_while_pending.entries)
    × (entries_by None tried_beside_a_drop ≡ tried_beside_a_drop.entries)
    × (entries_by (Some P.NotSent) sent_to_one_that_left ≡ sent_to_one_that_left.entries)
    × (entries_by None dropped_to_one_that_left ≡ dropped_to_one_that_left.entries)
    × (entries_by (Some P.NotSent) polled_over_the_sender ≡ polled_over_the_sender.entries)
    -- a future never parks
    × (aheads_by (Some P.NotSent) polled_while_finishing ≡ replicate 19 up)

abbrev pub FuturesAreRight : Type 0
FuturesAreRight =
    IsTrue (list_all is_right
    (dropped_while_finishing
    ∷ dropped_once_finished
    ∷ polled_while_finishing
    ∷ copy_refused
    ∷ polled_by_another_task
    ∷ sent_before_pending
    ∷ sent_while_polling
    ∷ sent_while_replacing
    ∷ dropped_while_pending
    ∷ woken_then_ready
    ∷ both_dropped_while_pending
    ∷ tried_while_pending
    ∷ tried_beside_a_drop
    ∷ sent_to_one_that_left
    ∷ dropped_to_one_that_left
    ∷ polled_over_the_sender
    -- a poll that has not replied
    ∷ up_to 10 polled_while_finishing
    ∷ up_to 8 polled_by_another_task
    ∷ up_to 7 sent_before_pending
    ∷ []
    ))

-- A poll that replies "pending" at once though another waker is stored, or its own copy is refused, and
-- wakes nobody. Until the sender ends, every definition of `oneshot_laws` accepts it; `TaskExamples` has
-- it with a sender that ends. No run has it.
abbrev pub kept_the_old_waker : Example
kept_the_old_waker = answered_by 6 R.Pending (up_to 6 polled_by_another_task)

abbrev pub refused_and_silent : Example
refused_and_silent = answered_by 3 R.Pending (up_to 3 copy_refused)

abbrev pub NotTold : Type 0
NotTold =
    IsTrue (is_right kept_the_old_waker && is_right refused_and_silent)
    × (entries_by (Some P.NotSent) kept_the_old_waker ≡ (up_to 6 polled_by_another_task).entries)
    × (entries_by (Some P.NotSent) refused_and_silent ≡ (up_to 3 copy_refused).entries)
    -- no run has a drop that waits for its sender: under the same moves it leaves
    × (entries_by (Some P.NotSent) dropped_once_finished ≡ dropped_while_finishing.entries)

-- THE HISTORY: the numbers of the acting entries, in their order
abbrev pub PollsAct : Type 0
PollsAct =
    -- a poll that replies "pending" acts at its last operation on the word
    (acting_in dropped_once_finished ≡ 5 ∷ 11 ∷ 13 ∷ [])
    × (acting_in polled_over_the_sender ≡ 5 ∷ 8 ∷ [])
    × (acting_in polled_while_finishing ≡ 5 ∷ 10 ∷ 13 ∷ 16 ∷ [])
    × (acting_in copy_refused ≡ 2 ∷ [])
    × (acting_in polled_by_another_task ≡ 5 ∷ 11 ∷ 15 ∷ [])
    -- any other poll, also one that has not replied, where it finds what the sender left
    × (acting_in sent_before_pending ≡ 6 ∷ 7 ∷ [])
    × (acting_in (up_to 7 sent_before_pending) ≡ 6 ∷ 7 ∷ [])
    × (acting_in (up_to 8 polled_by_another_task) ≡ 5 ∷ [])
    × (acting_in dropped_while_pending ≡ 5 ∷ 9 ∷ 11 ∷ [])
    × (acting_in woken_then_ready ≡ 5 ∷ 9 ∷ 11 ∷ 12 ∷ 15 ∷ 16 ∷ 18 ∷ [])
    × (acting_in both_dropped_while_pending ≡ 5 ∷ 9 ∷ 10 ∷ [])
    -- a drop that leaves acts at its swap, and the sender's end after it at its last operation
    × (acting_in dropped_while_finishing ≡ 5 ∷ 9 ∷ 11 ∷ [])
    × (acting_in sent_to_one_that_left ≡ 5 ∷ 9 ∷ 11 ∷ [])
    × (acting_in dropped_to_one_that_left ≡ 5 ∷ 8 ∷ 10 ∷ [])
    -- a `try_recv` at its load
    × (acting_in tried_while_pending ≡ 5 ∷ 6 ∷ 9 ∷ 11 ∷ 13 ∷ [])
    × (acting_in tried_beside_a_drop ≡ 2 ∷ 6 ∷ 9 ∷ 10 ∷ 11 ∷ [])

abbrev pub IllegalPolls : Type 0
IllegalPolls =
    IsTrue (list_all (λ x. not (is_legal_trace x))
    -- "pending" over the message, which the exchange or the first load finds
    (answered_by 7 R.Pending (up_to 7 sent_before_pending)
    ∷ answered_by 10 R.Pending sent_before_pending
    ∷ answered_by 14 R.Pending woken_then_ready
    -- over a channel that is closed
    ∷ answered_by 15 R.Pending woken_then_ready
    -- nothing was there, and the poll replies "disconnected" or has a message
    ∷ answered_by 5 R.Disconnected dropped_once_finished
    ∷ answered_by 5 R.Message dropped_once_finished
    ∷ answered_by 4 R.Disconnected copy_refused
    -- a poll has another receive's reply for "nothing yet"
    ∷ answered_by 5 R.Empty dropped_once_finished
    ∷ answered_by 11 R.Timeout polled_while_finishing
    -- so does a `try_recv`, or it finds what is not there yet, or nothing after the sender ended
    ∷ answered_by 6 R.Pending tried_while_pending
    ∷ answered_by 9 R.Disconnected tried_while_pending
    ∷ answered_by 9 R.Message tried_while_pending
    ∷ answered_by 11 R.Empty tried_beside_a_drop
    -- a message is there, and the poll replies "disconnected"
    ∷ answered_by 10 R.Disconnected sent_before_pending
    -- `into_future` has another reply
    ∷ answered_by 1 R.Done dropped_once_finished
    ∷ answered_by 1 R.Pending copy_refused
    -- the future left before the last operation of a `send`, which replies "sent"
    ∷ answered_by 12 R.Sent sent_to_one_that_left
    ∷ answered_by 16 R.Sent dropped_while_finishing
    -- the sender's last swap, whose word the poll finds, is left out
    ∷ without 9 woken_then_ready
    ∷ []
    ))

-- THE WAKERS: each trace is refused by the path of one name, or by its place once all have ended
abbrev pub MisplacedCopies : Type 0
MisplacedCopies =
    IsTrue (list_all (λ x. not (are_wakers_right x.entries (marks_in x)))
    -- a copy is in two places: made twice, written twice, made under another's name
    (twice 3 dropped_once_finished
    ∷ twice 4 dropped_once_finished
    ∷ twice 10 polled_by_another_task
    ∷ carried_by 7 (Copy 1 3) W.New W.Hand polled_while_finishing
    -- the receiver drops it, and the sender takes it
    ∷ carried_by 10 (Copy 1 3) W.Cell W.Dropped polled_while_finishing
    ∷ carried_by 8 (Copy 1 3) W.Cell W.Dropped dropped_once_finished
    -- it is lost: by an exchange that failed, in a drop's withdrawal, by the sender
    ∷ uncarried_by 10 polled_while_finishing
    ∷ uncarried_by 8 dropped_while_pending
    ∷ uncarried_by 16 dropped_once_finished
    ∷ uncarried_by 10 woken_then_ready
    -- it is used twice, used by the receiver, or used after it was dropped
    ∷ twice 14 polled_while_finishing
    ∷ carried_by 9 (Copy 1 3) W.Cell W.Used polled_by_another_task
    ∷ carried_by 11 (Copy 2 7) W.SenderHand W.Used polled_while_finishing
    ∷ carried_by 16 (Copy 1 3) W.SenderHand W.Used polled_by_another_task
    -- it is never made, or comes back into the hand
    ∷ uncarried_by 3 dropped_once_finished
    ∷ carried_by 9 (Copy 1 3) W.Cell W.Hand (carried_by 10 (Copy 1 3) W.Cell W.Dropped polled_by_another_task)
    -- it is dropped by the sender, which wakes nobody
    ∷ carried_by 14 (Copy 1 3) W.SenderHand W.Dropped polled_while_finishing
    -- the parker's half is written in its place
    ∷ carried_by 4 Parker W.Hand W.Cell dropped_once_finished
    -- the sender uses it before it has it
    ∷ put_behind 16 10 dropped_once_finished
    ∷ []
    ))
    -- the first task's waker stays where the second's is written: only the law of the cell refuses it
    × IsTrue (list_all (λ x. are_wakers_right x.entries (marks_in x) && not (is_cell_kept x.entries))
    (uncarried_by 9 (up_to 10 polled_by_another_task) ∷ uncarried_by 9 polled_by_another_task ∷ []))

-- THE FREEING
-- the future's drop swaps over a sender that is about to finish, and frees the block
abbrev pub freed_over_the_sender : Example
freed_over_the_sender =
    record dropped_while_finishing {
      entries =
          take 8 dropped_while_finishing.entries
          ++ E.Made (receiver (T.Word (O.Swap DISCONNECTED)) 1 2)
          ∷ E.Made (replying R.Done (frees Receiver 2))
          ∷ E.Made (carrying (Copy 1 3) W.Cell W.SenderHand (without_block Sender T.TakeWaker))
          ∷ E.Made (without_block Sender (T.Word (O.Swap MESSAGE)))
          ∷ E.Made (replying R.Sent (carrying (Copy 1 3) W.SenderHand W.Used (without_block Sender T.Wake)))
          ∷ [];
    }

abbrev pub MisfreedFutures : Type 0
MisfreedFutures =
    IsTrue (list_all (λ x. not (is_block_right x))
    (freed_over_the_sender
    -- up to the sender's next step, and up to the free
    ∷ up_to 11 freed_over_the_sender
    ∷ up_to 10 freed_over_the_sender
    -- a sender that came late does not free, or frees twice
    ∷ without 12 (answered_by 11 R.Done dropped_to_one_that_left)
    ∷ without 14 (answered_by 13 R.Message sent_to_one_that_left)
    ∷ twice 12 dropped_to_one_that_left
    -- a drop frees before the sender's last operation, or not at all
    ∷ put_before 11 15 dropped_once_finished
    ∷ put_behind 15 11 dropped_once_finished
    ∷ without 15 (answered_by 14 R.Done dropped_once_finished)
    -- the block is freed twice, by the receiver or by the sender
    ∷ twice 15 dropped_once_finished
    ∷ twice 13 dropped_while_pending
    ∷ []
    ))

-- THE REPLIES
abbrev pub WrongPolls : Type 0
WrongPolls =
    -- "pending" though the object was never open in the call
    IsTrue (list_all (fails_at is_nothing_only_if_open)
    (answered_by 14 R.Pending woken_then_ready ∷ answered_by 15 R.Pending woken_then_ready ∷ []))
    -- a poll that has the message is followed by one that waits, or has it again
    × IsTrue (list_all (fails_at is_gone_after_got)
    (answered_by 15 R.Pending woken_then_ready ∷ answered_by 15 R.Message woken_then_ready ∷ []))
    -- the message was seen, and the next poll does not return it
    × IsTrue (list_all (fails_at is_got_after_full)
    (answered_by 14 R.Pending woken_then_ready ∷ answered_by 14 R.Disconnected woken_then_ready ∷ []))
    -- the channel was closed, and a poll waits
    × IsTrue (fails_at is_gone_after_closed
    (received_by (C.Of_receiver RC.IntoFuture ∷ C.Poll 1 ∷ C.Of_receiver RC.IsClosed ∷ C.Poll 1 ∷ C.Poll 1 ∷ [])
    (answered_by 15 R.Pending (up_to 15 woken_then_ready))))
    -- a message that nobody took is not dropped, or dropped twice
    × IsTrue (list_all (fails_at is_dropped_once)
    (unmoved_by 14 dropped_once_finished ∷ twice 14 dropped_once_finished ∷ []))
    -- a call that ran alone has another reply
    × IsTrue (list_all (λ x. not (are_lone_replies_right x))
    (answered_by 5 R.Disconnected (up_to 5 dropped_once_finished)
    ∷ answered_by 4 R.Disconnected copy_refused
    ∷ answered_by 14 R.Pending woken_then_ready
    ∷ answered_by 1 R.Done copy_refused
    ∷ []
    ))
