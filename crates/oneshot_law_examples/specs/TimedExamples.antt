-- The laws, computed for worked traces of calls with a deadline, and for the same traces damaged.
use Rattle.std.specs.Prelude.{◌≡◌, true, not, map, List, [], ◌∷◌, ◌++◌, Some, None, IsTrue}
use Rattle.std.specs.List.{list_all}
use Rattle.oneshot_machine.specs.declared.machine.Reply.{Reply}
use Rattle.oneshot_machine.specs.declared.machine.Reply.TheVariants as R
use Rattle.oneshot_machine.specs.declared.machine.Step.TheVariants as T
use Rattle.oneshot_machine.specs.declared.states.Op.TheVariants as O
use Rattle.oneshot_machine.specs.declared.machine.receiver.ReceiverStart.TheVariants as RC
use Rattle.oneshot_world.specs.Calls as C
use Rattle.oneshot_world.specs.Calls.{Call}
use Rattle.oneshot_world.specs.declared.trace.Entry.TheVariants as E
use Rattle.oneshot_world.specs.declared.trace.Place.TheVariants as P
use Rattle.oneshot_law_examples.specs.HistoryExamples.{acting_in, is_legal_trace}
use Rattle.oneshot_law_examples.specs.LawExamples.{are_wakers_right, marks_in, fails_at, is_right, are_lone_replies_right}
use Rattle.oneshot_laws.specs.Replies.{is_gone_after_got, is_got_after_full, is_gone_after_closed, is_nothing_only_if_open}
use Rattle.oneshot_law_examples.specs.Notation.{Example, receiver, replying, up_to, without, answered_by, uncarried_by}
use Rattle.oneshot_law_examples.specs.Traces.{waited_past_its_deadline, sent_at_its_deadline, ran_out_then_taken, never_ran_out, ran_out_then_dropped, sent_before_its_deadline}
use Rattle.oneshot_law_examples.specs.Traces.{dropped_at_its_deadline, tried_in_vain, looked_at_both_ends, closed_then_tried}
use Rattle.oneshot_law_examples.specs.WaitExamples.{entries_by}

-- THE RUNS: each trace is that of its scripts under its moves
abbrev pub TimedAreTold : Type 0
TimedAreTold =
    (entries_by (Some P.NotSent) waited_past_its_deadline ≡ waited_past_its_deadline.entries)
    × (entries_by (Some P.NotSent) sent_at_its_deadline ≡ sent_at_its_deadline.entries)
    × (entries_by (Some P.NotSent) ran_out_then_taken ≡ ran_out_then_taken.entries)
    × (entries_by None never_ran_out ≡ never_ran_out.entries)
    × (entries_by None ran_out_then_dropped ≡ ran_out_then_dropped.entries)
    × (entries_by (Some P.NotSent) sent_before_its_deadline ≡ sent_before_its_deadline.entries)
    × (entries_by None dropped_at_its_deadline ≡ dropped_at_its_deadline.entries)
    × (entries_by None tried_in_vain ≡ tried_in_vain.entries)

abbrev pub TimedAreRight : Type 0
TimedAreRight =
    IsTrue (list_all is_right
    (waited_past_its_deadline
    ∷ sent_at_its_deadline
    ∷ ran_out_then_taken
    ∷ up_to 10 ran_out_then_taken
    ∷ never_ran_out
    ∷ ran_out_then_dropped
    ∷ sent_before_its_deadline
    ∷ dropped_at_its_deadline
    ∷ tried_in_vain
    ∷ []
    ))

-- THE HISTORY: the numbers of the acting entries, in their order
abbrev pub TimedAct : Type 0
TimedAct =
    -- past its deadline a receive acts where it finds what the sender left
    (acting_in waited_past_its_deadline ≡ 11 ∷ 14 ∷ [])
    -- or at the swap that was to end its wait
    × (acting_in sent_at_its_deadline ≡ 8 ∷ 10 ∷ [])
    -- and at that swap too if it replies that nothing was there
    × (acting_in ran_out_then_taken ≡ 9 ∷ 12 ∷ 13 ∷ [])
    × (acting_in dropped_at_its_deadline ≡ 7 ∷ 9 ∷ [])
    × (acting_in ran_out_then_dropped ≡ 5 ∷ 7 ∷ 8 ∷ [])
    × (acting_in never_ran_out ≡ 9 ∷ 11 ∷ [])

abbrev pub IllegalTimeouts : Type 0
IllegalTimeouts =
    IsTrue (list_all (λ x. not (is_legal_trace x))
    -- a reply "timeout" over the message: found past the deadline, by the ending swap, at once
    (answered_by 16 R.Timeout waited_past_its_deadline
    ∷ answered_by 12 R.Timeout sent_at_its_deadline
    ∷ answered_by 10 R.Timeout (up_to 10 sent_at_its_deadline)
    ∷ answered_by 5 R.Timeout sent_before_its_deadline
    -- over a sender that is gone
    ∷ answered_by 11 R.Timeout never_ran_out
    ∷ answered_by 10 R.Timeout dropped_at_its_deadline
    -- a call has another call's reply for "nothing yet"
    ∷ answered_by 10 R.Empty ran_out_then_taken
    ∷ answered_by 1 R.Timeout tried_in_vain
    -- nothing was there, and the call replies "disconnected" or has a message
    ∷ answered_by 10 R.Disconnected ran_out_then_taken
    ∷ answered_by 10 R.Message ran_out_then_taken
    -- a receive whose timeout no instant can hold never replies "timeout"
    ∷ answered_by 6 R.Timeout (up_to 6 never_ran_out)
    -- the sender's last swap, whose word the receive finds, is left out
    ∷ without 11 waited_past_its_deadline
    ∷ []
    ))

-- THE REPLIES AND THE WAKERS
-- the same entries, of a receiver with these calls
abbrev pub received_by : List Call → Example → Example
received_by calls x = record x { calls = record x.calls { receiver = calls } }

-- a receive with a timeout gets the message, and the next one has this reply
abbrev pub received_in_time_then : Reply → Example
received_in_time_then reply =
    received_by (C.Of_receiver (RC.RecvTimeout true) ∷ C.Of_receiver (RC.RecvTimeout true) ∷ [])
    (record sent_before_its_deadline {
      entries = sent_before_its_deadline.entries ++ E.Made (replying reply (receiver (T.Word O.Load) 2 2)) ∷ [];
    })

abbrev pub WrongTimeouts : Type 0
WrongTimeouts =
    -- "nothing yet" though the object was never open in the call
    IsTrue (fails_at is_nothing_only_if_open (answered_by 5 R.Timeout sent_before_its_deadline))
    -- a receive that has the message is followed by one that runs out
    × IsTrue (fails_at is_gone_after_got
    (record sent_before_its_deadline {
      calls = record sent_before_its_deadline.calls {
        receiver = sent_before_its_deadline.calls.receiver ++ sent_before_its_deadline.calls.receiver;
      };
      entries = sent_before_its_deadline.entries ++ E.Made (replying R.Timeout (receiver (T.Word O.Load) 2 2)) ∷ [];
    }))
    -- the same of a receive with a timeout
    × IsTrue (list_all (fails_at is_gone_after_got) (map received_in_time_then (R.Empty ∷ R.Timeout ∷ R.Message ∷ [])))
    -- or replies that nothing was there after it was seen, or after the channel was closed
    × IsTrue (fails_at is_got_after_full
    (answered_by 6 R.Timeout (received_by
    (C.Of_receiver RC.IsClosed ∷ C.Of_receiver RC.HasMessage ∷ C.Of_receiver RC.RecvDeadline
    ∷ C.Of_receiver RC.IsClosed ∷ []) looked_at_both_ends))) × IsTrue (fails_at is_gone_after_closed
    (answered_by 3 R.Timeout (received_by
    (C.Of_receiver RC.IsClosed ∷ C.Of_receiver RC.RecvDeadline ∷ C.Of_receiver RC.IsClosed ∷ [])
    closed_then_tried)))
    -- a call that ran alone has another reply
    × IsTrue (list_all (λ x. not (are_lone_replies_right x))
    (answered_by 5 R.Timeout sent_before_its_deadline ∷ answered_by 10 R.Disconnected ran_out_then_taken ∷ []))
    -- the parker's half is not taken back at the end of the wait
    × IsTrue (not (are_wakers_right (uncarried_by 6 ran_out_then_dropped).entries
    (marks_in (uncarried_by 6 ran_out_then_dropped))))
