-- The bounds, computed for worked traces that reach them, and for the same traces with one operation or move more.
use Rattle.std.specs.Prelude.{Bool, not, ◌&&◌, [], ◌∷◌, IsTrue}
use Rattle.std.specs.List.{list_all}
use Rattle.oneshot_machine.specs.declared.machine.Reply.TheVariants as R
use Rattle.oneshot_machine.specs.declared.machine.Step.TheVariants as T
use Rattle.oneshot_machine.specs.declared.machine.receiver.ReceiverStart.TheVariants as RC
use Rattle.oneshot_machine.specs.declared.machine.sender.SenderCall.TheVariants as SC
use Rattle.oneshot_machine.specs.declared.states.Op.TheVariants as O
use Rattle.oneshot_world.specs.Calls as C
use Rattle.oneshot_world.specs.declared.trace.Entry.TheVariants as E
use Rattle.oneshot_laws.specs.Bounds.{are_calls_bounded, is_soon_answered}
use Rattle.oneshot_law_examples.specs.Notation.{Example, sender, receiver, replying, twice}
use Rattle.oneshot_law_examples.specs.LawExamples.{marks_in}
use Rattle.oneshot_law_examples.specs.Traces.{sent_then_taken, waited_for_message, sent_before_waiting, woken_by_drop, sent_at_its_deadline}
use Rattle.oneshot_law_examples.specs.FutureTraces.{dropped_while_finishing, dropped_once_finished, polled_while_finishing, sent_while_polling, sent_while_replacing, dropped_while_pending}
use Rattle.oneshot_law_examples.specs.FutureTraces.{both_dropped_while_pending, tried_while_pending, sent_to_one_that_left, dropped_to_one_that_left, polled_over_the_sender}

abbrev pub is_bounded_in : Example → Bool
is_bounded_in x = are_calls_bounded (marks_in x)

abbrev pub is_soon_in : Example → Bool
is_soon_in x = is_soon_answered (marks_in x)

abbrev pub WithinBounds : Type 0
WithinBounds =
    IsTrue (list_all (λ x. is_bounded_in x && is_soon_in x)
    (sent_then_taken
    ∷ waited_for_message
    ∷ sent_before_waiting
    ∷ woken_by_drop
    ∷ sent_at_its_deadline
    ∷ dropped_while_finishing
    ∷ polled_while_finishing
    ∷ sent_while_polling
    ∷ sent_while_replacing
    ∷ dropped_while_pending
    ∷ both_dropped_while_pending
    ∷ tried_while_pending
    ∷ sent_to_one_that_left
    ∷ dropped_to_one_that_left
    ∷ polled_over_the_sender
    -- a future's drop may find 1 once before its swap
    ∷ twice 8 dropped_while_finishing
    ∷ []
    ))

-- one operation more: of a send, a sender's drop, a `try_recv`, a poll, a future's drop and a future's `try_recv`
abbrev pub OneOperationMore : Type 0
OneOperationMore =
    IsTrue (not (is_bounded_in (twice 9 waited_for_message)))
    × IsTrue (not (is_bounded_in (twice 9 both_dropped_while_pending)))
    × IsTrue (not (is_bounded_in (twice 3 sent_then_taken)))
    × IsTrue (not (is_bounded_in (twice 6 sent_while_replacing)))
    × IsTrue (not (is_bounded_in (twice 6 dropped_while_pending)))
    × IsTrue (not (is_bounded_in (twice 13 tried_while_pending)))
    -- and not twice, as a drop that waits for the sender does
    × IsTrue (not (is_bounded_in (twice 8 (twice 8 dropped_while_finishing))))
    × IsTrue (not (is_bounded_in dropped_once_finished))

-- S drop
-- R try ref
-- a damaged trace: the receive loads once more before it replies
abbrev pub tried_then_received : Example
tried_then_received =
    record {
      calls = record {
        sender = C.Of_sender SC.Drop ∷ [];
        error = [];
        receiver = C.Of_receiver RC.TryRecv ∷ C.Of_receiver RC.RecvRef ∷ [];
      };
      entries =
          E.Made (replying R.Done (sender (T.Word O.Xor) 3 2))
          ∷ E.Made (replying R.Disconnected (receiver (T.Word O.Load) 2 2))
          ∷ E.Made (receiver (T.Word O.Load) 2 2)
          ∷ E.Made (replying R.Disconnected (receiver (T.Word O.Load) 2 2))
          ∷ [];
    }

-- once the sender is done: two operations and six moves are allowed, and one more of either is not
abbrev pub OneMoveMore : Type 0
OneMoveMore =
    IsTrue (is_soon_in (twice 11 waited_for_message) && not (is_soon_in (twice 11 (twice 11 waited_for_message))))
    × IsTrue (not (is_soon_in (twice 7 sent_while_polling)))
    × IsTrue (not (is_soon_in (twice 5 sent_while_polling)))
    -- also of a call that follows another one
    × IsTrue (is_soon_in tried_then_received && not (is_soon_in (twice 3 tried_then_received)))
