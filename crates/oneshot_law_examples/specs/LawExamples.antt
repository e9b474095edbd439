-- The laws, computed for worked traces, and for the same traces damaged.
use Rattle.std.specs.Prelude.{Bool, not, ◌&&◌, List, [], ◌∷◌, ◌++◌, take, IsTrue}
use Rattle.std.specs.List.{list_all}
use Rattle.oneshot_machine.specs.declared.machine.End.TheVariants.{Sender, Receiver}
use Rattle.oneshot_machine.specs.declared.machine.Reply.TheVariants as R
use Rattle.oneshot_machine.specs.declared.machine.Step.TheVariants as T
use Rattle.oneshot_machine.specs.declared.states.Op.TheVariants as O
use Rattle.oneshot_world.specs.declared.trace.Entry.TheVariants as E
use Rattle.oneshot_world.specs.Wakers.{WakerMove}
use Rattle.oneshot_world.specs.declared.trace.Entry.{Entry}
use Rattle.oneshot_world.specs.declared.trace.WakerName.{WakerName}
use Rattle.oneshot_world.specs.declared.trace.WakerName.TheVariants.{Parker}
use Rattle.oneshot_world.specs.declared.trace.Place.TheVariants as P
use Rattle.oneshot_laws.specs.Marks.{Mark, marks}
use Rattle.oneshot_laws.specs.History.{has_legal_history}
use Rattle.oneshot_laws.specs.MessagePlaces.{is_message_followed, is_message_ended, is_message_put, is_message_there}
use Rattle.oneshot_laws.specs.WakerPlaces.{waker_moves, is_waker_followed, is_waker_ended, is_cell_kept}
use Rattle.oneshot_laws.specs.Holders.{is_freed_right}
use Rattle.oneshot_laws.specs.Replies.{is_gone_after_got, is_got_after_full, is_gone_after_closed, is_refused_after_closed, is_nothing_only_if_open, is_dropped_once}
use Rattle.oneshot_laws.specs.Alone.{are_lone_calls_right}
use Rattle.oneshot_law_examples.specs.Notation.{Example, without, exchanged, twice, answered_by, unmoved_by, moved_by, finding_at, operating_at, up_to, sender, frees}
use Rattle.oneshot_law_examples.specs.FutureTraces.{dropped_while_finishing, sent_to_one_that_left}
use Rattle.oneshot_law_examples.specs.Traces.{sent_then_taken, nothing_moved, nothing_to_do, sent_to_nobody, both_dropped, dropped_then_tried, looked_at_both_ends, taken_from_the_error}
use Rattle.oneshot_law_examples.specs.Traces.{dropped_with_the_error, dropped_unread, tried_again, closed_then_tried, sent_though_closed, received_at_once, waited_for_message, sent_before_waiting}
use Rattle.oneshot_law_examples.specs.Traces.{dropped_before_waiting, woken_by_drop, still_waiting}

abbrev pub marks_in : Example → List Mark
marks_in x = marks x.calls x.entries

abbrev pub fails_at : (List Mark → Bool) → Example → Bool
fails_at law x = not (law (marks_in x))

-- THE MESSAGE'S PLACE
abbrev pub is_message_right : Example → Bool
is_message_right x =
    is_message_followed x.calls x.entries
    && is_message_ended x.entries (marks_in x)
    && is_message_put (marks_in x)
    && is_message_there (marks_in x)

abbrev pub MisplacedMessages : Type 0
MisplacedMessages =
    IsTrue (list_all (λ x. not (is_message_right x))
    -- a move of the message is left out: into the cell, to the error, out of the error, to the receiver
    (unmoved_by 1 sent_then_taken
    ∷ unmoved_by 3 taken_from_the_error
    ∷ unmoved_by 5 taken_from_the_error
    ∷ unmoved_by 5 sent_then_taken
    -- a late `send` leaves the message in the cell: its error lacks it, and after "sent" nobody gets it
    ∷ unmoved_by 12 sent_to_one_that_left
    ∷ unmoved_by 16 (answered_by 16 R.Sent dropped_while_finishing)
    -- all are left out: a message that was sent has never left the script
    ∷ unmoved_by 1 (unmoved_by 5 sent_then_taken)
    -- it moves twice, from elsewhere, or as no message may
    ∷ twice 5 sent_then_taken
    ∷ moved_by 5 P.InError P.Delivered sent_then_taken
    ∷ moved_by 5 P.InCell P.FromError sent_then_taken
    ∷ moved_by 4 P.InError P.Delivered dropped_with_the_error
    -- there is no message to send
    ∷ moved_by 1 P.NotSent P.InCell dropped_then_tried
    ∷ []
    ))

-- each path is allowed for a message, but its last move is of the wrong call
abbrev pub WronglyPut : Type 0
WronglyPut =
    IsTrue (list_all (fails_at is_message_put)
    -- a receive drops it; a drop of the error takes it out; a drop of the receiver delivers it; `into_inner` drops it
    (moved_by 5 P.InCell P.Dropped sent_then_taken
    ∷ moved_by 4 P.InError P.FromError dropped_with_the_error
    ∷ moved_by 4 P.InCell P.Delivered dropped_unread
    ∷ moved_by 5 P.InError P.Dropped taken_from_the_error
    -- the sender's drop fills the cell
    ∷ moved_by 1 P.NotSent P.InCell dropped_then_tried
    -- an accepted send moves it into an error
    ∷ up_to 3 (answered_by 3 R.Sent dropped_with_the_error)
    ∷ []
    ))

-- each path is allowed for a message, and each move is of a call that may make it, but a reply has it elsewhere
abbrev pub WronglyReplied : Type 0
WronglyReplied =
    IsTrue (list_all (fails_at is_message_there)
    -- a receive returns the message, which stays in the cell; or which the drop of the receiver then drops
    (up_to 5 (unmoved_by 5 sent_then_taken)
    ∷ moved_by 7 P.InCell P.Dropped (unmoved_by 5 sent_then_taken)
    -- a send is refused while the message is in the cell
    ∷ up_to 3 (unmoved_by 3 taken_from_the_error)
    -- `into_inner` returns the message, which stays in the error
    ∷ up_to 6 (unmoved_by 5 taken_from_the_error)
    ∷ []
    ))

-- THE FREEING
abbrev pub is_block_right : Example → Bool
is_block_right x = is_freed_right (marks_in x)

abbrev pub MisfreedBlocks : Type 0
MisfreedBlocks =
    IsTrue (list_all (λ x. not (is_block_right x))
    -- an entry is moved behind the free
    (exchanged 6 sent_then_taken
    ∷ exchanged 4 dropped_unread
    -- a second free
    ∷ twice 7 sent_then_taken
    ∷ record sent_then_taken { entries = sent_then_taken.entries ++ E.Made (frees Sender 2) ∷ [] }
    -- a free while the other end still holds
    ∷ record sent_then_taken { entries = take 1 sent_then_taken.entries ++ E.Made (frees Receiver 3) ∷ [] }
    -- the sender uses the block after it let go of it
    ∷ record sent_then_taken { entries = take 2 sent_then_taken.entries ++ E.Made (sender (T.Word O.Load) 4 4) ∷ [] }
    -- neither end frees
    ∷ answered_by 6 R.Done (without 7 sent_then_taken)
    ∷ answered_by 2 R.Done (without 3 both_dropped)
    ∷ answered_by 5 R.Message (without 6 taken_from_the_error)
    ∷ []
    ))

-- THE REPLIES
abbrev pub are_replies_right : Example → Bool
are_replies_right x =
    is_gone_after_got (marks_in x)
    && is_got_after_full (marks_in x)
    && is_gone_after_closed (marks_in x)
    && is_refused_after_closed (marks_in x)
    && is_nothing_only_if_open (marks_in x)
    && is_dropped_once (marks_in x)

abbrev pub WrongReplies : Type 0
WrongReplies =
    -- a receive has another reply after the message was received
    IsTrue (list_all (fails_at is_gone_after_got)
    (answered_by 6 R.Empty tried_again ∷ answered_by 6 R.Message tried_again ∷ []))
    -- a receive does not return the message that was seen
    × IsTrue (list_all (fails_at is_got_after_full)
    (answered_by 8 R.Disconnected looked_at_both_ends ∷ answered_by 6 R.Empty looked_at_both_ends ∷ []))
    -- after it was closed, nothing was there yet, or it was open again
    × IsTrue (list_all (fails_at is_gone_after_closed)
    (answered_by 3 R.Empty closed_then_tried ∷ answered_by 4 R.No closed_then_tried ∷ []))
    -- a send is accepted though the receiver was gone
    × IsTrue (fails_at is_refused_after_closed (answered_by 4 R.Sent sent_though_closed))
    -- "nothing yet" though the message was there, or the sender gone
    × IsTrue (list_all (fails_at is_nothing_only_if_open)
    (answered_by 5 R.Empty sent_then_taken ∷ answered_by 2 R.Empty dropped_then_tried ∷ []))
    -- an unread message is never dropped, or twice
    × IsTrue (list_all (fails_at is_dropped_once)
    (unmoved_by 4 dropped_unread ∷ moved_by 5 P.InCell P.Dropped dropped_unread ∷ []))
    -- or by the send
    × IsTrue (fails_at is_dropped_once (moved_by 2 P.InCell P.Dropped (unmoved_by 4 dropped_unread)))

-- CALLS ALONE
abbrev pub are_lone_replies_right : Example → Bool
are_lone_replies_right x = are_lone_calls_right (marks_in x)

abbrev pub WrongAlone : Type 0
WrongAlone =
    IsTrue (list_all (λ x. not (are_lone_replies_right x))
    -- a look has a wrong reply
    (answered_by 1 R.Yes looked_at_both_ends
    ∷ answered_by 5 R.No looked_at_both_ends
    ∷ answered_by 9 R.No looked_at_both_ends
    -- a send, a receive and an error's call have wrong replies
    ∷ answered_by 2 R.Refused sent_then_taken
    ∷ answered_by 5 R.Disconnected sent_then_taken
    ∷ answered_by 6 R.Done taken_from_the_error
    -- a receive returns the message and leaves it there
    ∷ finding_at 3 1 (finding_at 4 1 sent_then_taken)
    -- the receiver is still there after its drop, and the sender after its send
    ∷ operating_at 3 O.Load 2 2 dropped_then_tried
    ∷ operating_at 3 O.Load 2 2 sent_to_nobody
    ∷ []
    ))

-- `AreWakersRight`, computed: for the parker's half, and for each waker that the trace moves
abbrev pub is_waker_right : List Entry → List Mark → WakerName → Bool
is_waker_right entries ms name = is_waker_followed entries name && is_waker_ended entries ms name

abbrev pub are_wakers_right : List Entry → List Mark → Bool
are_wakers_right entries ms =
    is_waker_right entries ms Parker
    && list_all (λ (move : WakerMove). is_waker_right entries ms move.0) (waker_moves entries)

-- WORKED TRACES
abbrev pub are_wakers_kept : Example → Bool
are_wakers_kept x = are_wakers_right x.entries (marks_in x) && is_cell_kept x.entries

abbrev pub is_right : Example → Bool
is_right x =
    has_legal_history (marks_in x)
    && is_message_right x
    && are_wakers_kept x
    && is_block_right x
    && are_replies_right x
    && are_lone_replies_right x

abbrev pub RightTraces : Type 0
RightTraces =
    IsTrue (list_all is_right
    (sent_then_taken
    ∷ nothing_moved
    ∷ nothing_to_do
    ∷ sent_to_nobody
    ∷ both_dropped
    ∷ dropped_then_tried
    ∷ looked_at_both_ends
    ∷ taken_from_the_error
    ∷ dropped_with_the_error
    ∷ dropped_unread
    ∷ tried_again
    ∷ closed_then_tried
    ∷ sent_though_closed
    ∷ received_at_once
    ∷ waited_for_message
    ∷ sent_before_waiting
    ∷ dropped_before_waiting
    ∷ woken_by_drop
    ∷ still_waiting
    ∷ []
    ))
