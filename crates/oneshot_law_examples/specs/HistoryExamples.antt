-- The object's answers, acting entries, histories and idle ends, computed for worked and for damaged traces.
use Rattle.std.specs.Prelude.{◌≡◌, ℕ, Bool, not, List, [], ◌∷◌, ◌++◌, map, take, IsTrue}
use Rattle.std.specs.List.{list_all}
use Rattle.oneshot_machine.specs.declared.machine.End.TheVariants.{Sender, Receiver}
use Rattle.oneshot_machine.specs.declared.machine.Reply.TheVariants as R
use Rattle.oneshot_machine.specs.declared.machine.Step.TheVariants as T
use Rattle.oneshot_machine.specs.declared.states.Op.TheVariants as O
use Rattle.oneshot_machine.specs.declared.states.TheConstants.{EMPTY}
use Rattle.oneshot_world.specs.declared.trace.Entry.TheVariants as E
use Rattle.oneshot_laws.specs.Object.{Action, Send, Sender_gone, Take, Take_and_go, Look_receiver_gone, Receiver_gone, Answer, Accepted, Returned, Message, Gone, Nothing_yet, Yes, Finished, Object}
use Rattle.oneshot_laws.specs.Object.{new_object, object_after, answer_of}
use Rattle.oneshot_laws.specs.Marks.{marks}
use Rattle.oneshot_laws.specs.History.{history, has_legal_history}
use Rattle.oneshot_laws.specs.Idle.{is_idle_right}
use Rattle.oneshot_law_examples.specs.Notation.{Example, sender, without, exchanged, answered_by, operating_at}
use Rattle.oneshot_law_examples.specs.Traces.{sent_then_taken, nothing_moved, nothing_to_do, sent_to_nobody, both_dropped, dropped_then_tried, taken_from_the_error, dropped_with_the_error}

-- THE OBJECT: the answers of these steps, in order
abbrev pub answers_from : Object → List Action → List Answer
answers_from o [] = []
answers_from o (action ∷ actions) = answer_of action o ∷ answers_from (object_after action o) actions

abbrev pub ObjectAnswers : Type 0
ObjectAnswers =
    (answers_from new_object (Take ∷ Send ∷ Take ∷ Take ∷ []) ≡ Nothing_yet ∷ Accepted ∷ Message ∷ Gone ∷ [])
    × (answers_from new_object (Receiver_gone ∷ Send ∷ []) ≡ Finished ∷ Returned ∷ [])
    × (answers_from new_object (Sender_gone ∷ Take ∷ Receiver_gone ∷ []) ≡ Finished ∷ Gone ∷ Finished ∷ [])
    × (answers_from new_object (Send ∷ Receiver_gone ∷ Take ∷ []) ≡ Accepted ∷ Finished ∷ Gone ∷ [])
    × (answers_from new_object (Send ∷ Take_and_go ∷ Look_receiver_gone ∷ []) ≡ Accepted ∷ Message ∷ Yes ∷ [])
    × (answers_from new_object (Sender_gone ∷ Take_and_go ∷ []) ≡ Finished ∷ Gone ∷ [])
    -- a refused message does not fill the channel
    × (answers_from new_object (Receiver_gone ∷ Send ∷ Take ∷ []) ≡ Finished ∷ Returned ∷ Nothing_yet ∷ [])

-- THE HISTORY: the numbers of the acting entries, in their order
abbrev pub acting_in : Example → List ℕ
acting_in x = map (λ m. m.number) (history (marks x.calls x.entries))

abbrev pub ActingEntries : Type 0
ActingEntries =
    (acting_in sent_then_taken ≡ 2 ∷ 3 ∷ 6 ∷ [])
    × (acting_in nothing_to_do ≡ [])
    × (acting_in sent_to_nobody ≡ 1 ∷ 3 ∷ [])
    × (acting_in both_dropped ≡ 1 ∷ 2 ∷ [])
    × (acting_in dropped_then_tried ≡ 1 ∷ 2 ∷ 3 ∷ [])
    -- a `try_recv` that has not replied acts at its load
    × (acting_in (record sent_then_taken { entries = take 3 sent_then_taken.entries }) ≡ 2 ∷ 3 ∷ [])

abbrev pub is_legal_trace : Example → Bool
is_legal_trace x = has_legal_history (marks x.calls x.entries)

abbrev pub LegalTraces : Type 0
LegalTraces =
    IsTrue (list_all is_legal_trace
    (sent_then_taken
    ∷ nothing_moved
    ∷ nothing_to_do
    ∷ sent_to_nobody
    ∷ both_dropped
    ∷ dropped_then_tried
    ∷ []
    ))

abbrev pub IllegalTraces : Type 0
IllegalTraces =
    IsTrue (list_all (λ x. not (is_legal_trace x))
    -- an entry is taken out: the add, the receiver's drop, the xor
    (without 2 sent_then_taken
    ∷ without 1 sent_to_nobody
    ∷ without 2 both_dropped
    ∷ without 1 dropped_then_tried
    -- two entries are exchanged
    ∷ exchanged 2 sent_then_taken
    ∷ exchanged 2 sent_to_nobody
    ∷ exchanged 2 both_dropped
    ∷ exchanged 1 dropped_then_tried
    -- a reply is changed
    ∷ answered_by 2 R.Refused sent_then_taken
    ∷ answered_by 5 R.Disconnected sent_then_taken
    ∷ answered_by 5 R.Empty sent_then_taken
    ∷ answered_by 3 R.Sent sent_to_nobody
    ∷ answered_by 1 R.Message both_dropped
    ∷ answered_by 3 R.Refused both_dropped
    ∷ answered_by 2 R.Empty dropped_then_tried
    ∷ answered_by 2 R.Message dropped_then_tried
    -- the error's calls have other replies than their fixed ones
    ∷ answered_by 4 R.Done taken_from_the_error
    ∷ answered_by 6 R.Done taken_from_the_error
    ∷ answered_by 5 R.Message dropped_with_the_error
    -- the receiver's drop leaves the channel open
    ∷ operating_at 1 (O.Swap EMPTY) 3 3 both_dropped
    -- a step of no call
    ∷ record nothing_to_do { entries = E.Made (sender T.WriteMessage 3 3) ∷ [] }
    ∷ []
    ))

-- IDLE ENDS
abbrev pub is_idle_trace : Example → Bool
is_idle_trace x = is_idle_right x.calls x.entries

-- an end is idle though it has a call under way, or one left
abbrev pub NotIdleTraces : Type 0
NotIdleTraces =
    IsTrue (list_all (λ x. not (is_idle_trace x))
    (record nothing_moved { entries = E.Idle Sender ∷ [] }
    ∷ record sent_then_taken { entries = take 1 sent_then_taken.entries ++ E.Idle Sender ∷ [] }
    ∷ record sent_then_taken { entries = take 5 sent_then_taken.entries ++ E.Idle Receiver ∷ [] }
    ∷ []
    ))

abbrev pub IdleTraces : Type 0
IdleTraces =
    IsTrue (list_all is_idle_trace
    (sent_then_taken
    ∷ nothing_to_do
    ∷ record sent_to_nobody { entries = sent_to_nobody.entries ++ E.Idle Sender ∷ E.Idle Receiver ∷ [] }
    ∷ []
    ))
