-- The laws, computed for worked traces of calls that wait, and for the same traces damaged.
use Rattle.std.specs.Prelude.{◌≡◌, ℕ, ◌+◌, not, List, [], ◌∷◌, ◌++◌, take, Option, Some, None, IsTrue}
use Rattle.std.specs.List.{list_all}
use Rattle.oneshot_machine.specs.declared.machine.End.TheVariants.{Sender, Receiver}
use Rattle.oneshot_machine.specs.declared.machine.Reply.{Reply}
use Rattle.oneshot_machine.specs.declared.machine.Reply.TheVariants as R
use Rattle.oneshot_machine.specs.declared.machine.Step.TheVariants as T
use Rattle.oneshot_machine.specs.declared.states.Op.TheVariants as O
use Rattle.oneshot_machine.specs.declared.machine.receiver.ReceiverStart.TheVariants as RC
use Rattle.oneshot_machine.specs.declared.machine.sender.SenderCall.TheVariants as SC
use Rattle.oneshot_world.specs.Calls as C
use Rattle.oneshot_world.specs.World.{World, opening_with, turn}
use Rattle.oneshot_world.specs.declared.trace.Entry.{Entry}
use Rattle.oneshot_world.specs.declared.trace.Entry.TheVariants as E
use Rattle.oneshot_world.specs.declared.trace.Place.{Place}
use Rattle.oneshot_world.specs.declared.trace.Place.TheVariants as P
use Rattle.oneshot_world.specs.declared.trace.WakerName.TheVariants.{Parker}
use Rattle.oneshot_world.specs.declared.trace.WakerPlace.TheVariants as W
use Rattle.oneshot_laws.specs.Replies.{is_gone_after_got, is_gone_after_closed}
use Rattle.oneshot_law_examples.specs.Notation.{Example, move_in, sender, receiver, frees, without_block, carrying, setting_token, replying, up_to, without, exchanged, put_behind, answered_by}
use Rattle.oneshot_law_examples.specs.Traces.{received_at_once, waited_for_message, sent_before_waiting, dropped_before_waiting, woken_by_drop, still_waiting}
use Rattle.oneshot_law_examples.specs.HistoryExamples.{acting_in, is_legal_trace}
use Rattle.oneshot_law_examples.specs.LawExamples.{is_block_right, are_lone_replies_right, fails_at, is_right}

-- THE RUNS: each trace is that of its scripts under its moves
abbrev pub entries_from : ℕ → World → List Entry → List Entry
entries_from n w [] = []
entries_from n w (entry ∷ entries) =
    elim (turn n w (move_in entry)) [ None ↦ [] | Some made ↦ made.0 ∷ entries_from (n + 1) made.1 entries ]

abbrev pub entries_by : Option Place → Example → List Entry
entries_by message x = entries_from 1 (opening_with message x.calls) x.entries

abbrev pub WaitsAreTold : Type 0
WaitsAreTold =
    (entries_by (Some P.NotSent) received_at_once ≡ received_at_once.entries)
    × (entries_by (Some P.NotSent) waited_for_message ≡ waited_for_message.entries)
    × (entries_by (Some P.NotSent) sent_before_waiting ≡ sent_before_waiting.entries)
    × (entries_by None dropped_before_waiting ≡ dropped_before_waiting.entries)
    × (entries_by None woken_by_drop ≡ woken_by_drop.entries)
    × (entries_by (Some P.NotSent) still_waiting ≡ still_waiting.entries)

-- THE HISTORY: the numbers of the acting entries, in their order
abbrev pub WaitsAct : Type 0
WaitsAct =
    (acting_in received_at_once ≡ 2 ∷ 3 ∷ [])
    × (acting_in waited_for_message ≡ 9 ∷ 11 ∷ [])
    × (acting_in sent_before_waiting ≡ 4 ∷ 5 ∷ [])
    × (acting_in dropped_before_waiting ≡ 3 ∷ 4 ∷ [])
    × (acting_in woken_by_drop ≡ 6 ∷ 9 ∷ 10 ∷ [])
    × (acting_in still_waiting ≡ [])
    -- a send that found a waker has not acted before its final swap
    × (acting_in (up_to 8 waited_for_message) ≡ [])
    -- a `recv` that has not replied acts where it found the message
    × (acting_in (up_to 11 waited_for_message) ≡ 9 ∷ 11 ∷ [])

abbrev pub IllegalWaits : Type 0
IllegalWaits =
    IsTrue (list_all (λ x. not (is_legal_trace x))
    -- an entry is taken out: the final swap, the load that finds what it left, the add, the swap that finds the message
    (without 9 waited_for_message
    ∷ without 11 waited_for_message
    ∷ without 4 sent_before_waiting
    ∷ without 5 sent_before_waiting
    ∷ without 6 woken_by_drop
    ∷ without 9 woken_by_drop
    -- a receive acts before the send, or before the drop
    ∷ exchanged 10 (exchanged 9 waited_for_message)
    ∷ exchanged 4 sent_before_waiting
    ∷ exchanged 3 dropped_before_waiting
    -- the drop's swap comes within the receive before it
    ∷ put_behind 10 9 woken_by_drop
    -- a reply is changed
    ∷ answered_by 13 R.Empty waited_for_message
    ∷ answered_by 13 R.Sent waited_for_message
    ∷ answered_by 13 R.Disconnected waited_for_message
    ∷ answered_by 14 R.Refused waited_for_message
    ∷ answered_by 8 R.Empty sent_before_waiting
    ∷ answered_by 8 R.Disconnected sent_before_waiting
    ∷ answered_by 6 R.Message dropped_before_waiting
    ∷ answered_by 9 R.Empty woken_by_drop
    ∷ answered_by 9 R.Message woken_by_drop
    -- "nothing yet" is no reply of these calls
    ∷ answered_by 1 R.Empty (up_to 1 still_waiting)
    ∷ record {
      calls = record { sender = []; error = []; receiver = C.Of_receiver RC.Recv ∷ [] };
      entries = E.Made (replying R.Empty (receiver (T.Word O.Load) 3 3)) ∷ [];
    }
    -- after a `recv` the receiver has no other call
    ∷ record received_at_once {
      entries = received_at_once.entries ++ E.Made (replying R.Disconnected (without_block Receiver T.Plain)) ∷ [];
    }
    ∷ []
    ))

-- THE FREEING
abbrev pub MisfreedWaits : Type 0
MisfreedWaits =
    IsTrue (list_all (λ x. not (is_block_right x))
    -- the receiver frees before it takes, or before its drop
    (exchanged 12 waited_for_message
    ∷ exchanged 10 woken_by_drop
    -- a waker is written, or withdrawn, after the free
    ∷ put_behind 6 2 dropped_before_waiting
    ∷ put_behind 6 5 dropped_before_waiting
    -- the sender uses the block after the receiver's free
    ∷ put_behind 13 4 waited_for_message
    ∷ put_behind 13 6 waited_for_message
    ∷ put_behind 13 9 waited_for_message
    ∷ put_behind 6 3 dropped_before_waiting
    -- the sender frees too, after its wake or in its place
    ∷ record waited_for_message { entries = waited_for_message.entries ++ E.Made (without_block Sender T.Free) ∷ [] }
    ∷ record waited_for_message {
      entries = take 13 waited_for_message.entries ++ E.Made (replying R.Sent (without_block Sender T.Free)) ∷ [];
    }
    -- the sender frees after its wake, while the receiver holds
    ∷ record woken_by_drop {
      entries = take 6 woken_by_drop.entries
          ++ E.Made (setting_token (carrying Parker W.SenderHand W.Used (sender T.Wake 2 2)))
          ∷ E.Made (replying R.Done (frees Sender 2)) ∷ [];
    }
    -- the receiver frees while the sender still holds
    ∷ record waited_for_message {
      entries = take 8 waited_for_message.entries ++ E.Made (replying R.Disconnected (frees Receiver 1)) ∷ [];
    }
    -- neither end frees
    ∷ answered_by 12 R.Message (without 13 waited_for_message)
    ∷ answered_by 5 R.Disconnected (without 6 dropped_before_waiting)
    ∷ []
    ))
    -- the wake does not use the block: it may come before the free or after it
    × IsTrue (list_all is_right (waited_for_message ∷ exchanged 13 waited_for_message ∷ []))

-- THE REPLIES
abbrev pub received_twice : Reply → Example
received_twice reply =
    record {
      calls = record {
        sender = C.Of_sender SC.Send ∷ [];
        error = [];
        receiver = C.Of_receiver RC.RecvRef ∷ C.Of_receiver RC.RecvRef ∷ [];
      };
      entries = sent_before_waiting.entries ++ E.Made (replying reply (receiver (T.Word O.Load) 2 2)) ∷ [];
    }

abbrev pub closed_then_received : Reply → Example
closed_then_received reply =
    record {
      calls = record {
        sender = C.Of_sender SC.Drop ∷ [];
        error = [];
        receiver = C.Of_receiver RC.IsClosed ∷ C.Of_receiver RC.Recv ∷ [];
      };
      entries =
          E.Made (replying R.Done (sender (T.Word O.Xor) 3 2))
          ∷ E.Made (replying R.Yes (receiver (T.Word O.Load) 2 2))
          ∷ E.Made (receiver (T.Word O.Load) 2 2)
          ∷ E.Made (replying reply (frees Receiver 2))
          ∷ [];
    }

abbrev pub WrongReceives : Type 0
WrongReceives =
    IsTrue (list_all is_right (received_twice R.Disconnected ∷ closed_then_received R.Disconnected ∷ []))
    -- a receive has another reply after the message was received, or after the channel was closed
    × IsTrue (list_all (fails_at is_gone_after_got) (received_twice R.Message ∷ received_twice R.Empty ∷ []))
    × IsTrue (list_all (fails_at is_gone_after_closed)
    (closed_then_received R.Message ∷ closed_then_received R.Empty ∷ []))
    -- a call that ran alone has another reply
    × IsTrue (list_all (λ x. not (are_lone_replies_right x))
    (answered_by 5 R.Empty received_at_once
    ∷ answered_by 5 R.Disconnected received_at_once
    ∷ answered_by 4 R.Refused sent_before_waiting
    ∷ answered_by 3 R.Sent dropped_before_waiting
    ∷ answered_by 11 R.Message woken_by_drop
    ∷ received_twice R.Message
    ∷ []
    ))
