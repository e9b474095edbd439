-- Worked traces, each with its two scripts and its schedule.
use Rattle.std.specs.Prelude.{true, false, [], ◌∷◌}
use Rattle.oneshot_machine.specs.declared.machine.End.TheVariants.{Sender, Receiver}
use Rattle.oneshot_machine.specs.declared.machine.Reply.TheVariants as R
use Rattle.oneshot_machine.specs.declared.machine.Step.TheVariants as T
use Rattle.oneshot_machine.specs.declared.states.Op.TheVariants as O
use Rattle.oneshot_machine.specs.declared.states.TheConstants.{RECEIVING, DISCONNECTED, EMPTY, MESSAGE}
use Rattle.oneshot_machine.specs.declared.machine.receiver.ReceiverStart.TheVariants as RC
use Rattle.oneshot_machine.specs.declared.machine.sender.SenderCall.TheVariants as SC
use Rattle.oneshot_world.specs.Calls as C
use Rattle.oneshot_world.specs.declared.trace.Entry.TheVariants as E
use Rattle.oneshot_world.specs.declared.trace.Place.TheVariants as P
use Rattle.oneshot_world.specs.declared.trace.WakerName.TheVariants.{Parker}
use Rattle.oneshot_world.specs.declared.trace.WakerPlace.TheVariants as W
use Rattle.oneshot_law_examples.specs.Notation.{Example, sender, receiver, frees, without_block, parked, clocked, moving, carrying, setting_token, replying}

-- S send 7
-- R try drop
-- X ssrrrrr
abbrev pub sent_then_taken : Example
sent_then_taken =
    record {
      calls = record {
        sender = C.Of_sender SC.Send ∷ [];
        error = [];
        receiver = C.Of_receiver RC.TryRecv ∷ C.Of_receiver RC.Drop ∷ [];
      };
      entries =
          E.Made (moving P.NotSent P.InCell (sender T.WriteMessage 3 3))
          ∷ E.Made (replying R.Sent (sender (T.Word O.Add) 3 4))
          ∷ E.Made (receiver (T.Word O.Load) 4 4)
          ∷ E.Made (receiver (T.Word (O.Store DISCONNECTED)) 4 2)
          ∷ E.Made (replying R.Message (moving P.InCell P.Delivered (receiver T.TakeMessage 2 2)))
          ∷ E.Made (receiver (T.Word (O.Swap DISCONNECTED)) 2 2)
          ∷ E.Made (replying R.Done (frees Receiver 2))
          ∷ [];
    }

-- S send 7
-- R
-- X
abbrev pub nothing_moved : Example
nothing_moved = record { calls = record { sender = C.Of_sender SC.Send ∷ []; error = []; receiver = [] }; entries = [] }

-- S
-- R
-- X sss
abbrev pub nothing_to_do : Example
nothing_to_do =
    record {
      calls = record { sender = []; error = []; receiver = [] };
      entries = E.Idle Sender ∷ E.Idle Sender ∷ E.Idle Sender ∷ [];
    }

-- S send 7
-- R drop
-- X rss
abbrev pub sent_to_nobody : Example
sent_to_nobody =
    record {
      calls = record { sender = C.Of_sender SC.Send ∷ []; error = []; receiver = C.Of_receiver RC.Drop ∷ [] };
      entries =
          E.Made (replying R.Done (receiver (T.Word (O.Swap DISCONNECTED)) 3 2))
          ∷ E.Made (moving P.NotSent P.InCell (sender T.WriteMessage 2 2))
          ∷ E.Made (replying R.Refused (moving P.InCell P.InError (sender (T.Word O.Add) 2 3)))
          ∷ [];
    }

-- S drop
-- R drop
-- X rss
abbrev pub both_dropped : Example
both_dropped =
    record {
      calls = record { sender = C.Of_sender SC.Drop ∷ []; error = []; receiver = C.Of_receiver RC.Drop ∷ [] };
      entries =
          E.Made (replying R.Done (receiver (T.Word (O.Swap DISCONNECTED)) 3 2))
          ∷ E.Made (sender (T.Word O.Xor) 2 3)
          ∷ E.Made (replying R.Done (frees Sender 3))
          ∷ [];
    }

-- S drop
-- R try drop
-- X srrr
abbrev pub dropped_then_tried : Example
dropped_then_tried =
    record {
      calls = record {
        sender = C.Of_sender SC.Drop ∷ [];
        error = [];
        receiver = C.Of_receiver RC.TryRecv ∷ C.Of_receiver RC.Drop ∷ [];
      };
      entries =
          E.Made (replying R.Done (sender (T.Word O.Xor) 3 2))
          ∷ E.Made (replying R.Disconnected (receiver (T.Word O.Load) 2 2))
          ∷ E.Made (receiver (T.Word (O.Swap DISCONNECTED)) 2 2)
          ∷ E.Made (replying R.Done (frees Receiver 2))
          ∷ [];
    }

-- S closed send 7
-- R closed full try closed
-- X srssrrrrr
abbrev pub looked_at_both_ends : Example
looked_at_both_ends =
    record {
      calls =
          record {
            sender = C.Of_sender SC.IsClosed ∷ C.Of_sender SC.Send ∷ [];
            error = [];
            receiver =
                C.Of_receiver RC.IsClosed ∷ C.Of_receiver RC.HasMessage ∷ C.Of_receiver RC.TryRecv
                ∷ C.Of_receiver RC.IsClosed ∷ [];
          };
      entries =
          E.Made (replying R.No (sender (T.Word O.Load) 3 3))
          ∷ E.Made (replying R.No (receiver (T.Word O.Load) 3 3))
          ∷ E.Made (moving P.NotSent P.InCell (sender T.WriteMessage 3 3))
          ∷ E.Made (replying R.Sent (sender (T.Word O.Add) 3 4))
          ∷ E.Made (replying R.Yes (receiver (T.Word O.Load) 4 4))
          ∷ E.Made (receiver (T.Word O.Load) 4 4)
          ∷ E.Made (receiver (T.Word (O.Store DISCONNECTED)) 4 2)
          ∷ E.Made (replying R.Message (moving P.InCell P.Delivered (receiver T.TakeMessage 2 2)))
          ∷ E.Made (replying R.Yes (receiver (T.Word O.Load) 2 2))
          ∷ [];
    }

-- S send 5 inner into
-- R drop
-- X rssssss
abbrev pub taken_from_the_error : Example
taken_from_the_error =
    record {
      calls =
          record {
            sender = C.Of_sender SC.Send ∷ [];
            error = C.Of_sender SC.AsInner ∷ C.Of_sender SC.IntoInner
                ∷ [];
            receiver = C.Of_receiver RC.Drop ∷ [];
          };
      entries =
          E.Made (replying R.Done (receiver (T.Word (O.Swap DISCONNECTED)) 3 2))
          ∷ E.Made (moving P.NotSent P.InCell (sender T.WriteMessage 2 2))
          ∷ E.Made (replying R.Refused (moving P.InCell P.InError (sender (T.Word O.Add) 2 3)))
          ∷ E.Made (replying R.Message (sender T.Plain 3 3))
          ∷ E.Made (moving P.InError P.FromError (sender T.TakeMessage 3 3))
          ∷ E.Made (replying R.Message (frees Sender 3))
          ∷ E.Idle Sender
          ∷ [];
    }

-- S send 5 drop
-- R drop
-- X rssss
abbrev pub dropped_with_the_error : Example
dropped_with_the_error =
    record {
      calls = record {
        sender = C.Of_sender SC.Send ∷ [];
        error = C.Of_sender SC.DropError
            ∷ [];
        receiver = C.Of_receiver RC.Drop ∷ [];
      };
      entries =
          E.Made (replying R.Done (receiver (T.Word (O.Swap DISCONNECTED)) 3 2))
          ∷ E.Made (moving P.NotSent P.InCell (sender T.WriteMessage 2 2))
          ∷ E.Made (replying R.Refused (moving P.InCell P.InError (sender (T.Word O.Add) 2 3)))
          ∷ E.Made (moving P.InError P.Dropped (sender T.DropMessage 3 3))
          ∷ E.Made (replying R.Done (frees Sender 3))
          ∷ [];
    }

-- S send 7
-- R drop
-- X ssrrr
abbrev pub dropped_unread : Example
dropped_unread =
    record {
      calls = record { sender = C.Of_sender SC.Send ∷ []; error = []; receiver = C.Of_receiver RC.Drop ∷ [] };
      entries =
          E.Made (moving P.NotSent P.InCell (sender T.WriteMessage 3 3))
          ∷ E.Made (replying R.Sent (sender (T.Word O.Add) 3 4))
          ∷ E.Made (receiver (T.Word (O.Swap DISCONNECTED)) 4 2)
          ∷ E.Made (moving P.InCell P.Dropped (receiver T.DropMessage 2 2))
          ∷ E.Made (replying R.Done (frees Receiver 2))
          ∷ [];
    }

-- S send 7
-- R try try
-- X ssrrrr
abbrev pub tried_again : Example
tried_again =
    record {
      calls = record {
        sender = C.Of_sender SC.Send ∷ [];
        error = [];
        receiver = C.Of_receiver RC.TryRecv ∷ C.Of_receiver RC.TryRecv ∷ [];
      };
      entries =
          E.Made (moving P.NotSent P.InCell (sender T.WriteMessage 3 3))
          ∷ E.Made (replying R.Sent (sender (T.Word O.Add) 3 4))
          ∷ E.Made (receiver (T.Word O.Load) 4 4)
          ∷ E.Made (receiver (T.Word (O.Store DISCONNECTED)) 4 2)
          ∷ E.Made (replying R.Message (moving P.InCell P.Delivered (receiver T.TakeMessage 2 2)))
          ∷ E.Made (replying R.Disconnected (receiver (T.Word O.Load) 2 2))
          ∷ [];
    }

-- S drop
-- R closed try closed
-- X srrr
abbrev pub closed_then_tried : Example
closed_then_tried =
    record {
      calls =
          record {
            sender = C.Of_sender SC.Drop ∷ [];
            error = [];
            receiver = C.Of_receiver RC.IsClosed ∷ C.Of_receiver RC.TryRecv ∷ C.Of_receiver RC.IsClosed ∷ [];
          };
      entries =
          E.Made (replying R.Done (sender (T.Word O.Xor) 3 2))
          ∷ E.Made (replying R.Yes (receiver (T.Word O.Load) 2 2))
          ∷ E.Made (replying R.Disconnected (receiver (T.Word O.Load) 2 2))
          ∷ E.Made (replying R.Yes (receiver (T.Word O.Load) 2 2))
          ∷ [];
    }

-- S closed send 7
-- R drop
-- X rsss
abbrev pub sent_though_closed : Example
sent_though_closed =
    record {
      calls =
          record {
            sender = C.Of_sender SC.IsClosed ∷ C.Of_sender SC.Send
                ∷ [];
            error = [];
            receiver = C.Of_receiver RC.Drop ∷ [];
          };
      entries =
          E.Made (replying R.Done (receiver (T.Word (O.Swap DISCONNECTED)) 3 2))
          ∷ E.Made (replying R.Yes (sender (T.Word O.Load) 2 2))
          ∷ E.Made (moving P.NotSent P.InCell (sender T.WriteMessage 2 2))
          ∷ E.Made (replying R.Refused (moving P.InCell P.InError (sender (T.Word O.Add) 2 3)))
          ∷ [];
    }

-- S send 7
-- R recv
-- X ssrrr
abbrev pub received_at_once : Example
received_at_once =
    record {
      calls = record { sender = C.Of_sender SC.Send ∷ []; error = []; receiver = C.Of_receiver RC.Recv ∷ [] };
      entries =
          E.Made (moving P.NotSent P.InCell (sender T.WriteMessage 3 3))
          ∷ E.Made (replying R.Sent (sender (T.Word O.Add) 3 4))
          ∷ E.Made (receiver (T.Word O.Load) 4 4)
          ∷ E.Made (moving P.InCell P.Delivered (receiver T.TakeMessage 4 4))
          ∷ E.Made (replying R.Message (frees Receiver 4))
          ∷ [];
    }

-- S send 7
-- R recv
-- X rrrsssrrsrrrrs
-- the receiver wakes spuriously twice, and frees the block before the sender wakes it
abbrev pub waited_for_message : Example
waited_for_message =
    record {
      calls = record { sender = C.Of_sender SC.Send ∷ []; error = []; receiver = C.Of_receiver RC.Recv ∷ [] };
      entries =
          E.Made (receiver (T.Word O.Load) 3 3)
          ∷ E.Made (carrying Parker W.Hand W.Cell (receiver T.WriteWaker 3 3))
          ∷ E.Made (receiver (T.Word (O.Swap RECEIVING)) 3 0)
          ∷ E.Made (moving P.NotSent P.InCell (sender T.WriteMessage 0 0))
          ∷ E.Made (sender (T.Word O.Add) 0 1)
          ∷ E.Made (carrying Parker W.Cell W.SenderHand (sender T.TakeWaker 1 1))
          ∷ E.Made (parked false 1)
          ∷ E.Made (receiver (T.Word O.Load) 1 1)
          ∷ E.Made (sender (T.Word (O.Swap MESSAGE)) 1 4)
          ∷ E.Made (parked false 4)
          ∷ E.Made (receiver (T.Word O.Load) 4 4)
          ∷ E.Made (moving P.InCell P.Delivered (receiver T.TakeMessage 4 4))
          ∷ E.Made (replying R.Message (frees Receiver 4))
          ∷ E.Made (replying R.Sent (setting_token (carrying Parker W.SenderHand W.Used (without_block Sender T.Wake))))
          ∷ [];
    }

-- S send 7
-- R ref
-- X rrssrrrr
abbrev pub sent_before_waiting : Example
sent_before_waiting =
    record {
      calls = record { sender = C.Of_sender SC.Send ∷ []; error = []; receiver = C.Of_receiver RC.RecvRef ∷ [] };
      entries =
          E.Made (receiver (T.Word O.Load) 3 3)
          ∷ E.Made (carrying Parker W.Hand W.Cell (receiver T.WriteWaker 3 3))
          ∷ E.Made (moving P.NotSent P.InCell (sender T.WriteMessage 3 3))
          ∷ E.Made (replying R.Sent (sender (T.Word O.Add) 3 4))
          ∷ E.Made (receiver (T.Word (O.Swap RECEIVING)) 4 0)
          ∷ E.Made (carrying Parker W.Cell W.Hand (receiver T.Withdraw 0 0))
          ∷ E.Made (receiver (T.Word (O.Store DISCONNECTED)) 0 2)
          ∷ E.Made (replying R.Message (moving P.InCell P.Delivered (receiver T.TakeMessage 2 2)))
          ∷ [];
    }

-- S drop
-- R recv
-- X rrsrrr
abbrev pub dropped_before_waiting : Example
dropped_before_waiting =
    record {
      calls = record { sender = C.Of_sender SC.Drop ∷ []; error = []; receiver = C.Of_receiver RC.Recv ∷ [] };
      entries =
          E.Made (receiver (T.Word O.Load) 3 3)
          ∷ E.Made (carrying Parker W.Hand W.Cell (receiver T.WriteWaker 3 3))
          ∷ E.Made (replying R.Done (sender (T.Word O.Xor) 3 2))
          ∷ E.Made (receiver (T.Word (O.Swap RECEIVING)) 2 0)
          ∷ E.Made (carrying Parker W.Cell W.Hand (receiver T.Withdraw 0 0))
          ∷ E.Made (replying R.Disconnected (frees Receiver 0))
          ∷ [];
    }

-- S drop
-- R ref drop
-- X rrrssssrrrr
abbrev pub woken_by_drop : Example
woken_by_drop =
    record {
      calls = record {
        sender = C.Of_sender SC.Drop ∷ [];
        error = [];
        receiver = C.Of_receiver RC.RecvRef ∷ C.Of_receiver RC.Drop ∷ [];
      };
      entries =
          E.Made (receiver (T.Word O.Load) 3 3)
          ∷ E.Made (carrying Parker W.Hand W.Cell (receiver T.WriteWaker 3 3))
          ∷ E.Made (receiver (T.Word (O.Swap RECEIVING)) 3 0)
          ∷ E.Made (sender (T.Word O.Xor) 0 1)
          ∷ E.Made (carrying Parker W.Cell W.SenderHand (sender T.TakeWaker 1 1))
          ∷ E.Made (sender (T.Word (O.Swap DISCONNECTED)) 1 2)
          ∷ E.Made (replying R.Done (setting_token (carrying Parker W.SenderHand W.Used (sender T.Wake 2 2))))
          ∷ E.Made (parked true 2)
          ∷ E.Made (replying R.Disconnected (receiver (T.Word O.Load) 2 2))
          ∷ E.Made (receiver (T.Word (O.Swap DISCONNECTED)) 2 2)
          ∷ E.Made (replying R.Done (frees Receiver 2))
          ∷ [];
    }

-- S send 7
-- R ref
-- X rrr
abbrev pub still_waiting : Example
still_waiting =
    record {
      calls = record { sender = C.Of_sender SC.Send ∷ []; error = []; receiver = C.Of_receiver RC.RecvRef ∷ [] };
      entries =
          E.Made (receiver (T.Word O.Load) 3 3)
          ∷ E.Made (carrying Parker W.Hand W.Cell (receiver T.WriteWaker 3 3))
          ∷ E.Made (receiver (T.Word (O.Swap RECEIVING)) 3 0)
          ∷ [];
    }

-- S send 7
-- R deadline
-- X rrrossrrrsssrrrr
-- the deadline is over while the sender is about to finish, and the receiver waits for it
abbrev pub waited_past_its_deadline : Example
waited_past_its_deadline =
    record {
      calls = record { sender = C.Of_sender SC.Send ∷ []; error = []; receiver = C.Of_receiver RC.RecvDeadline ∷ [] };
      entries =
          E.Made (receiver (T.Word O.Load) 3 3)
          ∷ E.Made (carrying Parker W.Hand W.Cell (receiver T.WriteWaker 3 3))
          ∷ E.Made (receiver (T.Word (O.Swap RECEIVING)) 3 0)
          ∷ E.Made (clocked true 0)
          ∷ E.Made (moving P.NotSent P.InCell (sender T.WriteMessage 0 0))
          ∷ E.Made (sender (T.Word O.Add) 0 1)
          ∷ E.Made (receiver (T.Word (O.Swap EMPTY)) 1 3)
          ∷ E.Made (parked false 3)
          ∷ E.Made (receiver (T.Word O.Load) 3 3)
          ∷ E.Made (carrying Parker W.Cell W.SenderHand (sender T.TakeWaker 3 3))
          ∷ E.Made (sender (T.Word (O.Swap MESSAGE)) 3 4)
          ∷ E.Made (replying R.Sent (setting_token (carrying Parker W.SenderHand W.Used (sender T.Wake 4 4))))
          ∷ E.Made (parked true 4)
          ∷ E.Made (receiver (T.Word O.Load) 4 4)
          ∷ E.Made (receiver (T.Word (O.Store DISCONNECTED)) 4 2)
          ∷ E.Made (replying R.Message (moving P.InCell P.Delivered (receiver T.TakeMessage 2 2)))
          ∷ [];
    }

-- S send 7
-- R deadline
-- X rrrosssssrrr
abbrev pub sent_at_its_deadline : Example
sent_at_its_deadline =
    record {
      calls = record { sender = C.Of_sender SC.Send ∷ []; error = []; receiver = C.Of_receiver RC.RecvDeadline ∷ [] };
      entries =
          E.Made (receiver (T.Word O.Load) 3 3)
          ∷ E.Made (carrying Parker W.Hand W.Cell (receiver T.WriteWaker 3 3))
          ∷ E.Made (receiver (T.Word (O.Swap RECEIVING)) 3 0)
          ∷ E.Made (clocked true 0)
          ∷ E.Made (moving P.NotSent P.InCell (sender T.WriteMessage 0 0))
          ∷ E.Made (sender (T.Word O.Add) 0 1)
          ∷ E.Made (carrying Parker W.Cell W.SenderHand (sender T.TakeWaker 1 1))
          ∷ E.Made (sender (T.Word (O.Swap MESSAGE)) 1 4)
          ∷ E.Made (replying R.Sent (setting_token (carrying Parker W.SenderHand W.Used (sender T.Wake 4 4))))
          ∷ E.Made (receiver (T.Word (O.Swap EMPTY)) 4 3)
          ∷ E.Made (receiver (T.Word (O.Store DISCONNECTED)) 3 2)
          ∷ E.Made (replying R.Message (moving P.InCell P.Delivered (receiver T.TakeMessage 2 2)))
          ∷ [];
    }

-- S send 7
-- R timeout try
-- X rrrrrrrorrssrrr
-- the timeout is over, the message comes afterwards, and the next receive returns it
abbrev pub ran_out_then_taken : Example
ran_out_then_taken =
    record {
      calls = record {
        sender = C.Of_sender SC.Send ∷ [];
        error = [];
        receiver = C.Of_receiver (RC.RecvTimeout true) ∷ C.Of_receiver RC.TryRecv ∷ [];
      };
      entries =
          E.Made (clocked false 3)
          ∷ E.Made (receiver (T.Word O.Load) 3 3)
          ∷ E.Made (carrying Parker W.Hand W.Cell (receiver T.WriteWaker 3 3))
          ∷ E.Made (receiver (T.Word (O.Swap RECEIVING)) 3 0)
          ∷ E.Made (clocked false 0)
          ∷ E.Made (parked false 0)
          ∷ E.Made (receiver (T.Word O.Load) 0 0)
          ∷ E.Made (clocked true 0)
          ∷ E.Made (receiver (T.Word (O.Swap EMPTY)) 0 3)
          ∷ E.Made (replying R.Timeout (carrying Parker W.Cell W.Hand (receiver T.Withdraw 3 3)))
          ∷ E.Made (moving P.NotSent P.InCell (sender T.WriteMessage 3 3))
          ∷ E.Made (replying R.Sent (sender (T.Word O.Add) 3 4))
          ∷ E.Made (receiver (T.Word O.Load) 4 4)
          ∷ E.Made (receiver (T.Word (O.Store DISCONNECTED)) 4 2)
          ∷ E.Made (replying R.Message (moving P.InCell P.Delivered (receiver T.TakeMessage 2 2)))
          ∷ [];
    }

-- S drop
-- R forever
-- X orrrrrsssrr
-- no instant can hold the timeout: the clock's one reading changes nothing, and there is no deadline
abbrev pub never_ran_out : Example
never_ran_out =
    record {
      calls = record {
        sender = C.Of_sender SC.Drop ∷ [];
        error = [];
        receiver = C.Of_receiver (RC.RecvTimeout false)
            ∷ [];
      };
      entries =
          E.Made (clocked true 3)
          ∷ E.Made (receiver (T.Word O.Load) 3 3)
          ∷ E.Made (carrying Parker W.Hand W.Cell (receiver T.WriteWaker 3 3))
          ∷ E.Made (receiver (T.Word (O.Swap RECEIVING)) 3 0)
          ∷ E.Made (parked false 0)
          ∷ E.Made (receiver (T.Word O.Load) 0 0)
          ∷ E.Made (sender (T.Word O.Xor) 0 1)
          ∷ E.Made (carrying Parker W.Cell W.SenderHand (sender T.TakeWaker 1 1))
          ∷ E.Made (sender (T.Word (O.Swap DISCONNECTED)) 1 2)
          ∷ E.Made (parked false 2)
          ∷ E.Made (replying R.Disconnected (receiver (T.Word O.Load) 2 2))
          ∷ [];
    }

-- S drop
-- R deadline drop
-- X rrrorrrss
abbrev pub ran_out_then_dropped : Example
ran_out_then_dropped =
    record {
      calls = record {
        sender = C.Of_sender SC.Drop ∷ [];
        error = [];
        receiver = C.Of_receiver RC.RecvDeadline ∷ C.Of_receiver RC.Drop ∷ [];
      };
      entries =
          E.Made (receiver (T.Word O.Load) 3 3)
          ∷ E.Made (carrying Parker W.Hand W.Cell (receiver T.WriteWaker 3 3))
          ∷ E.Made (receiver (T.Word (O.Swap RECEIVING)) 3 0)
          ∷ E.Made (clocked true 0)
          ∷ E.Made (receiver (T.Word (O.Swap EMPTY)) 0 3)
          ∷ E.Made (replying R.Timeout (carrying Parker W.Cell W.Hand (receiver T.Withdraw 3 3)))
          ∷ E.Made (replying R.Done (receiver (T.Word (O.Swap DISCONNECTED)) 3 2))
          ∷ E.Made (sender (T.Word O.Xor) 2 3)
          ∷ E.Made (replying R.Done (frees Sender 3))
          ∷ [];
    }

-- S send 7
-- R deadline
-- X ssrrr
abbrev pub sent_before_its_deadline : Example
sent_before_its_deadline =
    record {
      calls = record { sender = C.Of_sender SC.Send ∷ []; error = []; receiver = C.Of_receiver RC.RecvDeadline ∷ [] };
      entries =
          E.Made (moving P.NotSent P.InCell (sender T.WriteMessage 3 3))
          ∷ E.Made (replying R.Sent (sender (T.Word O.Add) 3 4))
          ∷ E.Made (receiver (T.Word O.Load) 4 4)
          ∷ E.Made (receiver (T.Word (O.Store DISCONNECTED)) 4 2)
          ∷ E.Made (replying R.Message (moving P.InCell P.Delivered (receiver T.TakeMessage 2 2)))
          ∷ [];
    }

-- S drop
-- R deadline
-- X rrrossssrr
abbrev pub dropped_at_its_deadline : Example
dropped_at_its_deadline =
    record {
      calls = record { sender = C.Of_sender SC.Drop ∷ []; error = []; receiver = C.Of_receiver RC.RecvDeadline ∷ [] };
      entries =
          E.Made (receiver (T.Word O.Load) 3 3)
          ∷ E.Made (carrying Parker W.Hand W.Cell (receiver T.WriteWaker 3 3))
          ∷ E.Made (receiver (T.Word (O.Swap RECEIVING)) 3 0)
          ∷ E.Made (clocked true 0)
          ∷ E.Made (sender (T.Word O.Xor) 0 1)
          ∷ E.Made (carrying Parker W.Cell W.SenderHand (sender T.TakeWaker 1 1))
          ∷ E.Made (sender (T.Word (O.Swap DISCONNECTED)) 1 2)
          ∷ E.Made (replying R.Done (setting_token (carrying Parker W.SenderHand W.Used (sender T.Wake 2 2))))
          ∷ E.Made (receiver (T.Word (O.Swap EMPTY)) 2 3)
          ∷ E.Made (replying R.Disconnected (receiver (T.Word (O.Store DISCONNECTED)) 3 2))
          ∷ [];
    }

-- S
-- R try
-- X r
abbrev pub tried_in_vain : Example
tried_in_vain =
    record {
      calls = record { sender = []; error = []; receiver = C.Of_receiver RC.TryRecv ∷ [] };
      entries = E.Made (replying R.Empty (receiver (T.Word O.Load) 3 3)) ∷ [];
    }
