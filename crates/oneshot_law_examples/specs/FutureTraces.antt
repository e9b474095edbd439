-- Worked traces of a future, each with its two scripts and its schedule.
use Rattle.std.specs.Prelude.{true, false, [], ◌∷◌}
use Rattle.oneshot_machine.specs.declared.machine.End.TheVariants.{Sender, Receiver}
use Rattle.oneshot_machine.specs.declared.machine.Reply.TheVariants as R
use Rattle.oneshot_machine.specs.declared.machine.Step.TheVariants as T
use Rattle.oneshot_machine.specs.declared.states.Op.TheVariants as O
use Rattle.oneshot_machine.specs.declared.states.TheConstants.{RECEIVING, DISCONNECTED, EMPTY, MESSAGE}
use Rattle.oneshot_machine.specs.declared.machine.receiver.ReceiverStart.TheVariants as RC
use Rattle.oneshot_machine.specs.declared.machine.sender.SenderCall.TheVariants as SC
use Rattle.oneshot_world.specs.Calls as C
use Rattle.oneshot_world.specs.declared.trace.Entry.TheVariants as E
use Rattle.oneshot_world.specs.declared.trace.Place.TheVariants as P
use Rattle.oneshot_world.specs.declared.trace.WakerName.TheVariants.{Copy}
use Rattle.oneshot_world.specs.declared.trace.WakerPlace.TheVariants as W
use Rattle.oneshot_law_examples.specs.Notation.{Example, sender, receiver, frees, without_block, copied, moving, carrying, waking_own, replying}

-- S send 7
-- R future poll 1 drop
-- X rrrrrssrrssrrrrs
-- the drop finds a sender that is about to finish, and leaves: the message comes back to the sender
abbrev pub dropped_while_finishing : Example
dropped_while_finishing =
    record {
      calls =
          record {
            sender = C.Of_sender SC.Send ∷ [];
            error = [];
            receiver = C.Of_receiver RC.IntoFuture ∷ C.Poll 1 ∷ C.Of_receiver RC.DropAsync ∷ [];
          };
      entries =
          E.Made (replying R.Future (receiver T.Plain 3 3))
          ∷ E.Made (receiver (T.Word O.Load) 3 3)
          ∷ E.Made (carrying (Copy 1 3) W.New W.Hand (copied false 3))
          ∷ E.Made (carrying (Copy 1 3) W.Hand W.Cell (receiver T.WriteWaker 3 3))
          ∷ E.Made (replying R.Pending (receiver (T.Word (O.Exchange EMPTY RECEIVING)) 3 0))
          ∷ E.Made (moving P.NotSent P.InCell (sender T.WriteMessage 0 0))
          ∷ E.Made (sender (T.Word O.Add) 0 1)
          ∷ E.Made (receiver (T.Word O.Load) 1 1)
          ∷ E.Made (replying R.Done (receiver (T.Word (O.Swap DISCONNECTED)) 1 2))
          ∷ E.Made (carrying (Copy 1 3) W.Cell W.SenderHand (sender T.TakeWaker 2 2))
          ∷ E.Made (sender (T.Word (O.Swap MESSAGE)) 2 4)
          ∷ E.Idle Receiver
          ∷ E.Idle Receiver
          ∷ E.Idle Receiver
          ∷ E.Idle Receiver
          ∷ E.Made (replying R.Refused (moving P.InCell P.InError
          (carrying (Copy 1 3) W.SenderHand W.Used (sender T.Wake 4 4))))
          ∷ [];
    }

-- a drop that waits until a sender that found the waker has finished: only the bounds refuse it, and no
-- run has it
abbrev pub dropped_once_finished : Example
dropped_once_finished =
    record {
      calls =
          record {
            sender = C.Of_sender SC.Send ∷ [];
            error = [];
            receiver = C.Of_receiver RC.IntoFuture ∷ C.Poll 1 ∷ C.Of_receiver RC.DropAsync ∷ [];
          };
      entries =
          E.Made (replying R.Future (receiver T.Plain 3 3))
          ∷ E.Made (receiver (T.Word O.Load) 3 3)
          ∷ E.Made (carrying (Copy 1 3) W.New W.Hand (copied false 3))
          ∷ E.Made (carrying (Copy 1 3) W.Hand W.Cell (receiver T.WriteWaker 3 3))
          ∷ E.Made (replying R.Pending (receiver (T.Word (O.Exchange EMPTY RECEIVING)) 3 0))
          ∷ E.Made (moving P.NotSent P.InCell (sender T.WriteMessage 0 0))
          ∷ E.Made (sender (T.Word O.Add) 0 1)
          ∷ E.Made (receiver (T.Word O.Load) 1 1)
          ∷ E.Made (receiver (T.Word O.Load) 1 1)
          ∷ E.Made (carrying (Copy 1 3) W.Cell W.SenderHand (sender T.TakeWaker 1 1))
          ∷ E.Made (sender (T.Word (O.Swap MESSAGE)) 1 4)
          ∷ E.Made (receiver (T.Word O.Load) 4 4)
          ∷ E.Made (receiver (T.Word (O.Swap DISCONNECTED)) 4 2)
          ∷ E.Made (moving P.InCell P.Dropped (receiver T.DropMessage 2 2))
          ∷ E.Made (replying R.Done (frees Receiver 2))
          ∷ E.Made (replying R.Sent (carrying (Copy 1 3) W.SenderHand W.Used (without_block Sender T.Wake)))
          ∷ [];
    }

-- S send 7
-- R future poll 1 poll 2 drop
-- X rrrrrrrssrrsssrrrr
-- the exchange of a second poll fails over a sender that is about to finish: the new copy is dropped, and the
-- poll wakes its own task
abbrev pub polled_while_finishing : Example
polled_while_finishing =
    record {
      calls =
          record {
            sender = C.Of_sender SC.Send ∷ [];
            error = [];
            receiver = C.Of_receiver RC.IntoFuture ∷ C.Poll 1 ∷ C.Poll 2 ∷ C.Of_receiver RC.DropAsync ∷ [];
          };
      entries =
          E.Made (replying R.Future (receiver T.Plain 3 3))
          ∷ E.Made (receiver (T.Word O.Load) 3 3)
          ∷ E.Made (carrying (Copy 1 3) W.New W.Hand (copied false 3))
          ∷ E.Made (carrying (Copy 1 3) W.Hand W.Cell (receiver T.WriteWaker 3 3))
          ∷ E.Made (replying R.Pending (receiver (T.Word (O.Exchange EMPTY RECEIVING)) 3 0))
          ∷ E.Made (receiver (T.Word O.Load) 0 0)
          ∷ E.Made (carrying (Copy 2 7) W.New W.Hand (copied false 0))
          ∷ E.Made (moving P.NotSent P.InCell (sender T.WriteMessage 0 0))
          ∷ E.Made (sender (T.Word O.Add) 0 1)
          ∷ E.Made (carrying (Copy 2 7) W.Hand W.Dropped (receiver (T.Word (O.Exchange RECEIVING EMPTY)) 1 1))
          ∷ E.Made (replying R.Pending (waking_own 2 (receiver T.WakeOwn 1 1)))
          ∷ E.Made (carrying (Copy 1 3) W.Cell W.SenderHand (sender T.TakeWaker 1 1))
          ∷ E.Made (sender (T.Word (O.Swap MESSAGE)) 1 4)
          ∷ E.Made (replying R.Sent (carrying (Copy 1 3) W.SenderHand W.Used (sender T.Wake 4 4)))
          ∷ E.Made (receiver (T.Word O.Load) 4 4)
          ∷ E.Made (receiver (T.Word (O.Swap DISCONNECTED)) 4 2)
          ∷ E.Made (moving P.InCell P.Dropped (receiver T.DropMessage 2 2))
          ∷ E.Made (replying R.Done (frees Receiver 2))
          ∷ [];
    }

-- S send 7
-- R future poll 1
-- X rrnr
-- a poll whose copy is refused wakes its own task
abbrev pub copy_refused : Example
copy_refused =
    record {
      calls =
          record {
            sender = C.Of_sender SC.Send ∷ [];
            error = [];
            receiver = C.Of_receiver RC.IntoFuture ∷ C.Poll 1 ∷ [];
          };
      entries =
          E.Made (replying R.Future (receiver T.Plain 3 3))
          ∷ E.Made (receiver (T.Word O.Load) 3 3)
          ∷ E.Made (copied true 3)
          ∷ E.Made (replying R.Pending (waking_own 1 (receiver T.WakeOwn 3 3)))
          ∷ [];
    }

-- S send 7
-- R future poll 1 poll 2
-- X rrrrrrrrrrrsssss
-- the second task's waker takes the place of the first
abbrev pub polled_by_another_task : Example
polled_by_another_task =
    record {
      calls =
          record {
            sender = C.Of_sender SC.Send ∷ [];
            error = [];
            receiver = C.Of_receiver RC.IntoFuture ∷ C.Poll 1 ∷ C.Poll 2 ∷ [];
          };
      entries =
          E.Made (replying R.Future (receiver T.Plain 3 3))
          ∷ E.Made (receiver (T.Word O.Load) 3 3)
          ∷ E.Made (carrying (Copy 1 3) W.New W.Hand (copied false 3))
          ∷ E.Made (carrying (Copy 1 3) W.Hand W.Cell (receiver T.WriteWaker 3 3))
          ∷ E.Made (replying R.Pending (receiver (T.Word (O.Exchange EMPTY RECEIVING)) 3 0))
          ∷ E.Made (receiver (T.Word O.Load) 0 0)
          ∷ E.Made (carrying (Copy 2 7) W.New W.Hand (copied false 0))
          ∷ E.Made (receiver (T.Word (O.Exchange RECEIVING EMPTY)) 0 3)
          ∷ E.Made (carrying (Copy 1 3) W.Cell W.Dropped (receiver T.Withdraw 3 3))
          ∷ E.Made (carrying (Copy 2 7) W.Hand W.Cell (receiver T.WriteWaker 3 3))
          ∷ E.Made (replying R.Pending (receiver (T.Word (O.Exchange EMPTY RECEIVING)) 3 0))
          ∷ E.Made (moving P.NotSent P.InCell (sender T.WriteMessage 0 0))
          ∷ E.Made (sender (T.Word O.Add) 0 1)
          ∷ E.Made (carrying (Copy 2 7) W.Cell W.SenderHand (sender T.TakeWaker 1 1))
          ∷ E.Made (sender (T.Word (O.Swap MESSAGE)) 1 4)
          ∷ E.Made (replying R.Sent (carrying (Copy 2 7) W.SenderHand W.Used (sender T.Wake 4 4)))
          ∷ [];
    }

-- S send 7
-- R future poll 1
-- X rrrrssrrrr
-- the message comes while the poll is about to wait
abbrev pub sent_before_pending : Example
sent_before_pending =
    record {
      calls =
          record {
            sender = C.Of_sender SC.Send ∷ [];
            error = [];
            receiver = C.Of_receiver RC.IntoFuture ∷ C.Poll 1 ∷ [];
          };
      entries =
          E.Made (replying R.Future (receiver T.Plain 3 3))
          ∷ E.Made (receiver (T.Word O.Load) 3 3)
          ∷ E.Made (carrying (Copy 1 3) W.New W.Hand (copied false 3))
          ∷ E.Made (carrying (Copy 1 3) W.Hand W.Cell (receiver T.WriteWaker 3 3))
          ∷ E.Made (moving P.NotSent P.InCell (sender T.WriteMessage 3 3))
          ∷ E.Made (replying R.Sent (sender (T.Word O.Add) 3 4))
          ∷ E.Made (receiver (T.Word (O.Exchange EMPTY RECEIVING)) 4 4)
          ∷ E.Made (carrying (Copy 1 3) W.Cell W.Dropped (receiver T.Withdraw 4 4))
          ∷ E.Made (receiver (T.Word (O.Store DISCONNECTED)) 4 2)
          ∷ E.Made (replying R.Message (moving P.InCell P.Delivered (receiver T.TakeMessage 2 2)))
          ∷ [];
    }

-- S send 7
-- R future poll 1
-- X rrssrrrrrr
-- the message comes before the poll has made its copy
abbrev pub sent_while_polling : Example
sent_while_polling =
    record {
      calls =
          record {
            sender = C.Of_sender SC.Send ∷ [];
            error = [];
            receiver = C.Of_receiver RC.IntoFuture ∷ C.Poll 1 ∷ [];
          };
      entries =
          E.Made (replying R.Future (receiver T.Plain 3 3))
          ∷ E.Made (receiver (T.Word O.Load) 3 3)
          ∷ E.Made (moving P.NotSent P.InCell (sender T.WriteMessage 3 3))
          ∷ E.Made (replying R.Sent (sender (T.Word O.Add) 3 4))
          ∷ E.Made (carrying (Copy 1 5) W.New W.Hand (copied false 4))
          ∷ E.Made (carrying (Copy 1 5) W.Hand W.Cell (receiver T.WriteWaker 4 4))
          ∷ E.Made (receiver (T.Word (O.Exchange EMPTY RECEIVING)) 4 4)
          ∷ E.Made (carrying (Copy 1 5) W.Cell W.Dropped (receiver T.Withdraw 4 4))
          ∷ E.Made (receiver (T.Word (O.Store DISCONNECTED)) 4 2)
          ∷ E.Made (replying R.Message (moving P.InCell P.Delivered (receiver T.TakeMessage 2 2)))
          ∷ [];
    }

-- S send 7
-- R future poll 1 poll 2
-- X rrrrrrrrrrssrrrr
-- the message comes while the second poll puts its waker in the place of the first
abbrev pub sent_while_replacing : Example
sent_while_replacing =
    record {
      calls =
          record {
            sender = C.Of_sender SC.Send ∷ [];
            error = [];
            receiver = C.Of_receiver RC.IntoFuture ∷ C.Poll 1 ∷ C.Poll 2 ∷ [];
          };
      entries =
          E.Made (replying R.Future (receiver T.Plain 3 3))
          ∷ E.Made (receiver (T.Word O.Load) 3 3)
          ∷ E.Made (carrying (Copy 1 3) W.New W.Hand (copied false 3))
          ∷ E.Made (carrying (Copy 1 3) W.Hand W.Cell (receiver T.WriteWaker 3 3))
          ∷ E.Made (replying R.Pending (receiver (T.Word (O.Exchange EMPTY RECEIVING)) 3 0))
          ∷ E.Made (receiver (T.Word O.Load) 0 0)
          ∷ E.Made (carrying (Copy 2 7) W.New W.Hand (copied false 0))
          ∷ E.Made (receiver (T.Word (O.Exchange RECEIVING EMPTY)) 0 3)
          ∷ E.Made (carrying (Copy 1 3) W.Cell W.Dropped (receiver T.Withdraw 3 3))
          ∷ E.Made (carrying (Copy 2 7) W.Hand W.Cell (receiver T.WriteWaker 3 3))
          ∷ E.Made (moving P.NotSent P.InCell (sender T.WriteMessage 3 3))
          ∷ E.Made (replying R.Sent (sender (T.Word O.Add) 3 4))
          ∷ E.Made (receiver (T.Word (O.Exchange EMPTY RECEIVING)) 4 4)
          ∷ E.Made (carrying (Copy 2 7) W.Cell W.Dropped (receiver T.Withdraw 4 4))
          ∷ E.Made (receiver (T.Word (O.Store DISCONNECTED)) 4 2)
          ∷ E.Made (replying R.Message (moving P.InCell P.Delivered (receiver T.TakeMessage 2 2)))
          ∷ [];
    }

-- S send 7 drop
-- R future poll 1 drop
-- X rrrrrrrrrssss
-- the drop takes the stored waker back before it closes the channel
abbrev pub dropped_while_pending : Example
dropped_while_pending =
    record {
      calls =
          record {
            sender = C.Of_sender SC.Send ∷ [];
            error = C.Of_sender SC.DropError ∷ [];
            receiver = C.Of_receiver RC.IntoFuture ∷ C.Poll 1 ∷ C.Of_receiver RC.DropAsync ∷ [];
          };
      entries =
          E.Made (replying R.Future (receiver T.Plain 3 3))
          ∷ E.Made (receiver (T.Word O.Load) 3 3)
          ∷ E.Made (carrying (Copy 1 3) W.New W.Hand (copied false 3))
          ∷ E.Made (carrying (Copy 1 3) W.Hand W.Cell (receiver T.WriteWaker 3 3))
          ∷ E.Made (replying R.Pending (receiver (T.Word (O.Exchange EMPTY RECEIVING)) 3 0))
          ∷ E.Made (receiver (T.Word O.Load) 0 0)
          ∷ E.Made (receiver (T.Word (O.Exchange RECEIVING EMPTY)) 0 3)
          ∷ E.Made (carrying (Copy 1 3) W.Cell W.Dropped (receiver T.Withdraw 3 3))
          ∷ E.Made (replying R.Done (receiver (T.Word (O.Swap DISCONNECTED)) 3 2))
          ∷ E.Made (moving P.NotSent P.InCell (sender T.WriteMessage 2 2))
          ∷ E.Made (replying R.Refused (moving P.InCell P.InError (sender (T.Word O.Add) 2 3)))
          ∷ E.Made (moving P.InError P.Dropped (sender T.DropMessage 3 3))
          ∷ E.Made (replying R.Done (frees Sender 3))
          ∷ [];
    }

-- S send 7
-- R future poll 1 full poll 1 poll 1 closed drop
-- X rrrrrsssssrrrrrrrrr
-- a task is woken, receives its message, and then finds the channel closed
abbrev pub woken_then_ready : Example
woken_then_ready =
    record {
      calls =
          record {
            sender = C.Of_sender SC.Send ∷ [];
            error = [];
            receiver =
                C.Of_receiver RC.IntoFuture ∷ C.Poll 1 ∷ C.Of_receiver RC.HasMessage ∷ C.Poll 1 ∷ C.Poll 1
                ∷ C.Of_receiver RC.IsClosed ∷ C.Of_receiver RC.DropAsync ∷ [];
          };
      entries =
          E.Made (replying R.Future (receiver T.Plain 3 3))
          ∷ E.Made (receiver (T.Word O.Load) 3 3)
          ∷ E.Made (carrying (Copy 1 3) W.New W.Hand (copied false 3))
          ∷ E.Made (carrying (Copy 1 3) W.Hand W.Cell (receiver T.WriteWaker 3 3))
          ∷ E.Made (replying R.Pending (receiver (T.Word (O.Exchange EMPTY RECEIVING)) 3 0))
          ∷ E.Made (moving P.NotSent P.InCell (sender T.WriteMessage 0 0))
          ∷ E.Made (sender (T.Word O.Add) 0 1)
          ∷ E.Made (carrying (Copy 1 3) W.Cell W.SenderHand (sender T.TakeWaker 1 1))
          ∷ E.Made (sender (T.Word (O.Swap MESSAGE)) 1 4)
          ∷ E.Made (replying R.Sent (carrying (Copy 1 3) W.SenderHand W.Used (sender T.Wake 4 4)))
          ∷ E.Made (replying R.Yes (receiver (T.Word O.Load) 4 4))
          ∷ E.Made (receiver (T.Word O.Load) 4 4)
          ∷ E.Made (receiver (T.Word (O.Store DISCONNECTED)) 4 2)
          ∷ E.Made (replying R.Message (moving P.InCell P.Delivered (receiver T.TakeMessage 2 2)))
          ∷ E.Made (replying R.Disconnected (receiver (T.Word O.Load) 2 2))
          ∷ E.Made (replying R.Yes (receiver (T.Word O.Load) 2 2))
          ∷ E.Made (receiver (T.Word O.Load) 2 2)
          ∷ E.Made (receiver (T.Word (O.Swap DISCONNECTED)) 2 2)
          ∷ E.Made (replying R.Done (frees Receiver 2))
          ∷ [];
    }

-- S drop
-- R future poll 1 drop
-- X rrrrrsrssrrrs
-- the sender's drop and the future's drop overlap
abbrev pub both_dropped_while_pending : Example
both_dropped_while_pending =
    record {
      calls =
          record {
            sender = C.Of_sender SC.Drop ∷ [];
            error = [];
            receiver = C.Of_receiver RC.IntoFuture ∷ C.Poll 1 ∷ C.Of_receiver RC.DropAsync ∷ [];
          };
      entries =
          E.Made (replying R.Future (receiver T.Plain 3 3))
          ∷ E.Made (receiver (T.Word O.Load) 3 3)
          ∷ E.Made (carrying (Copy 1 3) W.New W.Hand (copied false 3))
          ∷ E.Made (carrying (Copy 1 3) W.Hand W.Cell (receiver T.WriteWaker 3 3))
          ∷ E.Made (replying R.Pending (receiver (T.Word (O.Exchange EMPTY RECEIVING)) 3 0))
          ∷ E.Made (sender (T.Word O.Xor) 0 1)
          ∷ E.Made (receiver (T.Word O.Load) 1 1)
          ∷ E.Made (carrying (Copy 1 3) W.Cell W.SenderHand (sender T.TakeWaker 1 1))
          ∷ E.Made (sender (T.Word (O.Swap DISCONNECTED)) 1 2)
          ∷ E.Made (receiver (T.Word (O.Swap DISCONNECTED)) 2 2)
          ∷ E.Made (replying R.Done (frees Receiver 2))
          ∷ E.Idle Receiver
          ∷ E.Made (replying R.Done (carrying (Copy 1 3) W.SenderHand W.Used (without_block Sender T.Wake)))
          ∷ [];
    }

-- S send 7
-- R future poll 1 try try try
-- X rrrrrrssrsssrrr
-- a `try_recv` of a waiting future finds nothing, also while the sender finishes, and leaves the stored
-- waker; the last one has the message
abbrev pub tried_while_pending : Example
tried_while_pending =
    record {
      calls =
          record {
            sender = C.Of_sender SC.Send ∷ [];
            error = [];
            receiver =
                C.Of_receiver RC.IntoFuture ∷ C.Poll 1 ∷ C.Of_receiver RC.AsyncTryRecv ∷ C.Of_receiver RC.AsyncTryRecv
                ∷ C.Of_receiver RC.AsyncTryRecv ∷ [];
          };
      entries =
          E.Made (replying R.Future (receiver T.Plain 3 3))
          ∷ E.Made (receiver (T.Word O.Load) 3 3)
          ∷ E.Made (carrying (Copy 1 3) W.New W.Hand (copied false 3))
          ∷ E.Made (carrying (Copy 1 3) W.Hand W.Cell (receiver T.WriteWaker 3 3))
          ∷ E.Made (replying R.Pending (receiver (T.Word (O.Exchange EMPTY RECEIVING)) 3 0))
          ∷ E.Made (replying R.Empty (receiver (T.Word O.Load) 0 0))
          ∷ E.Made (moving P.NotSent P.InCell (sender T.WriteMessage 0 0))
          ∷ E.Made (sender (T.Word O.Add) 0 1)
          ∷ E.Made (replying R.Empty (receiver (T.Word O.Load) 1 1))
          ∷ E.Made (carrying (Copy 1 3) W.Cell W.SenderHand (sender T.TakeWaker 1 1))
          ∷ E.Made (sender (T.Word (O.Swap MESSAGE)) 1 4)
          ∷ E.Made (replying R.Sent (carrying (Copy 1 3) W.SenderHand W.Used (sender T.Wake 4 4)))
          ∷ E.Made (receiver (T.Word O.Load) 4 4)
          ∷ E.Made (receiver (T.Word (O.Store DISCONNECTED)) 4 2)
          ∷ E.Made (replying R.Message (moving P.InCell P.Delivered (receiver T.TakeMessage 2 2)))
          ∷ [];
    }

-- S drop
-- R future try poll 1 try try
-- X rrrrrrssrsrs
-- the sender is dropped while the future waits, and a `try_recv` reports it only after the drop's last swap
abbrev pub tried_beside_a_drop : Example
tried_beside_a_drop =
    record {
      calls =
          record {
            sender = C.Of_sender SC.Drop ∷ [];
            error = [];
            receiver =
                C.Of_receiver RC.IntoFuture ∷ C.Of_receiver RC.AsyncTryRecv ∷ C.Poll 1 ∷ C.Of_receiver RC.AsyncTryRecv
                ∷ C.Of_receiver RC.AsyncTryRecv ∷ [];
          };
      entries =
          E.Made (replying R.Future (receiver T.Plain 3 3))
          ∷ E.Made (replying R.Empty (receiver (T.Word O.Load) 3 3))
          ∷ E.Made (receiver (T.Word O.Load) 3 3)
          ∷ E.Made (carrying (Copy 1 4) W.New W.Hand (copied false 3))
          ∷ E.Made (carrying (Copy 1 4) W.Hand W.Cell (receiver T.WriteWaker 3 3))
          ∷ E.Made (replying R.Pending (receiver (T.Word (O.Exchange EMPTY RECEIVING)) 3 0))
          ∷ E.Made (sender (T.Word O.Xor) 0 1)
          ∷ E.Made (carrying (Copy 1 4) W.Cell W.SenderHand (sender T.TakeWaker 1 1))
          ∷ E.Made (replying R.Empty (receiver (T.Word O.Load) 1 1))
          ∷ E.Made (sender (T.Word (O.Swap DISCONNECTED)) 1 2)
          ∷ E.Made (replying R.Disconnected (receiver (T.Word O.Load) 2 2))
          ∷ E.Made (replying R.Done (carrying (Copy 1 4) W.SenderHand W.Used (sender T.Wake 2 2)))
          ∷ [];
    }

-- S send 7 into
-- R future poll 1 drop
-- X rrrrrssrrsssss
-- the drop leaves before the `send` has finished; `into_inner` takes the message back, and frees the block
abbrev pub sent_to_one_that_left : Example
sent_to_one_that_left =
    record {
      calls =
          record {
            sender = C.Of_sender SC.Send ∷ [];
            error = C.Of_sender SC.IntoInner ∷ [];
            receiver = C.Of_receiver RC.IntoFuture ∷ C.Poll 1 ∷ C.Of_receiver RC.DropAsync ∷ [];
          };
      entries =
          E.Made (replying R.Future (receiver T.Plain 3 3))
          ∷ E.Made (receiver (T.Word O.Load) 3 3)
          ∷ E.Made (carrying (Copy 1 3) W.New W.Hand (copied false 3))
          ∷ E.Made (carrying (Copy 1 3) W.Hand W.Cell (receiver T.WriteWaker 3 3))
          ∷ E.Made (replying R.Pending (receiver (T.Word (O.Exchange EMPTY RECEIVING)) 3 0))
          ∷ E.Made (moving P.NotSent P.InCell (sender T.WriteMessage 0 0))
          ∷ E.Made (sender (T.Word O.Add) 0 1)
          ∷ E.Made (receiver (T.Word O.Load) 1 1)
          ∷ E.Made (replying R.Done (receiver (T.Word (O.Swap DISCONNECTED)) 1 2))
          ∷ E.Made (carrying (Copy 1 3) W.Cell W.SenderHand (sender T.TakeWaker 2 2))
          ∷ E.Made (sender (T.Word (O.Swap MESSAGE)) 2 4)
          ∷ E.Made (replying R.Refused (moving P.InCell P.InError
          (carrying (Copy 1 3) W.SenderHand W.Used (sender T.Wake 4 4))))
          ∷ E.Made (moving P.InError P.FromError (sender T.TakeMessage 4 4))
          ∷ E.Made (replying R.Message (frees Sender 4))
          ∷ [];
    }

-- S drop
-- R future poll 1 drop
-- X rrrrrsrrssss
-- the future's drop ends before the sender's drop, which then frees the block
abbrev pub dropped_to_one_that_left : Example
dropped_to_one_that_left =
    record {
      calls =
          record {
            sender = C.Of_sender SC.Drop ∷ [];
            error = [];
            receiver = C.Of_receiver RC.IntoFuture ∷ C.Poll 1 ∷ C.Of_receiver RC.DropAsync ∷ [];
          };
      entries =
          E.Made (replying R.Future (receiver T.Plain 3 3))
          ∷ E.Made (receiver (T.Word O.Load) 3 3)
          ∷ E.Made (carrying (Copy 1 3) W.New W.Hand (copied false 3))
          ∷ E.Made (carrying (Copy 1 3) W.Hand W.Cell (receiver T.WriteWaker 3 3))
          ∷ E.Made (replying R.Pending (receiver (T.Word (O.Exchange EMPTY RECEIVING)) 3 0))
          ∷ E.Made (sender (T.Word O.Xor) 0 1)
          ∷ E.Made (receiver (T.Word O.Load) 1 1)
          ∷ E.Made (replying R.Done (receiver (T.Word (O.Swap DISCONNECTED)) 1 2))
          ∷ E.Made (carrying (Copy 1 3) W.Cell W.SenderHand (sender T.TakeWaker 2 2))
          ∷ E.Made (sender (T.Word (O.Swap DISCONNECTED)) 2 2)
          ∷ E.Made (carrying (Copy 1 3) W.SenderHand W.Used (sender T.Wake 2 2))
          ∷ E.Made (replying R.Done (frees Sender 2))
          ∷ [];
    }

-- S send 7
-- R future poll 1 poll 2
-- X rrrrrssrr
-- a poll finds a sender that is about to finish, and wakes its own task
abbrev pub polled_over_the_sender : Example
polled_over_the_sender =
    record {
      calls =
          record {
            sender = C.Of_sender SC.Send ∷ [];
            error = [];
            receiver = C.Of_receiver RC.IntoFuture ∷ C.Poll 1 ∷ C.Poll 2 ∷ [];
          };
      entries =
          E.Made (replying R.Future (receiver T.Plain 3 3))
          ∷ E.Made (receiver (T.Word O.Load) 3 3)
          ∷ E.Made (carrying (Copy 1 3) W.New W.Hand (copied false 3))
          ∷ E.Made (carrying (Copy 1 3) W.Hand W.Cell (receiver T.WriteWaker 3 3))
          ∷ E.Made (replying R.Pending (receiver (T.Word (O.Exchange EMPTY RECEIVING)) 3 0))
          ∷ E.Made (moving P.NotSent P.InCell (sender T.WriteMessage 0 0))
          ∷ E.Made (sender (T.Word O.Add) 0 1)
          ∷ E.Made (receiver (T.Word O.Load) 1 1)
          ∷ E.Made (replying R.Pending (waking_own 2 (receiver T.WakeOwn 1 1)))
          ∷ [];
    }
