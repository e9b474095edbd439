-- The names of other crates and of this one's definitions that the proofs use, exported from one place.
pub use Rattle.futures.specs.declared.task.Poll.TheVariants.{Ready, Pending}
pub use Rattle.oneshot_drive.specs.BetweenCalls.{AtRest, rests_open, IsClosedAt, IsReady}
pub use Rattle.oneshot_machine.specs.Over.{is_late, is_overtaken}
pub use Rattle.oneshot_drive.specs.BetweenCalls.{rests_new, rests_closed, Rests, finishing, LastFinds}
pub use Rattle.oneshot_machine.specs.Over.{IsLate}
pub use Rattle.oneshot_drive.specs.BetweenCalls.{finds_waiting, finds_overdue, finds_gone, Finishes, send_reply, IsFresh, IsError, Owes, IsOvertaken, IsOpenAt}
pub use Rattle.oneshot_drive.specs.Blocking.{Path, value_end, EndsAt, Stretch, nothing, answers, onward, ReceiveBy, by_ref, by_value, load_of}
pub use Rattle.oneshot_drive.specs.Blocking.{write_of, wait_of, end_of, parks_waiting, parks_overdue, asked_of, ref_end, Parks}
pub use Rattle.oneshot_drive.specs.Grounds.{GroundState, StandsWith, Stands, receiver_slots, ReceiverAsks, ReceiverMakes, StandsIn, SenderMakes, SenderAsks}
pub use Rattle.oneshot_drive.specs.Polls.{hand_after, WritesHand, WritesCopies, WroteCopies, Polled, unpolled, left_copy, kept_copy, found_sender, has_resolved, IsPolled, LeavesPolled}
pub use Rattle.oneshot_drive.specs.Polls.{leaves_resolved, leaves_over, leaves_gone, leaves_uncopied, leaves_waiting, leaves_its_copy, leaves_claimed, EndsPoll, tried_resolved, tried_its_copy}
pub use Rattle.oneshot_drive.specs.Polls.{is_disconnected, poll_end, MayLeave, WritesItsCopy, wakers_handed, HandsNoWaker, LeavesTried, tried_received, tried_closed, tried_uncopied, tried_claimed}
pub use Rattle.oneshot_drive.specs.Polls.{is_registered}
pub use Rattle.oneshot_drive.specs.declared.found.Found.{Found}
pub use Rattle.oneshot_errors.specs.declared.recv.RecvError.{RecvError}
pub use Rattle.oneshot_errors.specs.declared.recv_timeout.RecvTimeoutError.{RecvTimeoutError}
pub use Rattle.oneshot_errors.specs.declared.try_recv.TryRecvError.{TryRecvError}
pub use Rattle.oneshot_machine.proofs.CallBounds.{drop_few, send_few, async_try_recv_few, poll_few, drop_async_few, drop_receiver_few, try_recv_few}
pub use Rattle.oneshot_machine.proofs.Exactness.{leads_exactly, differ}
pub use Rattle.oneshot_machine.proofs.GrownLogs.{receiver_moved, and_then, sender_moved, words_stay}
pub use Rattle.oneshot_machine.proofs.Landings.{is_room, has_row_for, Each, landings, found_so, is_in, put_in, as_before, slot_after, message_kept, landings_of}
pub use Rattle.oneshot_machine.proofs.Landings.{landed, each, sender_apart, FoundSo, emptied}
pub use Rattle.oneshot_machine.proofs.Landings.{row_of, Landing, among, is_among, differs, receiver_apart, waker_kept}
pub use Rattle.oneshot_machine.proofs.Sameness.{same_op}
pub use Rattle.oneshot_machine.specs.Logs.{Log, Grows, receiver_of, did, took, clocked, worded, Event, handed, copied, wrote, sender_of, kept, parked, when_written, when_taken, messages_given}
pub use Rattle.oneshot_machine.specs.Logs.{messages_got, words}
pub use Rattle.oneshot_machine.specs.Noted.{is_same_op, saw}
pub use Rattle.oneshot_machine.specs.Phases.{after_timeout, ReceiverAt, idle, full, Got, at_once, waited, swapped, by_future, by_poll, overwritten, Swapping, Closing, closed_itself, disconnected}
pub use Rattle.oneshot_machine.specs.Phases.{receiver_moves, receiver_next, empty, filled, after_load, waits, again, claimed, found_closed, resolved, word_of, blocked, withdrew, polled, Share, none}
pub use Rattle.oneshot_machine.specs.Phases.{Slots, By, sending, dropping, SenderAt, fresh, owes, found_gone, no_sender, sender_moves, storing, untouched, overdue, stopping, sender_at}
pub use Rattle.oneshot_machine.specs.Phases.{no_receiver, receiver_at}
pub use Rattle.oneshot_machine.specs.Phases.{Row, next_by}
pub use Rattle.oneshot_machine.specs.Receiver.{receiver_step, receiver_row, receiver_rows}
pub use Rattle.oneshot_machine.specs.Runs.{last, more, Ran, ReceiverRan, SenderRan, Run}
pub use Rattle.oneshot_machine.specs.Sender.{sender_step, sender_row}
pub use Rattle.oneshot_machine.specs.Slots.{vacant, Held, held, IsSlot, is_held, ReceiverMay, ReceiverFinds, away, is_away, is_vacant, SlotChange, stays_away, stays_vacant, stays_held, gives_room}
pub use Rattle.oneshot_machine.specs.Slots.{gives_thing, gets_room, gets_thing, In, finds, SenderMay, SenderFinds, head, tail, May, may, Finds}
pub use Rattle.oneshot_machine.specs.TableRows.{Goes, Outcome, Answers, row_for}
pub use Rattle.oneshot_machine.specs.declared.machine.Reply.{Reply}
pub use Rattle.oneshot_machine.specs.declared.machine.Reply.TheVariants.{Sent}
pub use Rattle.oneshot_machine.specs.declared.machine.Step.TheVariants.{WakeOwn, WriteWaker, Withdraw, TakeWaker, Wake, Free}
pub use Rattle.oneshot_machine.specs.declared.machine.async_drop.AsyncDropPos.TheVariants.{AsyncLoad, AsyncSwap, AsyncExchange, AsyncBack}
pub use Rattle.oneshot_machine.specs.declared.machine.by_ref.RefPos.TheVariants.{StartLoad, StartSwap, Park, ParkLoad}
pub use Rattle.oneshot_machine.specs.declared.machine.drop.DropPos.TheVariants.{DropSwap}
pub use Rattle.oneshot_machine.specs.declared.machine.future.FuturePos.TheVariants.{PollLoad, PollCopy, PollWrite, PollExchange, PollBackFull, PollBackClosed, AgainCopy, AgainExchange, AgainBack}
pub use Rattle.oneshot_machine.specs.declared.machine.future.FuturePos.TheVariants.{PollOwn, AsyncTryLoad}
pub use Rattle.oneshot_machine.specs.declared.machine.receiver.ReceiverPos.{ReceiverPos}
pub use Rattle.oneshot_machine.specs.declared.machine.receiver.ReceiverPos.TheVariants.{Try, Ref, Timed, Value, Future, AsyncDrop}
pub use Rattle.oneshot_machine.specs.declared.machine.receiver.ReceiverStart.TheVariants.{Recv, RecvTimeout, TryRecv, AsyncTryRecv}
pub use Rattle.oneshot_machine.specs.declared.machine.sender.SenderCall.TheVariants.{Send, IntoInner, DropError}
pub use Rattle.oneshot_machine.specs.declared.machine.sender.SenderPos.{SenderPos}
pub use Rattle.oneshot_machine.specs.declared.machine.sender.SenderPos.TheVariants.{SendAdd, SendTakeWaker, SendFinal, SendWake, SendLateWake, DropTakeWaker, DropFinal, DropWake, DropLateWake}
pub use Rattle.oneshot_machine.specs.declared.machine.sender.SenderPos.TheVariants.{IntoFree, ErrorFree}
pub use Rattle.oneshot_machine.specs.declared.machine.timed.TimedPos.TheVariants.{SumClock, Clock, TimedLoad, EndSwap, EndBack, LatePark, LateLoad}
pub use Rattle.oneshot_machine.specs.declared.machine.try_recv.TryPos.TheVariants.{Close, Take, CloseOnly}
pub use Rattle.oneshot_machine.specs.declared.machine.value.ValuePos.TheVariants.{RecvLoad, RecvTake, RecvFreeGot, RecvFreeGone, RecvSwap, RecvPark, RecvParkLoad}
pub use Rattle.oneshot_machine.specs.declared.states.TheConstants.{RECEIVING, UNPARKING, DISCONNECTED, EMPTY, MESSAGE}
pub use Rattle.oneshot_machine.specs.declared.states.Op.{Op}
pub use Rattle.oneshot_machine.specs.declared.states.Op.TheVariants.{Store, Load, Swap, Exchange, Add, Xor}
pub use Rattle.std.proofs.Common.{◌≡◌, ℕ, Bool, true, false, List, [], ◌∷◌, Option, Result, Ok, Err, refl, sym, subst, ◌++◌, Some, ap, ◌∙◌, None, not, ◌≢◌, arith, rules, inl, inr}
pub use Rattle.std.proofs.lemmas.Bool.{eq-eqb}
pub use Rattle.std.proofs.lemmas.List.{append-nil}
pub use Rattle.std.proofs.lemmas.List.Elements.{filter_map-append}
pub use Rattle.std.proofs.lemmas.Result.{IfOk-weaker}
pub use Rattle.std.specs.Prelude.{◌==◌}
