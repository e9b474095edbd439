-- The names of other crates and of this one's definitions that the proofs cite, re-exported in one place.
pub use Rattle.oneshot_bridge.specs.CallExamples.{tried_twice, WorkedCalls, WrongCalls}
pub use Rattle.oneshot_bridge.specs.CallsRun.{RunsCalls, in_script, receiver_answered, sender_answered, is_at_rest, CallsAreRuns, BothCallsAreRuns, OneCallGets}
pub use Rattle.oneshot_bridge.specs.CellExamples.{worlds_by, WorkedCells, WrongCells, WrongUses, world_by, scene_at}
pub use Rattle.oneshot_bridge.specs.Examples.{sends, receives, r, sent, received, worlds, WorkedRun, WrongRuns}
pub use Rattle.oneshot_bridge.specs.Gives.{HaveCome, gave_message, OneReceiveGets, RunLosesNoWakeup, RunFreesOnce, RunFreesLast, RunFreesByItsHolder}
pub use Rattle.oneshot_bridge.specs.Homes.{one_has_both, CellsAreSo, message_of_logs, waker_of_logs, RunsHaveCells}
pub use Rattle.oneshot_bridge.specs.Joined.{SlotsAreSo, Passed, none_passed, it_passed, maker_before, maker_with_slot_before, is_run, TablesAreOfRuns, OfARun}
pub use Rattle.oneshot_bridge.specs.OrdersRun.{log_of, RunsSo, answered_by, RunsTo, noted_of, operation_of, OrdersAreRuns, answered_at}
pub use Rattle.oneshot_bridge.specs.RunExamples.{tries, stops, in_turn, sent_log, tried_log, sent_call, tried_call, sender_stands, receiver_stands, entries_of_run, AnswersThatAre}
pub use Rattle.oneshot_bridge.specs.RunExamples.{RunsThatAre, RunsThatAreNot}
pub use Rattle.oneshot_bridge.specs.RunExamples.{RunsSay}
pub use Rattle.oneshot_bridge.specs.RunOrder.{operator_of, operators_of, RunsAreInOrder, WorkedOrder, WrongOrder}
pub use Rattle.oneshot_bridge.specs.Scripted.{SendsOnly, IsOfARun, SenderIsScripted, StatesAreOfRuns, ReceiverIsScripted}
pub use Rattle.oneshot_bridge.specs.Walks.{may_see, answers_with, stands_after, opening_sender, opening_receiver, SenderStand, ReceiverStand, the_sender, the_receiver, Quiet, quiet, Operates}
pub use Rattle.oneshot_bridge.specs.Walks.{operates, Answered, Walk, begins, quietly, by_one, ReceiverWalk, SenderWalk, Stand, Walker}
pub use Rattle.oneshot_bridge.specs.Woken.{WakesNext, NobodyWaitsInARun, WakeIsNextInARun, found_it_gone, WasDropped, NobodyIsLeft}
pub use Rattle.oneshot_laws.proofs.Coding.{Coding, listed, pairs, or_none}
pub use Rattle.oneshot_laws.proofs.PastLaws.{of_call}
pub use Rattle.oneshot_laws.proofs.Product.{Product, product_coding, reads_entry, class_under_way, class_is, Automaton, Explored, no_names, all_products}
pub use Rattle.oneshot_laws.proofs.ProductRuns.{Classed, all_classed, found_next, opening_found}
pub use Rattle.oneshot_laws.specs.Actions.{is_end_of_sender, is_receive}
pub use Rattle.oneshot_laws.specs.Ended.{has_answered}
pub use Rattle.oneshot_laws.specs.Entries.{only_if, is_same_end, is_same_reply, is_reply, is_word, is_on_a_cell, is_free}
pub use Rattle.oneshot_laws.specs.History.{agrees}
pub use Rattle.oneshot_laws.specs.Holders.{both_hold, is_free_last, is_freed_at_end, frees, uses_block}
pub use Rattle.oneshot_laws.specs.Marks.{Reading, read_by, call_under_way, marks, marks_from, until_reply, to_reply, mark_at, object_then, sender_reading, receiver_reading, or_stray, Mark, side}
pub use Rattle.oneshot_laws.specs.Object.{Object, new_object}
pub use Rattle.oneshot_laws.specs.Replies.{answers, answers_only, is_gone_after_got}
pub use Rattle.oneshot_laws.specs.Unwoken.{is_unwoken, is_never_unwoken, waits_in_task}
pub use Rattle.oneshot_machine.proofs.ExactTables.{receiver_exact}
pub use Rattle.oneshot_machine.proofs.GrownLogs.{phase_from-snoc}
pub use Rattle.oneshot_machine.proofs.Sameness.{each_passes, some_passes, ops_are_same}
pub use Rattle.oneshot_machine.specs.Called.{Form, as_receiver, ReceiverCalled, not_called, called, became_future, SenderCalled, not_called_yet, called_once, stays}
pub use Rattle.oneshot_machine.specs.Exact.{none_yet, one_more, Accepts}
pub use Rattle.oneshot_machine.specs.Logs.{Event, did, words, worded}
pub use Rattle.oneshot_machine.specs.Noted.{Noted, saw, op_of}
pub use Rattle.oneshot_machine.specs.Orders.{Reaches, has_row, nothing_made, InOrder, none_made, by_sender, by_receiver}
pub use Rattle.oneshot_machine.specs.Phases.{ReceiverAt, idle, after_load, after_timeout, blocked, polled, again, full, at_once, waited, swapped, by_future}
pub use Rattle.oneshot_machine.specs.Phases.{by_poll, overwritten, disconnected, resolved}
pub use Rattle.oneshot_machine.specs.Phases.{receiver_moves, Share, none, empty, filled, Slots, Row, sending, dropping, SenderAt, fresh, owes, finished, found_gone, overtaken}
pub use Rattle.oneshot_machine.specs.Phases.{no_sender, storing, stopping}
pub use Rattle.oneshot_machine.specs.Phases.{found_closed, closed_itself, claimed, withdrew, overdue, gone, ended, no_receiver, By, sender_next, receiver_next, phase_from, sender_moves}
pub use Rattle.oneshot_machine.specs.Receiver.{receiver_step, receiver_row, receiver_start, receiver_rows, receiver_opens, future_opens}
pub use Rattle.oneshot_machine.specs.Runs.{Run, last, more}
pub use Rattle.oneshot_machine.specs.Sender.{sender_step, sender_row, sender_start, sender_rows}
pub use Rattle.oneshot_machine.specs.Slots.{Held, away, vacant, held, IsSlot, is_away, is_vacant, SlotChange, stays_away, stays_vacant, stays_held, gives_room, gives_thing, gets_room, gets_thing, In}
pub use Rattle.oneshot_machine.specs.Slots.{ReceiverMay, may, ReceiverFinds, finds, head, tail}
pub use Rattle.oneshot_machine.specs.Standing.{Standpoint, plainly, standpoint_row, standpoint_step, standpoint_follows, outcome_at, receiver_table, sights, onward, standpoint_number, Table, is_op}
pub use Rattle.oneshot_machine.specs.Standing.{onward_all, moved, made_at, operations, standing, standing_from}
pub use Rattle.oneshot_machine.specs.States.{word_after}
pub use Rattle.oneshot_machine.specs.TableRows.{Outcome, Rows, row_for, is_same_seen, Goes, Answers}
pub use Rattle.oneshot_machine.specs.declared.machine.End.{End}
pub use Rattle.oneshot_machine.specs.declared.machine.End.TheVariants.{Receiver}
pub use Rattle.oneshot_machine.specs.declared.machine.Reply.{Reply}
pub use Rattle.oneshot_machine.specs.declared.machine.Seen.{Seen}
pub use Rattle.oneshot_machine.specs.declared.machine.Seen.TheVariants.{Done, Over, Refused, Token}
pub use Rattle.oneshot_machine.specs.declared.machine.Step.{Step}
pub use Rattle.oneshot_machine.specs.declared.machine.Step.TheVariants.{Wake, Plain, Free}
pub use Rattle.oneshot_machine.specs.declared.machine.async_drop.AsyncDropPos.TheVariants.{AsyncLoad}
pub use Rattle.oneshot_machine.specs.declared.machine.by_ref.RefPos.TheVariants.{Park, StartLoad, StartWrite, StartSwap, ParkLoad}
pub use Rattle.oneshot_machine.specs.declared.machine.drop.DropPos.TheVariants.{DropSwap}
pub use Rattle.oneshot_machine.specs.declared.machine.look.LookPos.TheVariants.{LookFull}
pub use Rattle.oneshot_machine.specs.declared.machine.receiver.ReceiverPos.{ReceiverPos}
pub use Rattle.oneshot_machine.specs.declared.machine.receiver.ReceiverPos.TheVariants.{Look, Try, Ref, Timed, Value, Future, AsyncDrop}
pub use Rattle.oneshot_machine.specs.declared.machine.receiver.ReceiverStart.{ReceiverStart}
pub use Rattle.oneshot_machine.specs.declared.machine.receiver.ReceiverStart.TheVariants.{TryRecv, Recv, Poll}
pub use Rattle.oneshot_machine.specs.declared.machine.sender.SenderCall.{SenderCall}
pub use Rattle.oneshot_machine.specs.declared.machine.sender.SenderCall.TheVariants.{Send}
pub use Rattle.oneshot_machine.specs.declared.machine.sender.SenderPos.{SenderPos}
pub use Rattle.oneshot_machine.specs.declared.machine.sender.SenderPos.TheVariants.{SendWrite, SendAdd, SendTakeWaker, SendFinal, SendWake, SendLateWake, DropXor, DropTakeWaker, DropFinal, DropWake}
pub use Rattle.oneshot_machine.specs.declared.machine.sender.SenderPos.TheVariants.{DropLateWake, DropFree}
pub use Rattle.oneshot_machine.specs.declared.machine.timed.TimedPos.TheVariants.{TimedPark, LatePark, SumClock, TimedLoad, EndBack, LateLoad}
pub use Rattle.oneshot_machine.specs.declared.machine.try_recv.TryPos.TheVariants.{TryLoad, Take, CloseOnly, Close}
pub use Rattle.oneshot_machine.specs.declared.machine.value.ValuePos.TheVariants.{RecvPark, RecvLoad, RecvWrite, RecvSwap, RecvParkLoad, RecvTake, RecvFreeGot}
pub use Rattle.oneshot_machine.specs.declared.states.Op.{Op}
pub use Rattle.oneshot_machine.specs.declared.states.Op.TheVariants.{Load, Store, Swap, Add, Exchange, Xor}
pub use Rattle.oneshot_replay.proofs.RunLaws.{is_right}
pub use Rattle.oneshot_replay.proofs.Runs.{goes_on}
pub use Rattle.oneshot_replay.specs.Rest.{message_of, rest_at}
pub use Rattle.oneshot_replay.specs.Right.{IsRight}
pub use Rattle.oneshot_replay.specs.Run.{HasRun, trace_at}
pub use Rattle.oneshot_replay.specs.Scene.{Scene}
pub use Rattle.oneshot_replay.specs.TraceView.{last_of}
pub use Rattle.oneshot_word.proofs.ByRows.{is_senders, is_receivers, sender_is, receiver_is}
pub use Rattle.oneshot_word.proofs.LastOnes.{not_empty, same_start, same_last}
pub use Rattle.oneshot_word.proofs.OneOrder.{order_is_one}
pub use Rattle.oneshot_word.specs.OneOrder.{ends_of}
pub use Rattle.oneshot_word.specs.Rule.{message_home, waker_home, Home, bare, has_message, Lies, lies_out, lies_bare, lies_filled, IsGiven, IsTaken, took_none, took_it, opened, slot_taken, runs}
pub use Rattle.oneshot_word.specs.Seats.{with_waker, view}
pub use Rattle.oneshot_word.specs.declared.any_waker.AnyWaker.{AnyWaker}
pub use Rattle.oneshot_word.specs.declared.rule.Slot.{Slot}
pub use Rattle.oneshot_word.specs.declared.rule.Slot.TheVariants.{Empty, Message}
pub use Rattle.oneshot_word.specs.declared.rule.View.{View}
pub use Rattle.oneshot_world.proofs.ControlCodes.{same_by}
pub use Rattle.oneshot_world.proofs.ExploreFound.{passes_where_found}
pub use Rattle.oneshot_world.proofs.ReachedLeft.{sender_world, receiver_world}
pub use Rattle.oneshot_world.proofs.ReachedMoves.{sender_row_reaches, receiver_row_reaches}
pub use Rattle.oneshot_world.proofs.ReachedOpening.{opening_reached}
pub use Rattle.oneshot_world.proofs.WorldDetermined.{run_is}
pub use Rattle.oneshot_world.proofs.WorldTurns.{Turned, turned, turned_reaches, sender_idle, sender_made, receiver_idle, receiver_made}
pub use Rattle.oneshot_world.specs.Ahead.{ahead_of, is_some_park}
pub use Rattle.oneshot_world.specs.Calls.{left_by, Call, Unanswered, as_receiver_call, Of_sender, Of_receiver}
pub use Rattle.oneshot_world.specs.Classes.{Classes, all_alike, as_name, as_state, as_entry, as_call}
pub use Rattle.oneshot_world.specs.Control.{control_of, as_control, sender_under_way}
pub use Rattle.oneshot_world.specs.Effects.{seen_by, word_left, reply_of, sender_puts, receiver_puts, place_left, receiver_goes}
pub use Rattle.oneshot_world.specs.Explore.{all_in}
pub use Rattle.oneshot_world.specs.Reached.{IsReached}
pub use Rattle.oneshot_world.specs.Scripts.{calls_of, receiver_call, async_call, receiver_calls, async_calls}
pub use Rattle.oneshot_world.specs.State.{sender_fits, receiver_fits, sender_steps, receiver_steps, sender_stepped, receiver_stepped, is_in_cell, sender_turns_at, receiver_turns_at, made_entry}
pub use Rattle.oneshot_world.specs.State.{receiver_position}
pub use Rattle.oneshot_world.specs.World.{World, turn, no_input, receiver_input, opening, IsRunFrom, side_of, by_end, turn_of, world_then, opening_place}
pub use Rattle.oneshot_world.specs.declared.script.AsyncCall.{AsyncCall}
pub use Rattle.oneshot_world.specs.declared.script.AsyncLast.{AsyncLast}
pub use Rattle.oneshot_world.specs.declared.script.Move.{Move}
pub use Rattle.oneshot_world.specs.declared.script.ReceiverCall.{ReceiverCall}
pub use Rattle.oneshot_world.specs.declared.script.ReceiverLast.{ReceiverLast}
pub use Rattle.oneshot_world.specs.declared.script.ReceiverScript.{ReceiverScript}
pub use Rattle.oneshot_world.specs.declared.script.SenderLast.{SenderLast}
pub use Rattle.oneshot_world.specs.declared.script.SenderScript.{SenderScript}
pub use Rattle.oneshot_world.specs.declared.state.ReceiverState.{ReceiverState}
pub use Rattle.oneshot_world.specs.declared.state.SenderState.{SenderState}
pub use Rattle.oneshot_world.specs.declared.state.State.{State}
pub use Rattle.oneshot_world.specs.declared.trace.Entry.{Entry}
pub use Rattle.oneshot_world.specs.declared.trace.Made.{Made}
pub use Rattle.oneshot_world.specs.declared.trace.Place.{Place}
pub use Rattle.oneshot_world.specs.declared.trace.Place.TheVariants.{Delivered}
pub use Rattle.oneshot_world.specs.declared.trace.WakerName.{WakerName}
pub use Rattle.oneshot_world.specs.declared.trace.WakerName.TheVariants.{Parker}
pub use Rattle.std.proofs.Common.{◌≡◌, ℕ, Bool, true, false, ◌&&◌, List, refl, Option, sym, ◌∙◌, [], ◌∷◌, get_or, ◌+◌, ◌++◌, Some, ap, None, subst, cond, zero, suc, not, ◌||◌, ◌==◌, map, All, arith}
pub use Rattle.std.proofs.lemmas.Bool.{and_parts, eqb-true}
pub use Rattle.std.proofs.lemmas.List.{append_assoc, append-nil, map-append}
pub use Rattle.std.proofs.lemmas.List.Elements.{filter_map-append, All-nil, All-cons, All-head, All-tail, All-contains}
pub use Rattle.std.specs.List.{list_all, flat_map, cons_option, list_any}
pub use Rattle.std.specs.Option.{option_map}
pub use Rattle.std.specs.Prelude.{filter}
