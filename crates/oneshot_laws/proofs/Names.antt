-- The names of other crates and of this one's definitions that the proofs cite, exported from one place.
pub use Rattle.oneshot_laws.specs.Actions.{is_drop_of_receiver, is_end_of_sender, is_receive, is_send, is_full_look, action_of, nothing_yet_of, reply_on, stepped, fixed_reply_of, is_stray}
pub use Rattle.oneshot_laws.specs.Actions.{is_end_of_receiver, is_sender_look, is_closed_look, is_end_of_error}
pub use Rattle.oneshot_laws.specs.Alone.{lone_reply, is_lone_call, are_lone_calls_right}
pub use Rattle.oneshot_laws.specs.Bounds.{at_most, operates, is_senders_last, each_move, answers_soon, is_soon_answered, bound_of, is_within, is_bounded, are_calls_bounded}
pub use Rattle.oneshot_laws.specs.Ended.{all_ended, has_answered, is_refused}
pub use Rattle.oneshot_laws.specs.Entries.{only_if, is_word, is_on_a_cell, is_free, is_reply, is_nothing_yet, is_same_end, is_same_reply, says_nothing_yet, reply_code}
pub use Rattle.oneshot_laws.specs.History.{has_legal_history, agrees, is_object_step, object_reply, is_legal, is_complete, is_right_outside, is_covered, history}
pub use Rattle.oneshot_laws.specs.Holders.{Holders, both_hold, holds, other, is_here, uses_block, frees, is_held, is_free_last, is_freed, is_freed_at_end, is_freed_right, acts_last}
pub use Rattle.oneshot_laws.specs.Idle.{is_idle_right_from, is_idle_right}
pub use Rattle.oneshot_laws.specs.Marks.{Mark, marks, after_each, Reading, read, marks_from, sender_reading, receiver_reading, call_under_way, side, call_marks, until_reply, loads, finishes}
pub use Rattle.oneshot_laws.specs.Marks.{swaps_closed_in, works_on_word, finds_full_or_closed, First, Never, rule, receive_rule, reply_among, or_stray, to_reply, read_by, mark_at, object_then, ends}
pub use Rattle.oneshot_laws.specs.Marks.{Rule, Last, acts, has_acted}
pub use Rattle.oneshot_laws.specs.MessagePlaces.{is_path, last_place, is_same_place, is_message_move, message_moves, is_message_followed, last_message_place, is_message_end, is_message_ended, may_put}
pub use Rattle.oneshot_laws.specs.MessagePlaces.{is_message_put, place_code, message_goes_to, is_reply_placed, are_replies_placed, is_message_there}
pub use Rattle.oneshot_laws.specs.Object.{Object, is_open_content, Action, Send, Sender_gone, Take, Take_and_go, Look_full, Look_closed, Look_receiver_gone, Receiver_gone, Content, new_object}
pub use Rattle.oneshot_laws.specs.Object.{is_same_flag, Open, Full, Closed, object_after, content_code, is_same_object}
pub use Rattle.oneshot_laws.specs.Replies.{answers, is_dropped, is_dropping, is_one_by_receiver, is_dropped_once, is_nothing_only_if_open, next_receive_gets, is_got_after_full, is_gone_after_got}
pub use Rattle.oneshot_laws.specs.Replies.{is_gone_after_closed, is_refused_after_closed}
pub use Rattle.oneshot_laws.specs.Unwoken.{uses_copy_of, is_own, wakes, is_poll, begins_poll_or_drop, answers_pending, is_left_by, waits_in_task, waits_in_park, is_unwoken, is_never_unwoken}
pub use Rattle.oneshot_laws.specs.Unwoken.{NeverUnwoken}
pub use Rattle.oneshot_laws.specs.WakerPlaces.{is_same_waker_place, is_waker_move, is_waker_end, AreWakersRight, waker_place_code, first_waker_place, waker_moves, moves_of_waker, is_waker_followed}
pub use Rattle.oneshot_laws.specs.WakerPlaces.{is_waker_ended, is_cell, cell_then, is_cell_right, is_cell_kept}
pub use Rattle.oneshot_machine.specs.Receiver.{receiver_step}
pub use Rattle.oneshot_machine.specs.Sender.{sender_step}
pub use Rattle.oneshot_machine.specs.declared.machine.End.{End}
pub use Rattle.oneshot_machine.specs.declared.machine.End.TheVariants.{Sender, Receiver}
pub use Rattle.oneshot_machine.specs.declared.machine.Reply.{Reply}
pub use Rattle.oneshot_machine.specs.declared.machine.Step.{Step}
pub use Rattle.oneshot_machine.specs.declared.machine.receiver.ReceiverStart.{ReceiverStart}
pub use Rattle.oneshot_world.proofs.Bools.{and_left, and_right, both}
pub use Rattle.oneshot_world.proofs.ControlCodes.{control_is, same_by}
pub use Rattle.oneshot_world.proofs.ExploreFound.{passes_where_found}
pub use Rattle.oneshot_world.proofs.Listed.{is_listed}
pub use Rattle.oneshot_world.proofs.ReachedLeads.{sender_passes, receiver_passes}
pub use Rattle.oneshot_world.proofs.ReachedLeft.{sender_world, receiver_world, sender_control_is, receiver_control_is}
pub use Rattle.oneshot_world.proofs.ReachedOpening.{opening_reached}
pub use Rattle.oneshot_world.proofs.ScriptsLeft.{or_right}
pub use Rattle.oneshot_world.proofs.WorldTurns.{Turned, sender_idle, sender_made, receiver_idle, receiver_made, turned, turned_reaches}
pub use Rattle.oneshot_world.specs.Ahead.{ahead_of, Ahead, is_some_park}
pub use Rattle.oneshot_world.specs.Calls.{number_of, Unanswered, left_by, Call, Of_sender, Of_receiver, Poll, Stray, first, is_none_left, as_sender_call, as_receiver_call}
pub use Rattle.oneshot_world.specs.Classes.{all_alike, as_made, as_entry, Classes, as_name, as_move, as_call}
pub use Rattle.oneshot_world.specs.Control.{Control, Begin, begins, control_turn, control_of, as_control}
pub use Rattle.oneshot_world.specs.ControlCodes.{bool_code, control_code, is_same_control}
pub use Rattle.oneshot_world.specs.Effects.{reply_of}
pub use Rattle.oneshot_world.specs.Explore.{Tree, reach, is_in, all_in}
pub use Rattle.oneshot_world.specs.Reached.{IsReached, one_poll, opening_control, one_copy}
pub use Rattle.oneshot_world.specs.Scripts.{calls_of, sender_last}
pub use Rattle.oneshot_world.specs.ScriptsLeft.{sender_has, receiver_has}
pub use Rattle.oneshot_world.specs.State.{sender_stepped, receiver_stepped, sender_position, receiver_position}
pub use Rattle.oneshot_world.specs.Wakers.{WakerMove, waker_move, back_to, is_same_waker}
pub use Rattle.oneshot_world.specs.World.{by_end, World, IsRunFrom, IsRun, opening, side_of, no_input, receiver_input, input_of, opening_place}
pub use Rattle.oneshot_world.specs.declared.script.Move.{Move}
pub use Rattle.oneshot_world.specs.declared.script.ReceiverScript.{ReceiverScript}
pub use Rattle.oneshot_world.specs.declared.script.SenderLast.{SenderLast}
pub use Rattle.oneshot_world.specs.declared.script.SenderScript.{SenderScript}
pub use Rattle.oneshot_world.specs.declared.state.ReceiverState.{ReceiverState}
pub use Rattle.oneshot_world.specs.declared.state.SenderState.{SenderState}
pub use Rattle.oneshot_world.specs.declared.trace.Entry.{Entry}
pub use Rattle.oneshot_world.specs.declared.trace.Made.{Made}
pub use Rattle.oneshot_world.specs.declared.trace.Place.{Place}
pub use Rattle.oneshot_world.specs.declared.trace.Place.TheVariants.{NotSent, InCell, InError, Delivered, FromError}
pub use Rattle.oneshot_world.specs.declared.trace.WakerName.{WakerName}
pub use Rattle.oneshot_world.specs.declared.trace.WakerName.TheVariants.{Parker, Copy}
pub use Rattle.oneshot_world.specs.declared.trace.WakerPlace.{WakerPlace}
pub use Rattle.oneshot_world.specs.declared.trace.WakerPlace.TheVariants.{New, Hand, Cell, SenderHand, Used}
pub use Rattle.oneshot_world.specs.declared.wakers.Wakers.{Wakers}
pub use Rattle.std.proofs.Common.{Bool, Option, refl, ◌≡◌, true, false, not, ◌&&◌, ◌||◌, List, [], ◌∷◌, map, subst, ℕ, ◌==◌, Some, None, is_some, ◌∙◌, ap, if◌then◌else◌, ◌+◌, sym, filter, get_or}
pub use Rattle.std.proofs.Common.{arith, nat_lt, zero, suc, ◌++◌, replicate, ◌*◌}
pub use Rattle.std.proofs.lemmas.Bool.{eq-eqb, eqb-true, ne_eqb, ltb-true, lt-ltb}
pub use Rattle.std.specs.List.{list_any, list_all, filter_map, cons_option}
pub use Rattle.std.specs.Option.{option_map, option_and_then}
