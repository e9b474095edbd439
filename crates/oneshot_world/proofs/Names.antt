-- The names of other crates and of this one's definitions that the proofs cite, re-exported in one place.
pub use Rattle.oneshot_machine.specs.Receiver.{receiver_step, receiver_row, receiver_positions}
pub use Rattle.oneshot_machine.specs.Sender.{sender_step, sender_row, sender_positions}
pub use Rattle.oneshot_machine.specs.TableRows.{Outcome, Goes, Answers, outcome}
pub use Rattle.oneshot_machine.specs.declared.machine.End.{End}
pub use Rattle.oneshot_machine.specs.declared.machine.End.TheVariants.{Sender, Receiver}
pub use Rattle.oneshot_machine.specs.declared.machine.Reply.{Reply}
pub use Rattle.oneshot_machine.specs.declared.machine.Step.{Step}
pub use Rattle.oneshot_machine.specs.declared.machine.async_drop.AsyncDropPos.TheVariants.{AsyncLoad}
pub use Rattle.oneshot_machine.specs.declared.machine.by_ref.RefPos.TheVariants.{StartLoad, StartWrite, StartSwap}
pub use Rattle.oneshot_machine.specs.declared.machine.drop.DropPos.TheVariants.{DropSwap}
pub use Rattle.oneshot_machine.specs.declared.machine.look.LookPos.TheVariants.{LookFull}
pub use Rattle.oneshot_machine.specs.declared.machine.receiver.ReceiverPos.{ReceiverPos}
pub use Rattle.oneshot_machine.specs.declared.machine.receiver.ReceiverStart.{ReceiverStart}
pub use Rattle.oneshot_machine.specs.declared.machine.sender.SenderCall.{SenderCall}
pub use Rattle.oneshot_machine.specs.declared.machine.sender.SenderPos.{SenderPos}
pub use Rattle.oneshot_machine.specs.declared.machine.timed.TimedPos.TheVariants.{SumClock}
pub use Rattle.oneshot_machine.specs.declared.machine.try_recv.TryPos.TheVariants.{TryLoad}
pub use Rattle.oneshot_machine.specs.declared.machine.value.ValuePos.TheVariants.{RecvLoad}
pub use Rattle.oneshot_world.specs.Calls.{Call, Unanswered, first, rest, is_none_left, left_by, Of_sender, Of_receiver, Poll, Stray, number_of, as_sender_call, as_receiver_call}
pub use Rattle.oneshot_world.specs.Classes.{all_alike, Classes, as_name, as_wakers, as_input, as_move, as_call, as_state, as_made, as_turned}
pub use Rattle.oneshot_world.specs.Control.{Control, control_of, as_control, sender_under_way, receiver_under_way, control_then, Begin, begins, as_begin, as_control_turned, sender_begins}
pub use Rattle.oneshot_world.specs.Control.{control_turn, begins_poll, poll_begin, plain_input, receiver_begins_at, receiver_begins, begins_with, all_sender_calls, all_receiver_calls}
pub use Rattle.oneshot_world.specs.ControlCodes.{bool_code, control_code, is_same_control, sender_code, receiver_code, sender_call_code, receiver_call_code, is_same_call, is_same_under_way}
pub use Rattle.oneshot_world.specs.ControlCodes.{place_code, is_same_wakers, is_same_state, is_same_name}
pub use Rattle.oneshot_world.specs.Effects.{place_left, reply_of, sender_goes, receiver_goes, is_plain, is_free, is_future, sender_puts, receiver_puts, seen_by}
pub use Rattle.oneshot_world.specs.Explore.{all_in, Tree, Leaf, Node, is_in}
unfoldable pub use Rattle.oneshot_world.specs.Reached.{reached}
pub use Rattle.oneshot_world.specs.Reached.{is_reached, IsReached, one_poll, one_copy, opening_control}
pub use Rattle.oneshot_world.specs.Scripts.{stays_sender, ends_sender, stays_error, ends_error, sender_last, error_last, receiver_calls, async_calls, ends_receiver, ends_async, makes_future}
pub use Rattle.oneshot_world.specs.Scripts.{begins_receiver, stays_receiver, stays_async, error_calls, receiver_call, async_call, begins_sender, begins_error, begins_async}
pub use Rattle.oneshot_world.specs.ScriptsLeft.{is_sender_script, is_error_script, has_script, sender_has, receiver_has, is_script, is_receiver_script, is_async_script}
pub use Rattle.oneshot_world.specs.State.{sender_moved, receiver_moved, sender_turns_at, receiver_turns_at, position_of_sender, position_of_receiver, sender_steps, receiver_steps, made_entry}
pub use Rattle.oneshot_world.specs.State.{sender_position, receiver_position, made, moved, hand_kept, sender_fits, receiver_fits, sender_stepped, receiver_stepped, turns}
pub use Rattle.oneshot_world.specs.Wakers.{is_parker, is_copy, withdrawn, back_to, wakers_left, waker_move, is_same_waker, sets_token, own_of}
pub use Rattle.oneshot_world.specs.World.{World, no_input, by_end, reply_in, receiver_input, opening_place, opening, turn, IsRunFrom, input_of, turn_of, side_of, receiver_answer, world_then}
pub use Rattle.oneshot_world.specs.declared.script.AsyncCall.{AsyncCall}
pub use Rattle.oneshot_world.specs.declared.script.AsyncLast.{AsyncLast}
pub use Rattle.oneshot_world.specs.declared.script.ErrorLast.{ErrorLast}
pub use Rattle.oneshot_world.specs.declared.script.Move.{Move}
pub use Rattle.oneshot_world.specs.declared.script.ReceiverCall.{ReceiverCall}
pub use Rattle.oneshot_world.specs.declared.script.ReceiverLast.{ReceiverLast}
pub use Rattle.oneshot_world.specs.declared.script.ReceiverScript.{ReceiverScript}
pub use Rattle.oneshot_world.specs.declared.script.SenderLast.{SenderLast}
pub use Rattle.oneshot_world.specs.declared.script.SenderScript.{SenderScript}
pub use Rattle.oneshot_world.specs.declared.state.ReceiverState.{ReceiverState}
pub use Rattle.oneshot_world.specs.declared.state.SenderState.{SenderState}
pub use Rattle.oneshot_world.specs.declared.state.State.{State}
pub use Rattle.oneshot_world.specs.declared.trace.Entry.{Entry}
pub use Rattle.oneshot_world.specs.declared.trace.Made.{Made}
pub use Rattle.oneshot_world.specs.declared.trace.Place.{Place}
pub use Rattle.oneshot_world.specs.declared.trace.Place.TheVariants.{NotSent, InCell, InError, Delivered, FromError, Dropped}
pub use Rattle.oneshot_world.specs.declared.trace.WakerName.{WakerName}
pub use Rattle.oneshot_world.specs.declared.trace.WakerName.TheVariants.{Parker, Copy}
pub use Rattle.oneshot_world.specs.declared.trace.WakerPlace.{WakerPlace}
pub use Rattle.oneshot_world.specs.declared.wakers.Input.{Input}
pub use Rattle.oneshot_world.specs.declared.wakers.Wakers.{Wakers}
pub use Rattle.std.proofs.Common.{◌≡◌, ◌==◌, Bool, true, false, List, [], ◌∷◌, Option, Some, None, refl, sym, ap, subst, ◌||◌, if◌then◌else◌, ◌≤◌, ℕ, ◌∙◌, ◌&&◌, nat_le, is_some, is_none, suc, zero}
pub use Rattle.std.proofs.Common.{◌++◌, replicate, nat_lt, get_or, map, ◌+◌, ◌<◌, length, drop, add-one, drop-cons, filter, rules}
pub use Rattle.std.proofs.lemmas.Bool.{leb-true, eqb-true}
pub use Rattle.std.specs.List.{list_all, flat_map}
pub use Rattle.std.specs.Option.{option_map, IsSome, option_and_then}
