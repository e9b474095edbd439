-- The names of other crates and of this one's definitions that the proofs cite, re-exported in one place.
pub use Rattle.atomic_table.proofs.Names.{Val, vstruct, vcons, vnil, fsep, ftrue, ‵, ◌$◌, ◌∵◌, !, qed, move, fjoin, fpack, feq_i, Valss, nothing, a_type, dcons, bounded, inst_fn, SProp, emp, raw, ◌⊛◌}
pub use Rattle.atomic_table.proofs.Names.{by, keep, split, use0, of_opd, no_more, and_then, returns, enter, alloc_all, pass_all, free_all, look_at, get, sets, agg, tables, no, types_at, plain, param}
pub use Rattle.atomic_table.proofs.Names.{alive, Stays, stay_dropped, walk_of, Goes-dropped, fact, fact_i}
pub use Rattle.atomic_table.proofs.Walks.{proved, leaves}
pub use Rattle.atomic_table.specs.Seated.{TableId}
pub use Rattle.atomic_table.specs.Table.{Me, rest, turned, Act, takes, gives, chain, Valid, homes_after, carried_after, Allows, Splits, State}
pub use Rattle.oneshot_machine.proofs.GrownLogs.{phase_from-snoc}
pub use Rattle.oneshot_machine.proofs.Sameness.{each_passes, is_same_share, ops_are_same, shares_are_same, same_sight, Passing}
pub use Rattle.oneshot_machine.specs.Noted.{Noted, saw, is_same_op}
pub use Rattle.oneshot_machine.specs.Orders.{has_row, Reaches, nothing_made, sender_makes, receiver_makes, HasRow, InOrder, none_made, by_sender, by_receiver}
pub use Rattle.oneshot_machine.specs.Phases.{By, sending, dropping, SenderAt, fresh, owes, finished, found_gone, overtaken, swapped, found_closed, closed_itself, ReceiverAt, untouched}
pub use Rattle.oneshot_machine.specs.Phases.{idle, claimed, withdrew}
pub use Rattle.oneshot_machine.specs.Phases.{overdue, full, overwritten, disconnected, resolved, gone, swapped_in, word_of, at_once, waited, by_future, by_poll, Share}
pub use Rattle.oneshot_machine.specs.Phases.{no_sender, sender_owns, Row, Slots}
pub use Rattle.oneshot_machine.specs.Phases.{sender_at, sender_next, sender_moves, receiver_at, receiver_next, receiver_moves, receiver_owns, none, empty, filled, no_receiver, is_row_for, next_by}
pub use Rattle.oneshot_machine.specs.Slots.{Held, IsOwned, not_its_own, own_vacant, own_held, Owns, away, vacant, held, SenderMay, may, SlotChange, stays_away, stays_vacant, stays_held, gives_room}
pub use Rattle.oneshot_machine.specs.Slots.{gives_thing, gets_room, gets_thing, In, Finds, finds, head, tail, IsSlot, is_away, is_vacant, is_held, ReceiverMay, May, SenderOwns, ReceiverOwns}
pub use Rattle.oneshot_machine.specs.States.{word_after}
pub use Rattle.oneshot_machine.specs.TableRows.{is_same_seen}
pub use Rattle.oneshot_machine.specs.declared.machine.End.{End}
pub use Rattle.oneshot_machine.specs.declared.machine.Seen.{Seen}
pub use Rattle.oneshot_machine.specs.declared.machine.Seen.TheVariants.{Word, Done}
pub use Rattle.oneshot_machine.specs.declared.states.TheConstants.{RECEIVING, UNPARKING, DISCONNECTED, EMPTY, MESSAGE}
pub use Rattle.oneshot_machine.specs.declared.states.Op.{Op}
pub use Rattle.oneshot_machine.specs.declared.states.Op.TheVariants.{Add, Load, Store, Swap, Exchange, Xor}
pub use Rattle.oneshot_word.specs.EndLogs.{FoundZero, MadeLast, MadeLate, stores_waker, is_overdue, is_gone, wrote_since, send_found, drop_found, sent_to_it, sent_to_overdue, dropped_before_it}
pub use Rattle.oneshot_word.specs.EndLogs.{dropped_before_overdue, sent_late, dropped_late, sent_overtaken, dropped_overtaken, along, stores_next, overdue_next, gone_next, wrote_next}
pub use Rattle.oneshot_word.specs.OneOrder.{OrderIsOne, ends_of}
pub use Rattle.oneshot_word.specs.Ordered.{Ordered, maker_before, maker_with_slot_before, in_order}
pub use Rattle.oneshot_word.specs.Promised.{RuleKeeps}
pub use Rattle.oneshot_word.specs.ReadRule.{sender_has_it, left_for_sender, receiver_has_it, left_for_receiver, receiver_found_it, waits_for_receiver, waker_at_home, Owned, both_open, waker_stored}
pub use Rattle.oneshot_word.specs.ReadRule.{waker_claimed, claimed_overdue, claimed_gone, receiver_gone, sender_after, written, Ruled, maker_alone}
pub use Rattle.oneshot_word.specs.ReadRule.{maker_with_slot_alone, two_ends, IsSenders, IsReceivers}
pub use Rattle.oneshot_word.specs.ReadRule.{IsWords}
pub use Rattle.oneshot_word.specs.Received.{both_views, ReceivedIsSent, WokenIsPut}
pub use Rattle.oneshot_word.specs.Rule.{Home, has_slots, waker_left, message_home, waker_home, Lies, lies_out, lies_bare, lies_filled, Tied, opened, slot_taken, runs}
pub use Rattle.oneshot_word.specs.Rule.{IsGiven, IsTaken, took_none, took_it}
pub use Rattle.oneshot_word.specs.Rule.{IsPut, has_made, IsClaimed, claimed_none, claimed_it, out, bare, has_waker, has_message}
pub use Rattle.oneshot_word.specs.Seats.{any, SlotOf, with_waker, Carried, slot_vacant, slot_held, Part, not_carried, carried, Front, SeatOf, seat_of, GivesOnce, has_given, gave_none, HoldsTaken}
pub use Rattle.oneshot_word.specs.Seats.{holds_no_slot, holds_none, holds_it, HoldsClaimed, claims_no_slot, claims_none, claims_it, gave, took, message_in, waker_in, MessageSlot, WakerSlot}
pub use Rattle.oneshot_word.specs.Seats.{message_first, waker_first, SeatIs, SenderSeat, ReceiverSeat, IsAt, view, Keeps, held_keeps, message_of, waker_of, IsOrdered, unsaid, carried_as}
pub use Rattle.oneshot_word.specs.Seats.{SenderStepped, ReceiverStepped, vacant_keeps}
pub use Rattle.oneshot_word.specs.Side.{Side, side_of, SenderCan, ReceiverCan}
pub use Rattle.oneshot_word.specs.contracts.sender.SenderSide.{the_row}
pub use Rattle.oneshot_word.specs.contracts.sender.SenderSide.TheInside.{the_type}
pub use Rattle.oneshot_word.specs.contracts.sender.SenderSide.new.{clauses}
pub use Rattle.oneshot_word.specs.declared.promise.Promise.{Ghosts}
pub use Rattle.oneshot_word.specs.declared.any_waker.AnyWaker.{AnyWaker}
pub use Rattle.oneshot_word.specs.declared.rule.Role.{Role}
pub use Rattle.oneshot_word.specs.declared.rule.Role.TheVariants.{Maker, MakerWithSlot}
pub use Rattle.oneshot_word.specs.declared.rule.Slot.{Slot}
pub use Rattle.oneshot_word.specs.declared.rule.Slot.TheVariants.{Message, Empty, Thread, Task}
pub use Rattle.oneshot_word.specs.declared.rule.View.{View}
pub use Rattle.std.proofs.Common.{sym, ap, ◌∙◌, subst, ◌++◌, ◌&&◌, ◌≢◌, ◌+◌, ◌%◌, ◌^◌, bit_xor, ◌⊎◌, inl, inr, not, ◌||◌, true≢false, get_or, set, zero, suc, ◌≤◌, rules, T}
pub use Rattle.std.proofs.Crossing.{frees}
pub use Rattle.std.proofs.lemmas.Bool.{eqb-true, and_parts, eq-eqb, leb-true}
pub use Rattle.std.specs.Arc.{arc_value}
pub use Rattle.std.specs.List.{list_all}
pub use Rattle.std.specs.Prelude.{◌==◌, leb}
pub use base.Logic.{ent}
pub use denote.Param.{layout}
pub use denote.Param.Laws.{Laws, param_laws}
pub use denote.Param.Send.{IsSend, IsSync, AllSend, AllSync, part_keyless, struct_sync, struct_send}
pub use denote.SharingLaws.{nothing_shr_laws}
pub use denote.Steps.{heard}
pub use denote.Struct.Lending.{of_Lends, Lends-nothing}
pub use denote.Struct.Owning.{shape, fields, to}
pub use denote.Struct.Struct.{within}
pub use lib.ListN.{get_elem?}
pub use mathlib.Core.Option.{some-injective, some-ne-none}
pub use mir.Syntax.{impl, tnil}
pub use mir.Val.{has_ty}
pub use prog.Atomic.{either}
pub use seplogic.Ra.Ura.{Ura}
pub use types.Kit.{done, use1}
pub use types.Logic.{Logic, sem}
