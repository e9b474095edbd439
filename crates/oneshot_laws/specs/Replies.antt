-- Six laws of the calls' replies, over every trace.
use Rattle.std.specs.Prelude.{Bool, true, false, not, ◌&&◌, List, [], ◌∷◌, Some, None, filter, is_some}
use Rattle.std.specs.List.{list_any, list_all}
use Rattle.oneshot_machine.specs.declared.machine.Reply.{Reply}
use Rattle.oneshot_machine.specs.declared.machine.Reply.TheVariants as R
use Rattle.oneshot_world.specs.Calls.{Call}
use Rattle.oneshot_world.specs.declared.trace.Place.{Place}
use Rattle.oneshot_world.specs.declared.trace.Place.TheVariants as P
use Rattle.oneshot_laws.specs.Entries.{only_if, is_reply, is_nothing_yet}
use Rattle.oneshot_laws.specs.Object.{is_open_content}
use Rattle.oneshot_laws.specs.Actions.{is_receive, is_send, is_sender_look, is_full_look, is_closed_look, is_drop_of_receiver}
use Rattle.oneshot_laws.specs.Marks.{Mark, after_each, each_call}
use Rattle.oneshot_laws.specs.History.{agrees}
use Rattle.oneshot_laws.specs.Ended.{has_answered}

-- a call that passes the test has this reply at this mark
abbrev pub answers : (Call → Bool) → Reply → Mark → Bool
answers test reply m = test m.call && is_reply reply m.entry.reply

-- if a call that passes the test replies at this mark, it has this reply
abbrev pub answers_only : (Call → Bool) → Reply → Mark → Bool
answers_only test reply m = only_if (test m.call) (agrees m.entry.reply (Some reply))

-- after an Ok of a receive, every later receive that replies returns `Disconnected`
abbrev pub is_gone_after_got : List Mark → Bool
is_gone_after_got ms =
    after_each (answers is_receive R.Message) (list_all (answers_only is_receive R.Disconnected)) ms

-- the first receive that replies returns the message
abbrev pub next_receive_gets : List Mark → Bool
next_receive_gets [] = true
next_receive_gets (m ∷ later) =
    elim (is_receive m.call && is_some m.entry.reply) [
      | true ↦ is_reply R.Message m.entry.reply
      | false ↦ next_receive_gets later
    ]

-- after `has_message` returned true, the receiver's next receive that replies returns the message
abbrev pub is_got_after_full : List Mark → Bool
is_got_after_full ms = after_each (answers is_full_look R.Yes) next_receive_gets ms

-- after the receiver's `is_closed` returned true, every later receive that replies returns `Disconnected`,
-- and every later `is_closed` true
abbrev pub is_gone_after_closed : List Mark → Bool
is_gone_after_closed ms =
    after_each (answers is_closed_look R.Yes)
    (list_all (λ m. answers_only is_receive R.Disconnected m && answers_only is_closed_look R.Yes m)) ms

-- after the sender's `is_closed` returned true, its send returns Err if it replies
abbrev pub is_refused_after_closed : List Mark → Bool
is_refused_after_closed ms = after_each (answers is_sender_look R.Yes) (list_all (answers_only is_send R.Refused)) ms

-- a call replies "nothing yet" only if the object was open at one of its entries
abbrev pub is_nothing_only_if_open : List Mark → Bool
is_nothing_only_if_open ms =
    each_call (λ own. only_if (list_any (λ m. is_nothing_yet m.entry.reply) own)
    (list_any (λ m. is_open_content m.object.content) own)) ms

abbrev pub is_dropped : Place → Bool
is_dropped P.Dropped = true
is_dropped _ = false

-- the message is dropped in this entry
abbrev pub is_dropping : Mark → Bool
is_dropping m = elim m.entry.message [ None ↦ false | Some move ↦ is_dropped move.1 ]

abbrev pub is_one_by_receiver : List Mark → Bool
is_one_by_receiver [] = false
is_one_by_receiver (m ∷ []) = is_drop_of_receiver m.call
is_one_by_receiver (m ∷ _ ∷ _) = false

-- a message sent with Ok and never taken is dropped once, by the receiver's drop, if that drop has replied
abbrev pub is_dropped_once : List Mark → Bool
is_dropped_once ms =
    only_if
    (list_any (answers is_send R.Sent) ms
    && not (list_any (answers is_receive R.Message) ms)
    && has_answered is_drop_of_receiver ms)
    (is_one_by_receiver (filter is_dropping ms))
