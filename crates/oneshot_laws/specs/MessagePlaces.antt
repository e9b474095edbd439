-- The message is always in one place: the moves that the trace shows are a path.
use Rattle.std.specs.Prelude.{ℕ, Bool, true, false, ◌&&◌, ◌||◌, ◌==◌, List, [], ◌∷◌, Option, Some, None}
use Rattle.std.specs.List.{list_any, list_all, filter_map}
use Rattle.oneshot_machine.specs.declared.machine.Reply.{Reply}
use Rattle.oneshot_machine.specs.declared.machine.Reply.TheVariants as R
use Rattle.oneshot_machine.specs.declared.machine.sender.SenderCall.TheVariants as SC
use Rattle.oneshot_world.specs.Calls.{Call, Calls, Of_sender}
use Rattle.oneshot_world.specs.declared.trace.Entry.{Entry}
use Rattle.oneshot_world.specs.declared.trace.Entry.TheVariants.{Idle, Made as Made_entry}
use Rattle.oneshot_world.specs.declared.trace.Made.{Made}
use Rattle.oneshot_world.specs.declared.trace.Place.{Place}
use Rattle.oneshot_world.specs.declared.trace.Place.TheVariants.{NotSent, InCell, InError, Delivered, FromError, Dropped}
use Rattle.oneshot_laws.specs.Entries.{only_if, is_reply}
use Rattle.oneshot_laws.specs.Actions.{is_send, is_receive, is_into_inner, is_drop_of_receiver, is_drop_of_error}
use Rattle.oneshot_laws.specs.Marks.{Mark}
use Rattle.oneshot_laws.specs.Ended.{all_ended}

-- the trace without its idle entries
abbrev pub made_entries : List Entry → List Made
made_entries [] = []
made_entries (Idle side ∷ entries) = made_entries entries
made_entries (Made_entry e ∷ entries) = e ∷ made_entries entries

-- A path: each move is allowed, and leaves the place that the move before it reached.
abbrev pub is_path : {P : Type 0} → (P → P → Bool) → (P → P → Bool) → P → List (P × P) → Bool
is_path is_same is_allowed place [] = true
is_path is_same is_allowed place (move ∷ moves) =
    is_same move.0 place && is_allowed move.0 move.1 && is_path is_same is_allowed move.1 moves

abbrev pub last_place : {P : Type 0} → P → List (P × P) → P
last_place place [] = place
last_place place (move ∷ moves) = last_place move.1 moves

abbrev pub place_code : Place → ℕ
place_code NotSent = 0
place_code InCell = 1
place_code InError = 2
place_code Delivered = 3
place_code FromError = 4
place_code Dropped = 5

abbrev pub is_same_place : Place → Place → Bool
is_same_place a b = place_code a == place_code b

abbrev pub is_message_move : Place → Place → Bool
is_message_move NotSent InCell = true
is_message_move InCell InError = true
is_message_move InCell Delivered = true
is_message_move InCell Dropped = true
is_message_move InError FromError = true
is_message_move InError Dropped = true
is_message_move _ _ = false

abbrev pub message_moves : List Entry → List (Place × Place)
message_moves entries = filter_map (λ e. e.message) (made_entries entries)

-- whether the scripts have a message
abbrev pub has_message : Calls → Bool
has_message c = list_any is_send c.sender

-- the message begins as not sent, and follows a path; without a message nothing moves
abbrev pub is_message_followed : Calls → List Entry → Bool
is_message_followed c entries =
    is_path is_same_place (λ from to. has_message c && is_message_move from to) NotSent (message_moves entries)

abbrev pub last_message_place : List Entry → Place
last_message_place entries = last_place NotSent (message_moves entries)

-- where the message of a `send` may be once all have ended
abbrev pub is_message_end : Place → Bool
is_message_end Delivered = true
is_message_end FromError = true
is_message_end Dropped = true
is_message_end _ = false

abbrev pub is_message_ended : List Entry → List Mark → Bool
is_message_ended entries ms =
    only_if (all_ended ms && list_any (λ m. is_send m.call) ms) (is_message_end (last_message_place entries))

-- which call may move the message to a place; into the error it is moved only by a send that is refused
abbrev pub may_put : Call → Option Reply → Place → Bool
may_put call reply NotSent = false
may_put call reply InCell = is_send call
may_put call reply InError = is_send call && is_reply R.Refused reply
may_put call reply Delivered = is_receive call
may_put call reply FromError = is_into_inner call
may_put call reply Dropped = is_drop_of_receiver call || is_drop_of_error call

abbrev pub is_message_put : List Mark → Bool
is_message_put ms =
    list_all (λ m. elim m.entry.message [ None ↦ true | Some move ↦ may_put m.call m.entry.reply move.1 ]) ms

-- where the message is after a step
abbrev pub message_goes_to : Place → Option (Place × Place) → Place
message_goes_to place None = place
message_goes_to place (Some move) = move.1

-- where the message has to be if this call's reply has it: `as_inner` leaves it in the error, `into_inner` takes it
-- out, and a receive gets it
abbrev pub place_for : Call → Place
place_for (Of_sender SC.AsInner) = InError
place_for (Of_sender SC.IntoInner) = FromError
place_for _ = Delivered

-- whether this reply of this call fits this place of the message: after a refused `send` it is in the error
abbrev pub is_reply_placed : Call → Option Reply → Place → Bool
is_reply_placed call reply place =
    only_if (is_reply R.Refused reply) (is_same_place place InError)
    && only_if (is_reply R.Message reply) (is_same_place place (place_for call))

abbrev pub are_replies_placed : Place → List Mark → Bool
are_replies_placed place [] = true
are_replies_placed place (m ∷ ms) =
    is_reply_placed m.call m.entry.reply (message_goes_to place m.entry.message)
    && are_replies_placed (message_goes_to place m.entry.message) ms

-- each reply that has the message comes once the message is where the reply says
abbrev pub is_message_there : List Mark → Bool
is_message_there ms = are_replies_placed NotSent ms
