-- Bounds: a call's operations on the word, and how soon a receiver's call ends once the sender is done.
use Rattle.std.specs.Prelude.{ℕ, zero, suc, Bool, true, not, ◌&&◌, List, [], ◌∷◌, Option, Some, None, if◌then◌else◌}
use Rattle.oneshot_machine.specs.declared.machine.End.TheVariants.{Sender, Receiver}
use Rattle.oneshot_machine.specs.declared.machine.receiver.ReceiverStart.TheVariants as RC
use Rattle.oneshot_machine.specs.Counts.{sender_bound, receiver_bound}
use Rattle.oneshot_world.specs.Calls.{Call, Of_sender, Of_receiver, Poll, Stray}
use Rattle.oneshot_laws.specs.Entries.{is_same_end, is_word}
use Rattle.oneshot_laws.specs.Marks.{Mark, finishes, side, call_marks, each_call, after_each}

-- at most so many of these marks pass a test
abbrev pub at_most : ℕ → (Mark → Bool) → List Mark → Bool
at_most limit test [] = true
at_most zero test (m ∷ ms) = not (test m) && at_most zero test ms
at_most (suc limit) test (m ∷ ms) = if test m then at_most limit test ms else at_most (suc limit) test ms

-- an operation on the word
abbrev pub operates : Mark → Bool
operates m = is_word m.entry.step

-- the most operations that a call performs, if it has a bound
abbrev pub bound_of : Call → Option ℕ
bound_of (Of_sender call) = sender_bound call
bound_of (Of_receiver call) = receiver_bound call
bound_of (Poll number) = receiver_bound RC.Poll
bound_of Stray = None

abbrev pub is_within : Option ℕ → List Mark → Bool
is_within None own = true
is_within (Some limit) own = at_most limit operates own

abbrev pub is_bounded : List Mark → Bool
is_bounded [] = true
is_bounded (m ∷ later) = is_within (bound_of m.call) (m ∷ later)

abbrev pub are_calls_bounded : List Mark → Bool
are_calls_bounded ms = each_call is_bounded ms

-- the sender's last operation on the word
abbrev pub is_senders_last : Mark → Bool
is_senders_last m = is_same_end (side m) Sender && finishes m.entry

abbrev pub each_move : Mark → Bool
each_move m = true

-- from each mark on, the receiver's call that is under way or begins next has at most two operations and six
-- moves until its reply
abbrev pub answers_soon : List Mark → Bool
answers_soon [] = true
answers_soon (m ∷ later) =
    at_most 2 operates (call_marks Receiver (m ∷ later))
    && at_most 6 each_move (call_marks Receiver (m ∷ later))
    && answers_soon later

abbrev pub is_soon_answered : List Mark → Bool
is_soon_answered ms = after_each is_senders_last answers_soon ms
