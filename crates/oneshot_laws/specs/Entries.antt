-- Tests of an entry: its end, its reply, its operation or other step, and the word that it found.
use Rattle.std.specs.Prelude.{ℕ, Bool, true, false, not, ◌||◌, ◌==◌, Option, Some, None}
use Rattle.oneshot_machine.specs.declared.machine.End.{End}
use Rattle.oneshot_machine.specs.declared.machine.End.TheVariants.{Sender, Receiver}
use Rattle.oneshot_machine.specs.declared.machine.Reply.{Reply}
use Rattle.oneshot_machine.specs.declared.machine.Reply.TheVariants as R
use Rattle.oneshot_machine.specs.declared.machine.Step.{Step}
use Rattle.oneshot_machine.specs.declared.machine.Step.TheVariants as T
use Rattle.oneshot_machine.specs.declared.states.Op.TheVariants.{Load, Swap, Add, Xor}

-- a claim under a condition
abbrev pub only_if : Bool → Bool → Bool
only_if condition claim = not condition || claim

abbrev pub is_same_end : End → End → Bool
is_same_end Sender Sender = true
is_same_end Sender Receiver = false
is_same_end Receiver Sender = false
is_same_end Receiver Receiver = true

abbrev pub reply_code : Reply → ℕ
reply_code R.Sent = 0
reply_code R.Refused = 1
reply_code R.Yes = 2
reply_code R.No = 3
reply_code R.Message = 4
reply_code R.Empty = 5
reply_code R.Timeout = 6
reply_code R.Disconnected = 7
reply_code R.Pending = 8
reply_code R.Future = 9
reply_code R.Done = 10

abbrev pub is_same_reply : Reply → Reply → Bool
is_same_reply a b = reply_code a == reply_code b

abbrev pub is_reply : Reply → Option Reply → Bool
is_reply reply None = false
is_reply reply (Some other) = is_same_reply reply other

-- the replies for "nothing yet"
abbrev pub says_nothing_yet : Reply → Bool
says_nothing_yet reply = is_same_reply reply R.Empty || is_same_reply reply R.Timeout || is_same_reply reply R.Pending

abbrev pub is_nothing_yet : Option Reply → Bool
is_nothing_yet None = false
is_nothing_yet (Some reply) = says_nothing_yet reply

-- the operation on the word that a step is
abbrev pub is_word : Step → Bool
is_word (T.Word op) = true
is_word _ = false

abbrev pub is_load : Step → Bool
is_load (T.Word Load) = true
is_load _ = false

abbrev pub is_add_or_xor : Step → Bool
is_add_or_xor (T.Word Add) = true
is_add_or_xor (T.Word Xor) = true
is_add_or_xor _ = false

abbrev pub is_swap : Step → Bool
is_swap (T.Word (Swap new)) = true
is_swap _ = false

abbrev pub is_swap_of : ℕ → Step → Bool
is_swap_of word (T.Word (Swap new)) = new == word
is_swap_of word _ = false

abbrev pub is_free : Step → Bool
is_free T.Free = true
is_free _ = false

-- a step on the message's cell, or on the waker's
abbrev pub is_on_a_cell : Step → Bool
is_on_a_cell T.WriteMessage = true
is_on_a_cell T.TakeMessage = true
is_on_a_cell T.DropMessage = true
is_on_a_cell T.WriteWaker = true
is_on_a_cell T.TakeWaker = true
is_on_a_cell T.Withdraw = true
is_on_a_cell _ = false

-- whether the word before a step was this one
abbrev pub found : ℕ → Option ℕ → Bool
found word None = false
found word (Some before) = before == word
