-- The line of an entry, without its line feed.
use Rattle.std.specs.Prelude.{ℕ, Bool, true, false, List, [], ◌++◌, codes, decimal, Option, Some, None}
use Rattle.oneshot_machine.specs.declared.machine.Reply.{Reply}
use Rattle.oneshot_machine.specs.declared.machine.End.{End}
use Rattle.oneshot_machine.specs.declared.machine.Seen.{Seen}
use Rattle.oneshot_machine.specs.declared.machine.Seen.TheVariants.{Done, Word, Over, Refused, Token}
use Rattle.oneshot_machine.specs.declared.machine.receiver.ReceiverStart.{ReceiverStart}
use Rattle.oneshot_replay.specs.declared.Entry.{Entry}
use Rattle.oneshot_replay.specs.declared.Entry.TheVariants.{Idle, Made as Made_entry}
use Rattle.oneshot_replay.specs.declared.Made.{Made}
use Rattle.oneshot_replay.specs.declared.Place.{Place}
use Rattle.oneshot_replay.specs.declared.WakerName.{WakerName}
use Rattle.oneshot_replay.specs.declared.WakerPlace.{WakerPlace}
use Rattle.oneshot_text.specs.Names.{letter_of_end, name_of_step, name_of_place, name_of_waker, name_of_waker_place}
use Rattle.oneshot_text.specs.ReplyText.{reply_text}

-- the word's code, or a dash once the block is freed
abbrev pub word_text : Option ℕ → List ℕ
word_text (Some code) = decimal code
word_text None = codes "-"

-- Each field that an entry has follows a space.
abbrev pub message_field : Option (Place × Place) → List ℕ
message_field (Some move) = codes " m:" ++ name_of_place move.0 ++ codes ">" ++ name_of_place move.1
message_field None = []

abbrev pub waker_field : Option (WakerName × WakerPlace × WakerPlace) → List ℕ
waker_field (Some move) =
    codes " " ++ name_of_waker move.0 ++ codes ":" ++ name_of_waker_place move.1 ++ codes ">"
    ++ name_of_waker_place move.2
waker_field None = []

-- a wake that set the token
abbrev pub token_field : Bool → List ℕ
token_field true = codes " token+"
token_field false = []

-- what the step found besides the word: a park its token or none, a clock past the deadline or not, a
-- copy that was refused
abbrev pub found_field : Seen → List ℕ
found_field Done = []
found_field (Word code) = []
found_field (Over true) = codes " over"
found_field (Over false) = codes " left"
found_field (Refused true) = codes " refused"
found_field (Refused false) = []
found_field (Token true) = codes " token-"
found_field (Token false) = codes " spurious"

-- the poll's own waker that it woke
abbrev pub own_field : Option ℕ → List ℕ
own_field (Some number) = codes " own:" ++ decimal number
own_field None = []

abbrev pub reply_field : End → Option ReceiverStart → ℕ → Option Reply → List ℕ
reply_field end call message (Some reply) = codes " = " ++ reply_text end call message reply
reply_field end call message None = []

-- a step: its end, its name, the word before and after it, and its fields
abbrev pub made_text : Option ReceiverStart → ℕ → Made → List ℕ
made_text call message made =
    letter_of_end made.side ++ codes " " ++ name_of_step made.step ++ codes " " ++ word_text made.before ++ codes ">"
    ++ word_text made.after
    ++ message_field made.message
    ++ waker_field made.waker
    ++ token_field made.token_set
    ++ found_field made.seen
    ++ own_field made.own
    ++ reply_field made.side call message made.reply

-- The entry with this number. `call` is the call that the receiver has under way or next, and `message`
-- is the script's.
abbrev pub entry_text : ℕ → Option ReceiverStart → ℕ → Entry → List ℕ
entry_text number call message (Idle end) = decimal number ++ codes " " ++ letter_of_end end ++ codes " idle"
entry_text number call message (Made_entry made) = decimal number ++ codes " " ++ made_text call message made
