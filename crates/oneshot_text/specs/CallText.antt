-- The call that an entry belongs to, by its word in a script, and an entry's line with that call.
use Rattle.std.specs.Prelude.{ℕ, true, false, List, [], ◌++◌, codes, Option, Some, None}
use Rattle.std.specs.Option.{option_map}
use Rattle.oneshot_machine.specs.declared.machine.End.{End}
use Rattle.oneshot_machine.specs.declared.machine.End.TheVariants.{Sender, Receiver}
use Rattle.oneshot_machine.specs.declared.machine.receiver.ReceiverStart.{ReceiverStart}
use Rattle.oneshot_machine.specs.declared.machine.receiver.ReceiverStart.TheVariants as C
use Rattle.oneshot_machine.specs.declared.machine.sender.SenderCall.{SenderCall}
use Rattle.oneshot_machine.specs.declared.machine.sender.SenderCall.TheVariants as S
use Rattle.oneshot_replay.specs.declared.Entry.{Entry}
use Rattle.oneshot_replay.specs.declared.Entry.TheVariants.{Idle, Made as Made_entry}
use Rattle.oneshot_text.specs.EntryText.{entry_text}
use Rattle.oneshot_text.specs.declared.show.entry.EntryLine.{EntryLine}

abbrev pub word_of_sender_call : SenderCall → List ℕ
word_of_sender_call S.IsClosed = codes "closed"
word_of_sender_call S.Send = codes "send"
word_of_sender_call S.Drop = codes "drop"
word_of_sender_call S.AsInner = codes "inner"
word_of_sender_call S.IntoInner = codes "into"
word_of_sender_call S.DropError = codes "drop"

abbrev pub word_of_receiver_call : ReceiverStart → List ℕ
word_of_receiver_call C.TryRecv = codes "try"
word_of_receiver_call C.Recv = codes "recv"
word_of_receiver_call C.RecvRef = codes "ref"
word_of_receiver_call C.RecvDeadline = codes "deadline"
word_of_receiver_call (C.RecvTimeout true) = codes "timeout"
word_of_receiver_call (C.RecvTimeout false) = codes "forever"
word_of_receiver_call C.HasMessage = codes "full"
word_of_receiver_call C.IsClosed = codes "closed"
word_of_receiver_call C.IntoFuture = codes "future"
word_of_receiver_call C.Poll = codes "poll"
word_of_receiver_call C.AsyncTryRecv = codes "try"
word_of_receiver_call C.Drop = codes "drop"
word_of_receiver_call C.DropAsync = codes "drop"

-- the word of this end's call
abbrev pub word_of_end : End → Option SenderCall → Option ReceiverStart → Option (List ℕ)
word_of_end Sender sending receiving = option_map word_of_sender_call sending
word_of_end Receiver sending receiving = option_map word_of_receiver_call receiving

-- The word of the call that an entry belongs to, where these are both ends' calls before it. An idle entry belongs
-- to none.
abbrev pub word_of_entry : Option SenderCall → Option ReceiverStart → Entry → Option (List ℕ)
word_of_entry sending receiving (Idle end) = None
word_of_entry sending receiving (Made_entry made) = word_of_end made.side sending receiving

abbrev pub call_field : Option (List ℕ) → List ℕ
call_field (Some word) = codes " (" ++ word ++ codes ")"
call_field None = []

-- an entry's line, and after it the call in brackets
abbrev pub called_text : EntryLine → List ℕ
called_text e =
    entry_text e.number e.call e.message e.entry ++ call_field (word_of_entry e.sender_call e.call e.entry)
