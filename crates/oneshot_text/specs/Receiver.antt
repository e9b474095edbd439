-- The words that ask for a receiver's script, after the line's letter.
use Rattle.std.specs.Prelude.{ℕ, true, false, List, [], ◌∷◌, ◌++◌, map, codes}
use Rattle.oneshot_replay.specs.declared.ReceiverScript.{ReceiverScript}
use Rattle.oneshot_replay.specs.declared.ReceiverCall.{ReceiverCall}
use Rattle.oneshot_replay.specs.declared.ReceiverCall.TheVariants.{TryRecv, RecvRef, RecvDeadline, RecvTimeout, HasMessage, IsClosed}
use Rattle.oneshot_replay.specs.declared.ReceiverLast.{ReceiverLast}
use Rattle.oneshot_replay.specs.declared.ReceiverLast.TheVariants.{Recv, Drop, IntoFuture, Stop}
use Rattle.oneshot_text.specs.Future.{words_of_future, HasNumbers}

abbrev pub word_of_call : ReceiverCall → List ℕ
word_of_call TryRecv = codes "try"
word_of_call RecvRef = codes "ref"
word_of_call RecvDeadline = codes "deadline"
word_of_call (RecvTimeout true) = codes "timeout"
word_of_call (RecvTimeout false) = codes "forever"
word_of_call HasMessage = codes "full"
word_of_call IsClosed = codes "closed"

-- a `Stop` is the line's end
abbrev pub words_of_receiver_last : ReceiverLast → List (List ℕ)
words_of_receiver_last Recv = codes "recv" ∷ []
words_of_receiver_last Drop = codes "drop" ∷ []
words_of_receiver_last (IntoFuture future) = codes "future" ∷ words_of_future future
words_of_receiver_last Stop = []

abbrev pub words_of_receiver : ReceiverScript → List (List ℕ)
words_of_receiver receiver = map word_of_call receiver.calls ++ words_of_receiver_last receiver.last

-- numbers of polls that the program can hold
abbrev pub IsPollable : ReceiverLast → Type 0
IsPollable Recv = Unit {0}
IsPollable Drop = Unit {0}
IsPollable (IntoFuture future) = HasNumbers future.calls
IsPollable Stop = Unit {0}
