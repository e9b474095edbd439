-- The names of ends, steps, places and wakers in the text of a trace.
use Rattle.std.specs.Prelude.{ℕ, List, ◌++◌, codes, decimal}
use Rattle.oneshot_machine.specs.declared.machine.End.{End}
use Rattle.oneshot_machine.specs.declared.machine.End.TheVariants.{Sender, Receiver}
use Rattle.oneshot_machine.specs.declared.machine.Step.{Step}
use Rattle.oneshot_machine.specs.declared.machine.Step.TheVariants.{Word, WriteMessage, TakeMessage, DropMessage, WriteWaker, TakeWaker, Withdraw, Park, Clock, Wake, WakeOwn, Free, Plain}
use Rattle.oneshot_machine.specs.declared.machine.Step.TheVariants as T
use Rattle.oneshot_machine.specs.declared.states.Op.{Op}
use Rattle.oneshot_machine.specs.declared.states.Op.TheVariants.{Load, Store, Swap, Exchange, Add, Xor}
use Rattle.oneshot_replay.specs.declared.Place.{Place}
use Rattle.oneshot_replay.specs.declared.Place.TheVariants as P
use Rattle.oneshot_replay.specs.declared.WakerName.{WakerName}
use Rattle.oneshot_replay.specs.declared.WakerName.TheVariants.{Parker, Copy}
use Rattle.oneshot_replay.specs.declared.WakerPlace.{WakerPlace}
use Rattle.oneshot_replay.specs.declared.WakerPlace.TheVariants as W

abbrev pub letter_of_end : End → List ℕ
letter_of_end Sender = codes "S"
letter_of_end Receiver = codes "R"

abbrev pub name_of_operation : Op → List ℕ
name_of_operation Load = codes "load"
name_of_operation (Store new) = codes "store"
name_of_operation (Swap new) = codes "swap"
name_of_operation (Exchange current new) = codes "exchange"
name_of_operation Add = codes "add"
name_of_operation Xor = codes "xor"

abbrev pub name_of_step : Step → List ℕ
name_of_step (Word operation) = name_of_operation operation
name_of_step WriteMessage = codes "write-message"
name_of_step TakeMessage = codes "take-message"
name_of_step DropMessage = codes "drop-message"
name_of_step WriteWaker = codes "write-waker"
name_of_step TakeWaker = codes "take-waker"
name_of_step Withdraw = codes "withdraw"
name_of_step Park = codes "park"
name_of_step Clock = codes "clock"
name_of_step T.Copy = codes "copy"
name_of_step Wake = codes "wake"
name_of_step WakeOwn = codes "wake"
name_of_step Free = codes "free"
name_of_step Plain = codes "plain"

abbrev pub name_of_place : Place → List ℕ
name_of_place P.NotSent = codes "NotSent"
name_of_place P.InCell = codes "InCell"
name_of_place P.InError = codes "InError"
name_of_place P.Delivered = codes "Delivered"
name_of_place P.FromError = codes "FromError"
name_of_place P.Dropped = codes "Dropped"

abbrev pub name_of_waker_place : WakerPlace → List ℕ
name_of_waker_place W.New = codes "New"
name_of_waker_place W.Hand = codes "Hand"
name_of_waker_place W.Cell = codes "Cell"
name_of_waker_place W.SenderHand = codes "SenderHand"
name_of_waker_place W.Used = codes "Used"
name_of_waker_place W.Dropped = codes "Dropped"

-- `p` is the parker's half; a copy has its number and the entry that made it
abbrev pub name_of_waker : WakerName → List ℕ
name_of_waker Parker = codes "p"
name_of_waker (Copy number entry) = codes "w" ++ decimal number ++ codes "@" ++ decimal entry
