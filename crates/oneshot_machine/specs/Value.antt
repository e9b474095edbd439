-- The table of `recv`, which frees the block itself.
use Rattle.std.specs.Prelude.{ℕ, true, false, List, [], ◌∷◌}
use Rattle.oneshot_machine.specs.declared.machine.receiver.ReceiverPos.{ReceiverPos}
use Rattle.oneshot_machine.specs.declared.machine.receiver.ReceiverPos.TheVariants.{Value}
use Rattle.oneshot_machine.specs.declared.machine.value.ValuePos.{ValuePos}
use Rattle.oneshot_machine.specs.declared.machine.value.ValuePos.TheVariants.{RecvLoad, RecvWrite, RecvSwap, RecvBackFull, RecvBackClosed, RecvPark, RecvParkLoad, RecvTake, RecvFreeGot, RecvFreeGone}
use Rattle.oneshot_machine.specs.declared.machine.Reply.TheVariants as R
use Rattle.oneshot_machine.specs.declared.machine.Seen.TheVariants.{Done, Word, Token}
use Rattle.oneshot_machine.specs.declared.machine.Step.{Step}
use Rattle.oneshot_machine.specs.declared.machine.Step.TheVariants as T
use Rattle.oneshot_machine.specs.declared.states.Op.TheVariants as O
use Rattle.oneshot_machine.specs.declared.states.TheConstants.{RECEIVING, UNPARKING, DISCONNECTED, EMPTY, MESSAGE}
use Rattle.oneshot_machine.specs.TableRows.{Goes, Answers, Rows}

abbrev pub value_step : ValuePos → Step
value_step RecvLoad = T.Word O.Load
value_step RecvWrite = T.WriteWaker
value_step RecvSwap = T.Word (O.Swap RECEIVING)
value_step RecvBackFull = T.Withdraw
value_step RecvBackClosed = T.Withdraw
value_step RecvPark = T.Park
value_step RecvParkLoad = T.Word O.Load
value_step RecvTake = T.TakeMessage
value_step RecvFreeGot = T.Free
value_step RecvFreeGone = T.Free

abbrev pub value_rows : ValuePos → Rows ReceiverPos
value_rows RecvLoad =
    (Word MESSAGE, Goes (Value RecvTake))
    ∷ (Word DISCONNECTED, Goes (Value RecvFreeGone))
    ∷ (Word EMPTY, Goes (Value RecvWrite))
    ∷ []
value_rows RecvWrite = (Done, Goes (Value RecvSwap)) ∷ []
value_rows RecvSwap =
    (Word EMPTY, Goes (Value RecvPark))
    ∷ (Word MESSAGE, Goes (Value RecvBackFull))
    ∷ (Word DISCONNECTED, Goes (Value RecvBackClosed))
    ∷ []
value_rows RecvBackFull = (Done, Goes (Value RecvTake)) ∷ []
value_rows RecvBackClosed = (Done, Goes (Value RecvFreeGone)) ∷ []
value_rows RecvPark =
    (Token true, Goes (Value RecvParkLoad)) ∷ (Token false, Goes (Value RecvParkLoad)) ∷ []
value_rows RecvParkLoad =
    (Word MESSAGE, Goes (Value RecvTake))
    ∷ (Word DISCONNECTED, Goes (Value RecvFreeGone))
    ∷ (Word RECEIVING, Goes (Value RecvPark))
    ∷ (Word UNPARKING, Goes (Value RecvPark))
    ∷ []
value_rows RecvTake = (Done, Goes (Value RecvFreeGot)) ∷ []
value_rows RecvFreeGot = (Done, Answers R.Message) ∷ []
value_rows RecvFreeGone = (Done, Answers R.Disconnected) ∷ []

-- the positions, and the number of each in their list
abbrev pub value_positions : List ValuePos
value_positions =
    RecvLoad
    ∷ RecvWrite
    ∷ RecvSwap
    ∷ RecvBackFull
    ∷ RecvBackClosed
    ∷ RecvPark
    ∷ RecvParkLoad
    ∷ RecvTake
    ∷ RecvFreeGot
    ∷ RecvFreeGone
    ∷ []

abbrev pub value_number : ValuePos → ℕ
value_number RecvLoad = 0
value_number RecvWrite = 1
value_number RecvSwap = 2
value_number RecvBackFull = 3
value_number RecvBackClosed = 4
value_number RecvPark = 5
value_number RecvParkLoad = 6
value_number RecvTake = 7
value_number RecvFreeGot = 8
value_number RecvFreeGone = 9
