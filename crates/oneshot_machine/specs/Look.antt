-- The table of the receiver's looks.
use Rattle.std.specs.Prelude.{ℕ, List, [], ◌∷◌}
use Rattle.oneshot_machine.specs.declared.machine.receiver.ReceiverPos.{ReceiverPos}
use Rattle.oneshot_machine.specs.declared.machine.look.LookPos.{LookPos}
use Rattle.oneshot_machine.specs.declared.machine.look.LookPos.TheVariants.{LookFull, LookClosed}
use Rattle.oneshot_machine.specs.declared.machine.Reply.TheVariants as R
use Rattle.oneshot_machine.specs.declared.machine.Seen.TheVariants.{Word}
use Rattle.oneshot_machine.specs.declared.machine.Step.{Step}
use Rattle.oneshot_machine.specs.declared.machine.Step.TheVariants as T
use Rattle.oneshot_machine.specs.declared.states.Op.TheVariants as O
use Rattle.oneshot_machine.specs.declared.states.TheConstants.{RECEIVING, UNPARKING, DISCONNECTED, EMPTY, MESSAGE}
use Rattle.oneshot_machine.specs.TableRows.{Answers, Rows}

abbrev pub look_step : LookPos → Step
look_step LookFull = T.Word O.Load
look_step LookClosed = T.Word O.Load

abbrev pub look_rows : LookPos → Rows ReceiverPos
look_rows LookFull =
    (Word MESSAGE, Answers R.Yes)
    ∷ (Word RECEIVING, Answers R.No)
    ∷ (Word UNPARKING, Answers R.No)
    ∷ (Word DISCONNECTED, Answers R.No)
    ∷ (Word EMPTY, Answers R.No)
    ∷ []
look_rows LookClosed =
    (Word DISCONNECTED, Answers R.Yes)
    ∷ (Word RECEIVING, Answers R.No)
    ∷ (Word UNPARKING, Answers R.No)
    ∷ (Word EMPTY, Answers R.No)
    ∷ (Word MESSAGE, Answers R.No)
    ∷ []

-- the positions, and the number of each in their list
abbrev pub look_positions : List LookPos
look_positions = LookFull ∷ LookClosed ∷ []

abbrev pub look_number : LookPos → ℕ
look_number LookFull = 0
look_number LookClosed = 1
