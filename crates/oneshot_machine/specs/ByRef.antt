-- The table of the receives by reference.
use Rattle.std.specs.Prelude.{ℕ, true, false, List, [], ◌∷◌}
use Rattle.oneshot_machine.specs.declared.machine.receiver.ReceiverPos.{ReceiverPos}
use Rattle.oneshot_machine.specs.declared.machine.receiver.ReceiverPos.TheVariants.{Try, Ref, Timed}
use Rattle.oneshot_machine.specs.declared.machine.by_ref.RefPos.{RefPos}
use Rattle.oneshot_machine.specs.declared.machine.by_ref.RefPos.TheVariants.{StartLoad, StartWrite, StartSwap, BackFull, BackClosed, Park, ParkLoad}
use Rattle.oneshot_machine.specs.declared.machine.try_recv.TryPos.TheVariants.{Close, CloseOnly}
use Rattle.oneshot_machine.specs.declared.machine.timed.TimedPos.TheVariants.{Clock}
use Rattle.oneshot_machine.specs.declared.machine.Reply.TheVariants as R
use Rattle.oneshot_machine.specs.declared.machine.Seen.TheVariants.{Done, Word, Token}
use Rattle.oneshot_machine.specs.declared.machine.Step.{Step}
use Rattle.oneshot_machine.specs.declared.machine.Step.TheVariants as T
use Rattle.oneshot_machine.specs.declared.states.Op.TheVariants as O
use Rattle.oneshot_machine.specs.declared.states.TheConstants.{RECEIVING, UNPARKING, DISCONNECTED, EMPTY, MESSAGE}
use Rattle.oneshot_machine.specs.TableRows.{Goes, Answers, Rows}

abbrev pub ref_step : RefPos → Step
ref_step (StartLoad timed) = T.Word O.Load
ref_step (StartWrite timed) = T.WriteWaker
ref_step (StartSwap timed) = T.Word (O.Swap RECEIVING)
ref_step BackFull = T.Withdraw
ref_step BackClosed = T.Withdraw
ref_step Park = T.Park
ref_step ParkLoad = T.Word O.Load

abbrev pub ref_rows : RefPos → Rows ReceiverPos
ref_rows (StartLoad timed) =
    (Word MESSAGE, Goes (Try Close))
    ∷ (Word DISCONNECTED, Answers R.Disconnected)
    ∷ (Word EMPTY, Goes (Ref (StartWrite timed)))
    ∷ []
ref_rows (StartWrite timed) = (Done, Goes (Ref (StartSwap timed))) ∷ []
ref_rows (StartSwap false) =
    (Word EMPTY, Goes (Ref Park))
    ∷ (Word MESSAGE, Goes (Ref BackFull))
    ∷ (Word DISCONNECTED, Goes (Ref BackClosed))
    ∷ []
ref_rows (StartSwap true) =
    (Word EMPTY, Goes (Timed Clock))
    ∷ (Word MESSAGE, Goes (Ref BackFull))
    ∷ (Word DISCONNECTED, Goes (Ref BackClosed))
    ∷ []
ref_rows BackFull = (Done, Goes (Try Close)) ∷ []
ref_rows BackClosed = (Done, Goes (Try CloseOnly)) ∷ []
ref_rows Park = (Token true, Goes (Ref ParkLoad)) ∷ (Token false, Goes (Ref ParkLoad)) ∷ []
ref_rows ParkLoad =
    (Word MESSAGE, Goes (Try Close))
    ∷ (Word DISCONNECTED, Answers R.Disconnected)
    ∷ (Word RECEIVING, Goes (Ref Park))
    ∷ (Word UNPARKING, Goes (Ref Park))
    ∷ []

-- the positions, and the number of each in their list
abbrev pub ref_positions : List RefPos
ref_positions =
    StartLoad false
    ∷ StartLoad true
    ∷ StartWrite false
    ∷ StartWrite true
    ∷ StartSwap false
    ∷ StartSwap true
    ∷ BackFull
    ∷ BackClosed
    ∷ Park
    ∷ ParkLoad
    ∷ []

abbrev pub ref_number : RefPos → ℕ
ref_number (StartLoad false) = 0
ref_number (StartLoad true) = 1
ref_number (StartWrite false) = 2
ref_number (StartWrite true) = 3
ref_number (StartSwap false) = 4
ref_number (StartSwap true) = 5
ref_number BackFull = 6
ref_number BackClosed = 7
ref_number Park = 8
ref_number ParkLoad = 9
