-- The table of the receives with a deadline.
use Rattle.std.specs.Prelude.{ℕ, true, false, List, [], ◌∷◌}
use Rattle.oneshot_machine.specs.declared.machine.receiver.ReceiverPos.{ReceiverPos}
use Rattle.oneshot_machine.specs.declared.machine.receiver.ReceiverPos.TheVariants.{Try, Ref, Timed}
use Rattle.oneshot_machine.specs.declared.machine.timed.TimedPos.{TimedPos}
use Rattle.oneshot_machine.specs.declared.machine.timed.TimedPos.TheVariants.{SumClock, Clock, TimedPark, TimedLoad, EndSwap, EndBack, LatePark, LateLoad}
use Rattle.oneshot_machine.specs.declared.machine.try_recv.TryPos.TheVariants.{Close, CloseOnly}
use Rattle.oneshot_machine.specs.declared.machine.by_ref.RefPos.TheVariants.{StartLoad}
use Rattle.oneshot_machine.specs.declared.machine.Reply.TheVariants as R
use Rattle.oneshot_machine.specs.declared.machine.Seen.TheVariants.{Done, Word, Over, Token}
use Rattle.oneshot_machine.specs.declared.machine.Step.{Step}
use Rattle.oneshot_machine.specs.declared.machine.Step.TheVariants as T
use Rattle.oneshot_machine.specs.declared.states.Op.TheVariants as O
use Rattle.oneshot_machine.specs.declared.states.TheConstants.{RECEIVING, UNPARKING, DISCONNECTED, EMPTY, MESSAGE}
use Rattle.oneshot_machine.specs.TableRows.{Goes, Answers, Rows}

abbrev pub timed_step : TimedPos → Step
timed_step (SumClock representable) = T.Clock
timed_step Clock = T.Clock
timed_step TimedPark = T.Park
timed_step TimedLoad = T.Word O.Load
timed_step EndSwap = T.Word (O.Swap EMPTY)
timed_step EndBack = T.Withdraw
timed_step LatePark = T.Park
timed_step LateLoad = T.Word O.Load

abbrev pub timed_rows : TimedPos → Rows ReceiverPos
timed_rows (SumClock representable) =
    (Over true, Goes (Ref (StartLoad representable))) ∷ (Over false, Goes (Ref (StartLoad representable))) ∷ []
timed_rows Clock = (Over false, Goes (Timed TimedPark)) ∷ (Over true, Goes (Timed EndSwap)) ∷ []
timed_rows TimedPark =
    (Token true, Goes (Timed TimedLoad)) ∷ (Token false, Goes (Timed TimedLoad)) ∷ []
timed_rows TimedLoad =
    (Word MESSAGE, Goes (Try Close))
    ∷ (Word DISCONNECTED, Answers R.Disconnected)
    ∷ (Word RECEIVING, Goes (Timed Clock))
    ∷ (Word UNPARKING, Goes (Timed Clock))
    ∷ []
timed_rows EndSwap =
    (Word RECEIVING, Goes (Timed EndBack))
    ∷ (Word MESSAGE, Goes (Try Close))
    ∷ (Word DISCONNECTED, Goes (Try CloseOnly))
    ∷ (Word UNPARKING, Goes (Timed LatePark))
    ∷ []
timed_rows EndBack = (Done, Answers R.Timeout) ∷ []
timed_rows LatePark =
    (Token true, Goes (Timed LateLoad)) ∷ (Token false, Goes (Timed LateLoad)) ∷ []
timed_rows LateLoad =
    (Word MESSAGE, Goes (Try Close))
    ∷ (Word DISCONNECTED, Answers R.Disconnected)
    ∷ (Word EMPTY, Goes (Timed LatePark))
    ∷ []

-- the positions, and the number of each in their list
abbrev pub timed_positions : List TimedPos
timed_positions =
    SumClock false
    ∷ SumClock true
    ∷ Clock
    ∷ TimedPark
    ∷ TimedLoad
    ∷ EndSwap
    ∷ EndBack
    ∷ LatePark
    ∷ LateLoad
    ∷ []

abbrev pub timed_number : TimedPos → ℕ
timed_number (SumClock false) = 0
timed_number (SumClock true) = 1
timed_number Clock = 2
timed_number TimedPark = 3
timed_number TimedLoad = 4
timed_number EndSwap = 5
timed_number EndBack = 6
timed_number LatePark = 7
timed_number LateLoad = 8
