-- The table of the receiver as a future, but for its drop.
use Rattle.std.specs.Prelude.{ℕ, true, false, List, [], ◌∷◌}
use Rattle.oneshot_machine.specs.declared.machine.receiver.ReceiverPos.{ReceiverPos}
use Rattle.oneshot_machine.specs.declared.machine.receiver.ReceiverPos.TheVariants.{Try, Future}
use Rattle.oneshot_machine.specs.declared.machine.future.FuturePos.{FuturePos}
use Rattle.oneshot_machine.specs.declared.machine.future.FuturePos.TheVariants.{IntoFuture, PollLoad, PollCopy, PollWrite, PollExchange, PollBackFull, PollBackClosed, AgainCopy, AgainExchange}
use Rattle.oneshot_machine.specs.declared.machine.future.FuturePos.TheVariants.{AgainBack, PollOwn, AsyncTryLoad}
use Rattle.oneshot_machine.specs.declared.machine.try_recv.TryPos.TheVariants.{Close}
use Rattle.oneshot_machine.specs.declared.machine.Reply.TheVariants as R
use Rattle.oneshot_machine.specs.declared.machine.Seen.TheVariants.{Done, Word, Refused}
use Rattle.oneshot_machine.specs.declared.machine.Step.{Step}
use Rattle.oneshot_machine.specs.declared.machine.Step.TheVariants as T
use Rattle.oneshot_machine.specs.declared.states.Op.TheVariants as O
use Rattle.oneshot_machine.specs.declared.states.TheConstants.{RECEIVING, UNPARKING, DISCONNECTED, EMPTY, MESSAGE}
use Rattle.oneshot_machine.specs.TableRows.{Goes, Answers, Rows}

abbrev pub future_step : FuturePos → Step
future_step IntoFuture = T.Plain
future_step PollLoad = T.Word O.Load
future_step PollCopy = T.Copy
future_step PollWrite = T.WriteWaker
future_step PollExchange = T.Word (O.Exchange EMPTY RECEIVING)
future_step PollBackFull = T.Withdraw
future_step PollBackClosed = T.Withdraw
future_step AgainCopy = T.Copy
future_step AgainExchange = T.Word (O.Exchange RECEIVING EMPTY)
future_step AgainBack = T.Withdraw
future_step PollOwn = T.WakeOwn
future_step AsyncTryLoad = T.Word O.Load

abbrev pub future_rows : FuturePos → Rows ReceiverPos
future_rows IntoFuture = (Done, Answers R.Future) ∷ []
future_rows PollLoad =
    (Word EMPTY, Goes (Future PollCopy))
    ∷ (Word RECEIVING, Goes (Future AgainCopy))
    ∷ (Word MESSAGE, Goes (Try Close))
    ∷ (Word DISCONNECTED, Answers R.Disconnected)
    ∷ (Word UNPARKING, Goes (Future PollOwn))
    ∷ []
future_rows PollCopy =
    (Refused false, Goes (Future PollWrite)) ∷ (Refused true, Goes (Future PollOwn)) ∷ []
future_rows PollWrite = (Done, Goes (Future PollExchange)) ∷ []
future_rows PollExchange =
    (Word EMPTY, Answers R.Pending)
    ∷ (Word MESSAGE, Goes (Future PollBackFull))
    ∷ (Word DISCONNECTED, Goes (Future PollBackClosed))
    ∷ []
future_rows PollBackFull = (Done, Goes (Try Close)) ∷ []
future_rows PollBackClosed = (Done, Answers R.Disconnected) ∷ []
future_rows AgainCopy =
    (Refused false, Goes (Future AgainExchange)) ∷ (Refused true, Goes (Future PollOwn)) ∷ []
future_rows AgainExchange =
    (Word RECEIVING, Goes (Future AgainBack))
    ∷ (Word MESSAGE, Goes (Try Close))
    ∷ (Word DISCONNECTED, Answers R.Disconnected)
    ∷ (Word UNPARKING, Goes (Future PollOwn))
    ∷ []
future_rows AgainBack = (Done, Goes (Future PollWrite)) ∷ []
future_rows PollOwn = (Done, Answers R.Pending) ∷ []
future_rows AsyncTryLoad =
    (Word MESSAGE, Goes (Try Close))
    ∷ (Word DISCONNECTED, Answers R.Disconnected)
    ∷ (Word EMPTY, Answers R.Empty)
    ∷ (Word RECEIVING, Answers R.Empty)
    ∷ (Word UNPARKING, Answers R.Empty)
    ∷ []

-- the positions, and the number of each in their list
abbrev pub future_positions : List FuturePos
future_positions =
    IntoFuture
    ∷ PollLoad
    ∷ PollCopy
    ∷ PollWrite
    ∷ PollExchange
    ∷ PollBackFull
    ∷ PollBackClosed
    ∷ AgainCopy
    ∷ AgainExchange
    ∷ AgainBack
    ∷ PollOwn
    ∷ AsyncTryLoad
    ∷ []

abbrev pub future_number : FuturePos → ℕ
future_number IntoFuture = 0
future_number PollLoad = 1
future_number PollCopy = 2
future_number PollWrite = 3
future_number PollExchange = 4
future_number PollBackFull = 5
future_number PollBackClosed = 6
future_number AgainCopy = 7
future_number AgainExchange = 8
future_number AgainBack = 9
future_number PollOwn = 10
future_number AsyncTryLoad = 11
