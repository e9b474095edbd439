-- The exit status of each fault: 1 for the system or the channel, 2 for wrong arguments, 3 for no memory.
use Rattle.std.specs.Prelude.{ℕ}
use Rattle.oneshot_loops.specs.declared.fault.Fault.{Fault as RoundsFault}
use Rattle.oneshot_loops.specs.declared.fault.Fault.TheVariants as R
use Rattle.oneshot_loops.specs.declared.command.fault.Fault.{Fault}
use Rattle.oneshot_loops.specs.declared.command.fault.Fault.TheVariants.{BadArguments, WriteFailed, Rounds, OutOfMemory}

abbrev pub status_of_rounds : RoundsFault → ℕ
status_of_rounds R.ClockFailed = 1
status_of_rounds R.MessageLost = 1
status_of_rounds R.CannotRun = 2
status_of_rounds R.TaskFailed = 1
status_of_rounds (R.OutOfMemory refused) = 3

abbrev pub status_of : Fault → ℕ
status_of BadArguments = 2
status_of WriteFailed = 1
status_of (Rounds fault) = status_of_rounds fault
status_of (OutOfMemory refused) = 3
