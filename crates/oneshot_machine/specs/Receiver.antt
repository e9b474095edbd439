-- The receiver's transition table: where each call begins, and the table of each family of positions.
use Rattle.std.specs.Prelude.{ℕ, ◌+◌, true, false, List, [], ◌∷◌, ◌++◌, map, Option}
use Rattle.oneshot_machine.specs.declared.machine.receiver.ReceiverStart.{ReceiverStart}
use Rattle.oneshot_machine.specs.declared.machine.receiver.ReceiverStart.TheVariants as RS
use Rattle.oneshot_machine.specs.declared.machine.receiver.ReceiverPos.{ReceiverPos}
use Rattle.oneshot_machine.specs.declared.machine.receiver.ReceiverPos.TheVariants.{Look, Try, Ref, Timed, Value, Future, AsyncDrop, Drop}
use Rattle.oneshot_machine.specs.declared.machine.look.LookPos.TheVariants.{LookFull, LookClosed}
use Rattle.oneshot_machine.specs.declared.machine.try_recv.TryPos.TheVariants.{TryLoad}
use Rattle.oneshot_machine.specs.declared.machine.by_ref.RefPos.TheVariants.{StartLoad}
use Rattle.oneshot_machine.specs.declared.machine.timed.TimedPos.TheVariants.{SumClock}
use Rattle.oneshot_machine.specs.declared.machine.value.ValuePos.TheVariants.{RecvLoad}
use Rattle.oneshot_machine.specs.declared.machine.future.FuturePos.TheVariants.{IntoFuture, PollLoad, AsyncTryLoad}
use Rattle.oneshot_machine.specs.declared.machine.async_drop.AsyncDropPos.TheVariants.{AsyncLoad}
use Rattle.oneshot_machine.specs.declared.machine.drop.DropPos.TheVariants.{DropSwap}
use Rattle.oneshot_machine.specs.declared.machine.Seen.{Seen}
use Rattle.oneshot_machine.specs.declared.machine.Step.{Step}
use Rattle.oneshot_machine.specs.TableRows.{Outcome, Rows, row_for}
use Rattle.oneshot_machine.specs.Look.{look_step, look_rows, look_positions, look_number}
use Rattle.oneshot_machine.specs.TryRecv.{try_step, try_rows, try_positions, try_number}
use Rattle.oneshot_machine.specs.ByRef.{ref_step, ref_rows, ref_positions, ref_number}
use Rattle.oneshot_machine.specs.Timed.{timed_step, timed_rows, timed_positions, timed_number}
use Rattle.oneshot_machine.specs.Value.{value_step, value_rows, value_positions, value_number}
use Rattle.oneshot_machine.specs.Future.{future_step, future_rows, future_positions, future_number}
use Rattle.oneshot_machine.specs.AsyncDrop.{async_drop_step, async_drop_rows, async_drop_positions, async_drop_number}
use Rattle.oneshot_machine.specs.Drop.{drop_step, drop_rows, drop_positions, drop_number}

abbrev pub receiver_start : ReceiverStart → ReceiverPos
receiver_start RS.TryRecv = Try TryLoad
receiver_start RS.Recv = Value RecvLoad
receiver_start RS.RecvRef = Ref (StartLoad false)
receiver_start RS.RecvDeadline = Ref (StartLoad true)
receiver_start (RS.RecvTimeout representable) = Timed (SumClock representable)
receiver_start RS.HasMessage = Look LookFull
receiver_start RS.IsClosed = Look LookClosed
receiver_start RS.IntoFuture = Future IntoFuture
receiver_start RS.Poll = Future PollLoad
receiver_start RS.AsyncTryRecv = Future AsyncTryLoad
receiver_start RS.Drop = Drop DropSwap
receiver_start RS.DropAsync = AsyncDrop AsyncLoad

-- the first positions of a receiver's calls, and of a future's, without looks
abbrev pub receiver_opens : List ReceiverPos
receiver_opens =
    map receiver_start
    (RS.TryRecv
    ∷ RS.RecvRef
    ∷ RS.RecvDeadline
    ∷ RS.RecvTimeout true
    ∷ RS.RecvTimeout false
    ∷ RS.Recv
    ∷ RS.IntoFuture
    ∷ RS.Drop
    ∷ [])

abbrev pub future_opens : List ReceiverPos
future_opens = map receiver_start (RS.Poll ∷ RS.AsyncTryRecv ∷ RS.DropAsync ∷ [])

abbrev pub receiver_step : ReceiverPos → Step
receiver_step (Look at) = look_step at
receiver_step (Try at) = try_step at
receiver_step (Ref at) = ref_step at
receiver_step (Timed at) = timed_step at
receiver_step (Value at) = value_step at
receiver_step (Future at) = future_step at
receiver_step (AsyncDrop at) = async_drop_step at
receiver_step (Drop at) = drop_step at

abbrev pub receiver_rows : ReceiverPos → Rows ReceiverPos
receiver_rows (Look at) = look_rows at
receiver_rows (Try at) = try_rows at
receiver_rows (Ref at) = ref_rows at
receiver_rows (Timed at) = timed_rows at
receiver_rows (Value at) = value_rows at
receiver_rows (Future at) = future_rows at
receiver_rows (AsyncDrop at) = async_drop_rows at
receiver_rows (Drop at) = drop_rows at

abbrev pub receiver_row : ReceiverPos → Seen → Option (Outcome ReceiverPos)
receiver_row position seen = row_for seen (receiver_rows position)

-- every position, and a number for each
abbrev pub receiver_positions : List ReceiverPos
receiver_positions =
    map Look look_positions
    ++ map Try try_positions
    ++ map Ref ref_positions
    ++ map Timed timed_positions
    ++ map Value value_positions
    ++ map Future future_positions
    ++ map AsyncDrop async_drop_positions
    ++ map Drop drop_positions

abbrev pub receiver_number : ReceiverPos → ℕ
receiver_number (Look at) = look_number at
receiver_number (Try at) = 2 + try_number at
receiver_number (Ref at) = 6 + ref_number at
receiver_number (Timed at) = 16 + timed_number at
receiver_number (Value at) = 25 + value_number at
receiver_number (Future at) = 35 + future_number at
receiver_number (AsyncDrop at) = 47 + async_drop_number at
receiver_number (Drop at) = 51 + drop_number at

-- how many positions there are
abbrev pub receiver_count : ℕ
receiver_count = 54
