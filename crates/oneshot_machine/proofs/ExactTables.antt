-- The definitions allow what the tables make: computed for each phase, from an end's positions there.
use Rattle.std.proofs.Common.{List, [], ◌∷◌, ◌++◌, refl}
use Rattle.oneshot_machine.specs.declared.machine.receiver.ReceiverPos.TheVariants.{Try, Ref, Timed, Value, Future, AsyncDrop, Drop}
use Rattle.oneshot_machine.specs.declared.machine.try_recv.TryPos.TheVariants.{TryLoad, Close, CloseOnly}
use Rattle.oneshot_machine.specs.declared.machine.by_ref.RefPos.TheVariants.{StartLoad, StartSwap, ParkLoad}
use Rattle.oneshot_machine.specs.declared.machine.timed.TimedPos.TheVariants.{TimedLoad, EndSwap, LateLoad}
use Rattle.oneshot_machine.specs.declared.machine.value.ValuePos.TheVariants.{RecvLoad, RecvSwap, RecvParkLoad}
use Rattle.oneshot_machine.specs.declared.machine.async_drop.AsyncDropPos.TheVariants.{AsyncLoad, AsyncExchange, AsyncSwap}
use Rattle.oneshot_machine.specs.declared.machine.drop.DropPos.TheVariants.{DropSwap}
use Rattle.oneshot_machine.specs.declared.machine.future.FuturePos.TheVariants as F
use Rattle.oneshot_machine.specs.declared.machine.sender.SenderPos.{SenderPos}
use Rattle.oneshot_machine.specs.declared.machine.sender.SenderPos.TheVariants.{SendAdd, SendFinal, DropXor, DropFinal}
use Rattle.std.specs.Prelude.{true, false}
use Rattle.oneshot_machine.specs.Phases.{sending, dropping, SenderAt, fresh, owes, finished, found_gone, overtaken, no_sender, sender_moves, ReceiverAt, untouched, idle, after_load}
use Rattle.oneshot_machine.specs.Phases.{after_timeout, blocked, polled, again}
use Rattle.oneshot_machine.specs.Phases.{waits, claimed, withdrew, overdue, at_once, waited, swapped, by_future, by_poll, full, overwritten, disconnected, resolved, gone, ended, no_receiver}
use Rattle.oneshot_machine.specs.Phases.{receiver_moves}
use Rattle.oneshot_machine.specs.Standing.{Standpoint, plainly, future_at, sender_table, receiver_table}
use Rattle.oneshot_machine.specs.Exact.{SenderIsExact, ReceiverIsExact}
use Rattle.oneshot_machine.proofs.EachPhase.{at_each_sender, at_each_receiver}
use Rattle.oneshot_machine.proofs.Exactness.{is_exact_at, IsExactAt, is_exact}

-- the positions of a sender at its next operation on the word
abbrev sender_stands : SenderAt → List (List SenderPos)
sender_stands fresh = (SendAdd ∷ DropXor ∷ []) ∷ []
sender_stands (owes sending) = (SendFinal ∷ []) ∷ []
sender_stands (owes dropping) = (DropFinal ∷ []) ∷ []
sender_stands (finished by) = [] ∷ []
sender_stands (found_gone by) = [] ∷ []
sender_stands (overtaken by) = [] ∷ []
sender_stands no_sender = []

-- those of a receiver between its calls, and of a future
abbrev calls : List Standpoint
calls = plainly (Try TryLoad) ∷ plainly (Ref (StartLoad false)) ∷ plainly (Ref (StartLoad true))
    ∷ plainly (Value RecvLoad) ∷ plainly (Drop DropSwap) ∷ []

abbrev polls : List Standpoint
polls = future_at (Future F.PollLoad) ∷ future_at (Future F.AsyncTryLoad) ∷ future_at (AsyncDrop AsyncLoad) ∷ []

-- and those after the load of a call that blocks, of a poll or of a future's drop
abbrev stores : List Standpoint
stores =
    plainly (Ref (StartSwap false))
    ∷ plainly (Ref (StartSwap true))
    ∷ plainly (Value RecvSwap)
    ∷ future_at (Future F.PollExchange)
    ∷ future_at (AsyncDrop AsyncSwap)
    ∷ []

-- Those of a receiver at each phase: one list for each way there that leads to other positions.
abbrev receiver_stands : ReceiverAt → List (List Standpoint)
receiver_stands untouched = (calls ++ polls) ∷ []
receiver_stands (idle after_load) = (calls ++ polls ++ stores) ∷ []
receiver_stands (idle after_timeout) = (calls ++ polls) ∷ []
receiver_stands (waits blocked) =
    (plainly (Ref ParkLoad) ∷ plainly (Timed TimedLoad) ∷ plainly (Timed EndSwap) ∷ plainly (Value RecvParkLoad) ∷ [])
    ∷ []
receiver_stands (waits polled) = polls ∷ []
receiver_stands (waits again) =
    (future_at (Future F.AgainExchange) ∷ future_at (AsyncDrop AsyncExchange) ∷ polls) ∷ []
receiver_stands claimed = (future_at (AsyncDrop AsyncSwap) ∷ polls) ∷ []
receiver_stands withdrew = (future_at (Future F.PollExchange) ∷ future_at (AsyncDrop AsyncSwap) ∷ []) ∷ []
receiver_stands overdue = (plainly (Timed LateLoad) ∷ []) ∷ []
receiver_stands (full at_once) =
    (plainly (Try Close) ∷ future_at (Try Close) ∷ future_at (AsyncDrop AsyncSwap) ∷ []) ∷ []
receiver_stands (full waited) = (plainly (Try Close) ∷ []) ∷ []
receiver_stands (full (swapped by)) = (plainly (Try Close) ∷ []) ∷ []
receiver_stands (full by_future) = (future_at (Try Close) ∷ future_at (AsyncDrop AsyncSwap) ∷ []) ∷ []
receiver_stands (full by_poll) = (future_at (Try Close) ∷ []) ∷ []
receiver_stands (overwritten by) = (plainly (Try CloseOnly) ∷ []) ∷ []
receiver_stands (disconnected closing) =
    (calls ++ polls)
    ∷ (future_at (AsyncDrop AsyncSwap) ∷ calls ++ polls)
    ∷ (future_at (AsyncDrop AsyncSwap) ∷ polls)
    ∷ []
receiver_stands (resolved closing) = polls ∷ []
receiver_stands gone = [] ∷ []
receiver_stands ended = [] ∷ []
receiver_stands no_receiver = []

sender_exact_at : IsExactAt sender_table no_sender sender_moves sender_stands
sender_exact_at = at_each_sender (is_exact_at sender_table no_sender sender_moves sender_stands) refl

receiver_exact_at : IsExactAt receiver_table no_receiver receiver_moves receiver_stands
receiver_exact_at = at_each_receiver (is_exact_at receiver_table no_receiver receiver_moves receiver_stands) refl

pub sender_exact : (T W : Type 0) → SenderIsExact T W
sender_exact = is_exact sender_table no_sender sender_moves sender_stands sender_exact_at fresh refl

pub receiver_exact : (T W : Type 0) → ReceiverIsExact T W
receiver_exact = is_exact receiver_table no_receiver receiver_moves receiver_stands receiver_exact_at untouched refl
