-- The most operations left at each position of the calls that have a bound, and so in a run of such a call.
use Rattle.std.proofs.Common.{◌≡◌, ℕ, ◌≤◌, true, List, Option, Some, None, refl}
use Rattle.std.specs.Prelude.{length}
use Rattle.oneshot_machine.specs.declared.machine.Reply.{Reply}
use Rattle.oneshot_machine.specs.declared.machine.Seen.{Seen}
use Rattle.oneshot_machine.specs.declared.machine.Step.{Step}
use Rattle.oneshot_machine.specs.declared.machine.receiver.ReceiverStart.TheVariants as C
use Rattle.oneshot_machine.specs.declared.machine.receiver.ReceiverPos.{ReceiverPos}
use Rattle.oneshot_machine.specs.declared.machine.receiver.ReceiverPos.TheVariants.{Try, Future, AsyncDrop, Drop}
use Rattle.oneshot_machine.specs.declared.machine.try_recv.TryPos.TheVariants.{TryLoad, Close, Take}
use Rattle.oneshot_machine.specs.declared.machine.future.FuturePos.TheVariants.{PollLoad, PollCopy, PollWrite, PollExchange, PollBackFull, PollBackClosed, AgainCopy, AgainExchange, AgainBack, PollOwn}
use Rattle.oneshot_machine.specs.declared.machine.future.FuturePos.TheVariants.{AsyncTryLoad}
use Rattle.oneshot_machine.specs.declared.machine.async_drop.AsyncDropPos.TheVariants.{AsyncLoad, AsyncExchange, AsyncBack, AsyncSwap}
use Rattle.oneshot_machine.specs.declared.machine.drop.DropPos.TheVariants.{DropSwap, DropMessage, DropFree}
use Rattle.oneshot_machine.specs.declared.machine.sender.SenderCall.TheVariants as S
use Rattle.oneshot_machine.specs.declared.machine.sender.SenderPos.{SenderPos}
use Rattle.oneshot_machine.specs.declared.machine.sender.SenderPos.TheVariants.{SendWrite, SendAdd, SendTakeWaker, SendFinal, SendWake, SendLateWake, DropXor, DropTakeWaker, DropFinal, DropWake}
use Rattle.oneshot_machine.specs.declared.machine.sender.SenderPos.TheVariants.{DropLateWake, DropFree as SenderFree}
use Rattle.oneshot_machine.specs.Logs.{Event, Log, words}
use Rattle.oneshot_machine.specs.Receiver.{receiver_start, receiver_step, receiver_rows, receiver_row}
use Rattle.oneshot_machine.specs.Runs.{Run, Ran, SenderRan, ReceiverRan}
use Rattle.oneshot_machine.specs.Sender.{sender_step, sender_rows, sender_row}
use Rattle.oneshot_machine.specs.TableRows.{Outcome}
use Rattle.oneshot_machine.specs.Counts.{sender_bound, receiver_bound, MakesWithin}
use Rattle.oneshot_machine.proofs.GrownLogs.{words_after}
use Rattle.oneshot_machine.proofs.CountedRuns.{pays, at_most}

abbrev sender_most : SenderPos → Option ℕ
sender_most SendWrite = Some 2
sender_most SendAdd = Some 2
sender_most SendTakeWaker = Some 1
sender_most SendFinal = Some 1
sender_most SendWake = Some 0
sender_most SendLateWake = Some 0
sender_most DropXor = Some 2
sender_most DropTakeWaker = Some 1
sender_most DropFinal = Some 1
sender_most DropWake = Some 0
sender_most DropLateWake = Some 0
sender_most SenderFree = Some 0
sender_most _ = None

-- of the receiver's calls that never wait
abbrev receiver_most : ReceiverPos → Option ℕ
receiver_most (Try TryLoad) = Some 2
receiver_most (Try Close) = Some 1
receiver_most (Try Take) = Some 0
receiver_most (Future PollLoad) = Some 4
receiver_most (Future PollCopy) = Some 2
receiver_most (Future PollWrite) = Some 2
receiver_most (Future PollExchange) = Some 2
receiver_most (Future PollBackFull) = Some 1
receiver_most (Future PollBackClosed) = Some 0
receiver_most (Future AgainCopy) = Some 3
receiver_most (Future AgainExchange) = Some 3
receiver_most (Future AgainBack) = Some 2
receiver_most (Future PollOwn) = Some 0
receiver_most (Future AsyncTryLoad) = Some 2
receiver_most (AsyncDrop AsyncLoad) = Some 3
receiver_most (AsyncDrop AsyncExchange) = Some 2
receiver_most (AsyncDrop AsyncBack) = Some 1
receiver_most (AsyncDrop AsyncSwap) = Some 1
receiver_most (Drop DropSwap) = Some 1
receiver_most (Drop DropMessage) = Some 0
receiver_most (Drop DropFree) = Some 0
receiver_most _ = None

-- each row pays for its step
sender_pays : (p : SenderPos) → pays sender_step sender_rows sender_most p ≡ true
sender_pays SendWrite = refl
sender_pays _ = refl

receiver_pays : (p : ReceiverPos) → pays receiver_step receiver_rows receiver_most p ≡ true
receiver_pays (Try TryLoad) = refl
receiver_pays (Future PollLoad) = refl
receiver_pays (AsyncDrop AsyncLoad) = refl
receiver_pays (Drop DropMessage) = refl
receiver_pays _ = refl

module _ {T W : Type 0} {reply : Reply} where
  -- the operations of a run
  sender_makes_few : (p : SenderPos) (limit : ℕ) → sender_most p ≡ Some limit
      → (xs : List (Event T W)) → Run sender_step sender_row p xs reply → length (words xs) ≤ limit
  sender_makes_few p limit is xs run =
      at_most sender_step sender_rows sender_most sender_pays p xs reply limit is run

  receiver_makes_few : (p : ReceiverPos) (limit : ℕ) → receiver_most p ≡ Some limit
      → (xs : List (Event T W)) → Run receiver_step receiver_row p xs reply → length (words xs) ≤ limit
  receiver_makes_few p limit is xs run =
      at_most receiver_step receiver_rows receiver_most receiver_pays p xs reply limit is run

  -- the operations of each call
  pub try_recv_makes : (xs : List (Event T W)) → Run receiver_step receiver_row (receiver_start C.TryRecv) xs reply
      → length (words xs) ≤ 2
  try_recv_makes = receiver_makes_few (Try TryLoad) 2 refl

  pub poll_makes : (xs : List (Event T W)) → Run receiver_step receiver_row (receiver_start C.Poll) xs reply
      → length (words xs) ≤ 4
  poll_makes = receiver_makes_few (Future PollLoad) 4 refl

  pub async_try_recv_makes : (xs : List (Event T W))
      → Run receiver_step receiver_row (receiver_start C.AsyncTryRecv) xs reply → length (words xs) ≤ 2
  async_try_recv_makes = receiver_makes_few (Future AsyncTryLoad) 2 refl

  module _ {given got : List T} {before after : Log T W} where
    -- and of the ground that ran it
    ran_few : {P : Type 0} {step : P → Step} {row : P → Seen → Option (Outcome P)} {from : P}
        {limit : ℕ} → ((xs : List (Event T W)) → Run step row from xs reply → length (words xs) ≤ limit)
        → Ran step row from before after reply given got → MakesWithin (Some limit) before after
    ran_few makes ran =
        record { added = words ran.run; list = words_after ran.run ran.grows; few = makes ran.run ran.is_run }

    pub send_few : SenderRan S.Send before after reply given got → MakesWithin (sender_bound S.Send) before after
    send_few ran = ran_few (sender_makes_few SendWrite 2 refl) ran

    pub drop_few : SenderRan S.Drop before after reply given got → MakesWithin (sender_bound S.Drop) before after
    drop_few ran = ran_few (sender_makes_few DropXor 2 refl) ran

    pub try_recv_few : ReceiverRan C.TryRecv before after reply given got
        → MakesWithin (receiver_bound C.TryRecv) before after
    try_recv_few ran = ran_few try_recv_makes ran

    pub async_try_recv_few : ReceiverRan C.AsyncTryRecv before after reply given got
        → MakesWithin (receiver_bound C.AsyncTryRecv) before after
    async_try_recv_few ran = ran_few async_try_recv_makes ran

    pub poll_few : ReceiverRan C.Poll before after reply given got → MakesWithin (receiver_bound C.Poll) before after
    poll_few ran = ran_few poll_makes ran

    pub drop_receiver_few : ReceiverRan C.Drop before after reply given got
        → MakesWithin (receiver_bound C.Drop) before after
    drop_receiver_few ran = ran_few (receiver_makes_few (Drop DropSwap) 1 refl) ran

    pub drop_async_few : ReceiverRan C.DropAsync before after reply given got
        → MakesWithin (receiver_bound C.DropAsync) before after
    drop_async_few ran = ran_few (receiver_makes_few (AsyncDrop AsyncLoad) 3 refl) ran
