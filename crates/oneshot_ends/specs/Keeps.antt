-- What the ground of a receiver keeps from step to step: its own, one lent to a call that blocks, one lent to a poll.
use Rattle.std.specs.Prelude.{◌≡◌, ◌≤◌, ℕ, true}
use Rattle.atomic_table.specs.Seated.{TableId}
use Rattle.futures.specs.Task.{Keeps}
use Rattle.futures.specs.declared.task.context.Context.{Context}
use Rattle.oneshot_word.specs.Side.{Side}
use Rattle.oneshot_ends.specs.OwnWakers.{RealWaker, WaitsByNoThread, WaitsByHalvesOf, WaitsForTask, WaitsByThis}
use Rattle.oneshot_ends.specs.declared.patience.Patience.{Patience}
use Rattle.oneshot_ends.specs.Tokens.{ParkingView}
use Rattle.oneshot_ends.specs.Taken.{KeepsTaken}

module _ {T P : Type 0} where
  -- The channel stays about the same value, the receiver's wakers stay its own parker's, or no thread's, or copies for
  -- its task, or the one that it gave, a message that was taken is still the one, and the log still shows whether one
  -- was taken.
  pub record KeepsOwn (before after : Side T RealWaker P) : Type 0 where
    pub about : after.about ≡ before.about
    pub halves : (parker : TableId) → WaitsByHalvesOf parker before → WaitsByHalvesOf parker after
    pub no_thread : WaitsByNoThread before → WaitsByNoThread after
    pub copies : (cx : Context) → WaitsForTask cx before → WaitsForTask cx after
    pub same : (k : RealWaker) → WaitsByThis k before → WaitsByThis k after
    pub taken : KeepsTaken before.passed after.passed before.log after.log

  -- The same, where the wakers are those of the parker that was lent too. The deadline stays, no spin is uncounted, and
  -- a token that was taken stays taken.
  pub record KeepsLent (before after : Side T RealWaker P) (patience waits : Patience)
      (half next : ParkingView) : Type 0 where
    pub about : after.about ≡ before.about
    pub deadline : waits.deadline ≡ patience.deadline
    pub spins : patience.spins ≤ waits.spins
    pub token : half.taken ≡ true → next.taken ≡ true
    pub parker : next.parker ≡ half.parker
    pub halves : WaitsByHalvesOf half.parker before → WaitsByHalvesOf next.parker after
    pub taken : KeepsTaken before.passed after.passed before.log after.log

  -- The same, where the wakers are no thread's; and what the task has registered stays registered.
  pub record KeepsPolled (before after : Side T RealWaker P) (cx polled : Context) (id still : ℕ) : Type 0
    where
      pub task : Keeps cx polled
      pub source : id ≡ still
      pub about : after.about ≡ before.about
      pub no_thread : WaitsByNoThread before → WaitsByNoThread after
      pub taken : KeepsTaken before.passed after.passed before.log after.log
