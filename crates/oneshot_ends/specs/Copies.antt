-- Which task a future's copy of a waker belongs to.
use Rattle.std.specs.Prelude.{◌≡◌, ◌≢◌, ℕ, true, ◌⊎◌, Option, Some, None, IsSomeAnd, IfSome}
use Rattle.futures.specs.Task.{Wakes}
use Rattle.futures.specs.declared.task.context.Context.{Context}
use Rattle.futures.specs.declared.task.waker.Waker.{Waker}
use Rattle.oneshot_word.specs.Side.{Side}
use Rattle.oneshot_ends.specs.declared.copies.Copies.{Copies}
use Rattle.oneshot_ends.specs.OwnWakers.{RealWaker, IsCopyFor, WaitsForTask}

-- Beside the copy in hand is the number of the poll's task, and the copy has the numbers of this task and of its queue.
-- If the context could make no waker in this poll, only the number beside the copy is known.
abbrev pub HasMade : Context → Context → Copies Waker → Type 0
HasMade before after copies =
    IsSomeAnd copies.hand (λ copy. (copy.task ≡ before.turn.task)
    × ((after.lacks_waker ≡ true) ⊎ Wakes copy.waker before))

-- the copy in hand, if one is there, has another task's number
abbrev pub HasNoneOf : ℕ → Copies Waker → Type 0
HasNoneOf task copies = IfSome copies.hand (λ copy. copy.task ≢ task)

-- the copy in hand is one for the context's task
abbrev pub HasCopyFor : Context → Copies Waker → Type 0
HasCopyFor cx copies = IsSomeAnd copies.hand (λ copy. IsCopyFor cx copy.waker)

-- What a poll has: with a copy made, that copy in hand; with none, only copies for its task in the channel.
abbrev pub PollHas : {T P C : Type 0} → Context → Copies Waker → Side T RealWaker P → Option C → Type 0
PollHas cx copies side (Some _) = HasCopyFor cx copies
PollHas cx copies side None = WaitsForTask cx side
