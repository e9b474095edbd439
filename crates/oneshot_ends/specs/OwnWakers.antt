-- Whose wakers a receiver gives: one that blocks gives the waking half of its own parker, a future a copy for the task
-- that polled.
use Rattle.std.specs.Prelude.{◌≡◌, ◌⊎◌, ⊤, Bool, true, false, Option, Some, IfSome}
use Rattle.atomic_table.specs.Seated.{TableId}
use Rattle.futures.specs.Task.{Wakes}
use Rattle.futures.specs.declared.task.context.Context.{Context}
use Rattle.futures.specs.declared.task.waker.Waker.{Waker}
use Rattle.oneshot_machine.specs.Phases.{ReceiverAt, waits, claimed, overdue, receiver_at}
use Rattle.oneshot_machine.specs.Slots.{held}
use Rattle.oneshot_word.specs.declared.any_waker.AnyWaker.{AnyWaker}
use Rattle.oneshot_word.specs.declared.any_waker.AnyWaker.TheVariants.{Thread, Task}
use Rattle.oneshot_word.specs.Side.{Side}
use Rattle.oneshot_ends.specs.declared.token.WakingHalf.{WakingHalf}

-- a waking half of this parker
abbrev pub IsHalfOf : {K : Type 0} → TableId → AnyWaker WakingHalf K → Type 0
IsHalfOf parker (Thread half) = half.pass.table_id ≡ parker
IsHalfOf parker _ = ⊥

-- a receiver that waits: it has given a waker, and has not learned yet that the sender is over
abbrev pub is_waiting : ReceiverAt → Bool
is_waiting (waits waiting) = true
is_waiting claimed = true
is_waiting overdue = true
is_waiting _ = false

-- the waker that was given last satisfies the predicate
abbrev pub Gave : {W : Type 0} → (W → Type 0) → Option W → Type 0
Gave {W} own given = (k : W) × (given ≡ Some k) × own k

-- A receiver whose wakers satisfy the predicate: the one in its slot, and while it waits the one that it gave last.
pub record WaitsBy {T W P : Type 0} (own : W → Type 0) (receiver : Side T W P) : Type 0 where
  pub slot : (k : W) → receiver.waker ≡ held k → own k
  pub gave : is_waiting (receiver_at receiver.log) ≡ true → Gave own receiver.handed

-- no thread's waker: a copy of a task's
abbrev pub IsNoThread : {K : Type 0} → AnyWaker WakingHalf K → Type 0
IsNoThread (Thread half) = ⊥
IsNoThread _ = ⊤

-- a future, whose wakers are no thread's
abbrev pub WaitsByNoThread : {T K P : Type 0} → Side T (AnyWaker WakingHalf K) P → Type 0
WaitsByNoThread = WaitsBy IsNoThread

-- the wakers of real ends
abbrev pub RealWaker : Type 0
RealWaker = AnyWaker WakingHalf Waker

-- A copy for the context's task: it has the numbers of this task and of its queue. If the context could make no waker
-- in this poll, this says nothing. By the source of `futures`, the context then has asked for the task to be polled
-- again.
abbrev pub IsCopyFor : Context → Waker → Type 0
IsCopyFor cx waker = (cx.lacks_waker ≡ true) ⊎ Wakes waker cx

-- a copy of a waker of the context's task
abbrev pub IsTaskOf : Context → RealWaker → Type 0
IsTaskOf cx (Task waker) = IsCopyFor cx waker
IsTaskOf cx _ = ⊥

-- a future whose wakers are copies for the context's task
abbrev pub WaitsForTask : {T P : Type 0} → Context → Side T RealWaker P → Type 0
WaitsForTask cx = WaitsBy (IsTaskOf cx)

-- a receiver that has no other waker than this one, and waits by no other
abbrev pub WaitsByThis : {T W P : Type 0} → W → Side T W P → Type 0
WaitsByThis k = WaitsBy (λ other. other ≡ k)

-- a receiver whose wakers are waking halves of this parker
abbrev pub WaitsByHalvesOf : {T K P : Type 0} → TableId → Side T (AnyWaker WakingHalf K) P → Type 0
WaitsByHalvesOf parker = WaitsBy (IsHalfOf parker)

-- What a call that blocks has: its wakers, with the one beside its slot, are waking halves of this parker.
abbrev pub BlockHas : {T K P : Type 0} → TableId → Side T (AnyWaker WakingHalf K) P → Option (AnyWaker WakingHalf K)
    → Type 0
BlockHas parker receiver hand = WaitsByHalvesOf parker receiver × IfSome hand (IsHalfOf parker)
