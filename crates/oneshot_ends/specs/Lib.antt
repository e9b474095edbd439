-- What contracts of the ends state: what a program sees of an end, and what the ground of a real end shows.
-- `Ends` and `Grounds` hold the idea. `Ends` is what public contracts see: an end's channel and its log, to which each
-- call appends the operations of one run of its table. `Grounds` shows an end's side of the shared table as the state
-- of a ground, so that what the drivers prove of any ground holds of real ends.
-- Of these files the contracts of the public calls name `Ends` and `Taken` alone. `Taken` states which message a
-- receiver took. `Ends` takes `IsCopyFor` from `OwnWakers`. Read beneath them:
-- 1. The grounds: `Grounds`, and for a poll `Polling` and `Copies`. `Keeps` states what a receiver's ground keeps from
-- step to step (`Stays` has lemmas about this), and `Invariants` what always holds between two calls.
-- 2. The wakers: `Tokens` is the rule of a parker's token, `Woken` states what a used waker leaves behind, and
-- `OwnWakers` whose wakers a receiver gives.
-- 3. The laws of both ends together: `Moments` defines a moment at which both are seen, and `NoLostWakeup` states the
-- law.
-- 4. The wait: `Deadlines` states when a deadline is over, and what a receive with a timeout appends to the log.
-- `Patience` states how long a receive spins and sleeps. `PatienceExamples` and `DeadlineExamples` have
-- examples of types that no other crate can name.
pub mod Grounds
pub mod Polling
pub mod Copies
pub mod Ends
pub mod Deadlines
pub mod Taken
pub mod Tokens
pub mod Woken
pub mod OwnWakers
pub mod Moments
pub mod NoLostWakeup
pub mod Patience
pub mod PatienceExamples
pub mod DeadlineExamples
pub mod Keeps
pub mod Stays
pub mod Invariants
-- the definitions of the crates beneath that the contracts of `oneshot_reply` name
pub use Rattle.oneshot_drive.specs.BetweenCalls
pub use Rattle.oneshot_machine.specs.Called
pub use Rattle.oneshot_machine.specs.Counts
pub use Rattle.oneshot_machine.specs.Phases
pub use Rattle.oneshot_machine.specs.declared.machine.receiver.ReceiverStart
