-- Proofs that each driver makes one run of its call's table, over any ground.
-- `AfterOperations` and `Stretches` hold the idea. `AfterOperations` finds the word that an operation may find at a
-- phase, and the phase after it, by the rows of the phases' table. `Stretches` joins the parts of a run: each function
-- of a driver makes a stretch of steps from one position to another, and the last one makes a reply.
-- The lemmas stand in files by call, in this order:
-- The sender: `SenderCalls` proves what each call requires of its ground, `EndsOver` that its end is over afterwards,
-- and `SenderRuns` that its steps are a run.
-- Receives that never block: `RestLoads` for `try_recv`, `LastSwap` for both drops.
-- Receives that block: `StoredWaker` proves their steps up to the wait, `Waits` the wait, `Receives` the steps after
-- it, and `Endless` that one without an end never runs out.
-- `LeftPhases` leads from the run of a receiver's or a future's call to the phase after it, and `LeftReceivers` from
-- there to whether it is open or closed. No driver states these. The proofs of the ends cite both.
-- Futures: `PollLoads` proves the load of a poll, `LeftCopies` how it leaves a copy of its waker, and `OwnCopies` that
-- it writes no other. `TriedFutures` and `DroppedFutures` prove the other two calls.
-- `Names` re-exports what the proofs use. The folders follow the files and functions of `src/`: `sender/send` proves
-- what is left of `send`.
pub mod AfterOperations
pub mod Stretches
pub mod SenderCalls
pub mod EndsOver
pub mod SenderRuns
pub mod RestLoads
pub mod LastSwap
pub mod StoredWaker
pub mod Waits
pub mod Receives
pub mod Endless
pub mod LeftPhases
pub mod LeftReceivers
pub mod PollLoads
pub mod TriedFutures
pub mod LeftCopies
pub mod DroppedFutures
pub mod OwnCopies
pub mod Names
