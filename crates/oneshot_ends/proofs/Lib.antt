-- Proofs of the contracts of the ends, from those of the drivers and of the shared table.
-- `GrewByRuns` and `NoLostWakeup` hold the ideas. `GrewByRuns` turns a driver's run on the ground of a real end into
-- operations appended to the end's own log. `NoLostWakeup` joins the rules of two tables: the shared table has one
-- waker in the views of both ends, and the parker's table has the token that this waker gives.
-- 1. One end's ground. `NewEnds` proves how it begins. `GroundSlots` and `EndRows` relate it to its end's side.
-- `LentGrounds` and `PollingTokens` prove the same of a ground that is lent to a call. `Over` proves that it may be
-- released.
-- 2. One call. `GrewByRuns` and `CallsAnswered` add its operations to the log. `EndViews` compares two views of one
-- end. `PolledEnds` and `TimeoutEnds` read its result.
-- 3. Messages. `Taken` proves that a log shows whether its receiver took the message, and `OpenTaken` that an open one
-- took none.
-- 4. Wakers. `Tokens` and `TokenLives` prove the rule of a token, `OwnWakers` and `TaskWakers` whose wakers a receiver
-- gives. `Owes` and `FoundWaiting` prove which waker a sender took. `NoLostWakeup` concludes.
-- `PatienceExamples` and `DeadlineExamples` compute the examples. The folders follow the files and functions of `src/`.
mod EndViews
pub mod OwnWakers
pub mod NoLostWakeup
mod FoundWaiting
mod Owes
pub mod GrewByRuns
mod EndRows
mod Over
mod GroundSlots
mod NewEnds
mod LentGrounds
pub mod Taken
mod OpenTaken
pub mod TimeoutEnds
mod PollingTokens
mod PolledEnds
mod TaskWakers
pub mod CallsAnswered
pub mod Tokens
pub mod TokenLives
mod PatienceExamples
mod DeadlineExamples
