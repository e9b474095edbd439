-- The proof that each move of each run has its row, and leads to a world that a run reaches.
-- `ReachedMoves` and `CommutesTurns` hold the idea. `ReachedMoves` proves that each move from a reached world leads to
-- a reached one: `IsReached` is an inductive invariant of the model. `CommutesTurns` proves that a step does the same
-- by classes, so a finite set is enough.
-- `Bools`, `ExploreFound`, `Listed` and `ControlCodes` come first: what a test shows of all values that a search found.
-- `CommutesWakers` and `CommutesTurns` prove the law `turns_commute`.
-- `StateSteps` and `WorldTurns` take a turn apart into the parts of a step by a row.
-- `ScriptsLeft` and `ScriptsAnswered` prove that what is left of a script is a script.
-- `ReachedOpening` begins the induction over a run. `ReachedBegins`, `ReachedLeads` and `ReachedLeft` prove its step,
-- and `ReachedMoves` concludes.
-- `WorldDetermined` proves that a run is determined by its first world and its moves. `Names` re-exports what the
-- proofs cite.
pub mod Bools
pub mod ExploreFound
pub mod Listed
pub mod ControlCodes
pub mod CommutesWakers
pub mod CommutesTurns
pub mod StateSteps
pub mod ScriptsLeft
pub mod ReachedBegins
pub mod ReachedLeads
pub mod ReachedLeft
pub mod ReachedMoves
pub mod ReachedOpening
pub mod ScriptsAnswered
pub mod WorldTurns
pub mod WorldDetermined
pub mod Names
