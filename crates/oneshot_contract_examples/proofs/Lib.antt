-- The proofs of the examples of `specs/`, most of which the checker computes.
-- `ComputedRuns` and `RowExamples` hold the ideas. `ComputedRuns` proves a run of known steps: the rows compute its
-- positions. `RowExamples` refuses a counterexample by a test that every row of the table passes, and that the
-- counterexample does not.
-- Each other file proves the examples of the file of `specs/` with its name. `NoRunExamples` has those of `RunExamples`
-- that are no runs, and `GroundExamples` those of `DriverExamples` on grounds and wakers.
-- The folders follow the functions of `src/`, each of which states the examples of one crate.
pub mod RunExamples
pub mod NoRunExamples
pub mod FutureExamples
pub mod CountExamples
pub mod OrderExamples
pub mod OneOrderExamples
pub mod LogExamples
pub mod RowExamples
pub mod ExactExamples
pub mod OverExamples
pub mod StateExamples
pub mod SeatExamples
pub mod SideExamples
pub mod ReadExamples
pub mod DriverExamples
pub mod GroundExamples
pub mod EndExamples
pub mod OwnExamples
pub mod TakenExamples
pub mod EndedExamples
pub mod TokenExamples
pub mod ReceivedExamples
pub mod ComputedRuns
