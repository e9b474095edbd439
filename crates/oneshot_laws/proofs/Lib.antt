-- Proofs that every run keeps each law: first the readers of traces, then one noun of `specs/` after the other.
-- `Product` and `ProductRuns` hold the idea. A law has a reader, a deterministic automaton that goes through a trace
-- entry by entry. `Product` explores the reader together with the model's world, and the checker computes that it
-- accepts each move. `ProductRuns` proves that the reader then accepts every run. In the field's terms the reader is a
-- monitor, and the search is of a product automaton.
-- Read `Coding` and `Fresh` before them: numbers for the values that the search compares, and the names of new copies.
-- The history comes first, since other laws read its object. `HistoryReader` is its reader, and `HistoryOwed`,
-- `HistoryEntries`, `HistoryCalls` and `HistoryAccepted` prove that what it accepts is linearizable. `HistoryRuns`
-- concludes.
-- `PastViews` and `PastLaws` let a law read marks that only look back, beside the reader of histories. `MarksAfterEach`
-- has laws of the form "after such a mark every later one is so".
-- Each other file proves laws of one file of `specs/`, and most begin with its name. `WakerPaths` and `WakerCellRuns`
-- belong to `WakerPlaces`, `LastPollRead` to `Unwoken`, and `Budgets` to `Bounds`.
-- `TogetherPlaces` and `TogetherReplies` explore many laws in one search. A law that some reachable state breaks makes
-- the goal false there. `Names` re-exports what the proofs cite.
pub mod Coding
pub mod Fresh
pub mod Product
pub mod ProductRuns
pub mod HistoryReader
pub mod PastViews
pub mod HistoryOwed
pub mod HistoryEntries
pub mod HistoryCalls
pub mod HistoryAccepted
pub mod HistoryRuns
pub mod PastLaws
pub mod MarksAfterEach
pub mod EndedRuns
pub mod IdleRuns
pub mod MessagePlacesRuns
pub mod MessagePlacesPut
pub mod MessagePlacesThere
pub mod WakerPaths
pub mod WakerPlacesRuns
pub mod WakerCellRuns
pub mod LastPollRead
pub mod UnwokenTasks
pub mod UnwokenParks
pub mod UnwokenRuns
pub mod HoldersRuns
pub mod RepliesAfterwards
pub mod RepliesNextReceive
pub mod RepliesNothingYet
pub mod RepliesDroppedOnce
pub mod AloneRuns
pub mod Budgets
pub mod BoundsRuns
pub mod BoundsSoon
pub mod TogetherPlaces
pub mod TogetherReplies
pub mod Names
