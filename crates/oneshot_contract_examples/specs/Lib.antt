-- Worked examples of the definitions by which the contracts of the channel are stated, and counterexamples of each.
-- A definition that accepts too much could let every proof above it pass. A counterexample here then fails.
-- `RunExamples` and `StateExamples` hold the idea. `RunExamples` writes down logs and runs of an end, and some that no
-- end has. `StateExamples` writes down states of the shared table, and some that have no row.
-- The files stand in the order of the crates whose definitions they read:
-- `oneshot_machine`: `ExactExamples`, `RunExamples`, `FutureExamples`, `CountExamples`, `LogExamples`, `RowExamples`,
-- `OverExamples` and `OrderExamples`.
-- `oneshot_word`: `StateExamples`, `ReadExamples`, `SeatExamples`, `SideExamples`, `ReceivedExamples` and
-- `OneOrderExamples`.
-- `oneshot_drive`: `DriverExamples`. `oneshot_ends`: `EndExamples`, `OwnExamples`, `TakenExamples`,
-- `EndedExamples` and `TokenExamples`.
-- docs/COVERAGE.md lists the definitions that no example reaches, and why.
-- `ExampleLogs` has the logs that several of them are about.
pub mod ExampleLogs
pub mod ExactExamples
pub mod RunExamples
pub mod FutureExamples
pub mod CountExamples
pub mod LogExamples
pub mod RowExamples
pub mod OverExamples
pub mod OrderExamples
pub mod StateExamples
pub mod ReadExamples
pub mod SeatExamples
pub mod SideExamples
pub mod ReceivedExamples
pub mod OneOrderExamples
pub mod DriverExamples
pub mod EndExamples
pub mod OwnExamples
pub mod TakenExamples
pub mod EndedExamples
pub mod TokenExamples
