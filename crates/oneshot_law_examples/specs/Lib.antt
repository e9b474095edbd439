-- What each definition of `oneshot_laws` computes for worked traces, and for the same traces damaged.
-- A law that accepts every trace would be proved too. The damaged traces show that each law refuses something.
-- `Notation` and `LawExamples` hold the idea. `Notation` writes a trace entry by entry, and names the ways to damage
-- one. `LawExamples` lists traces that the laws accept, and damaged ones that each refuses.
-- `Traces` and `FutureTraces` have the worked traces, each with its two scripts and its schedule.
-- `HistoryExamples`, `LawExamples`, `WaitExamples`, `TimedExamples`, `WakerExamples`, `UnwokenExamples`,
-- `FutureExamples`, `TaskExamples` and `BoundExamples` hold the laws against them, in this order.
-- `RecordExamples` holds the record of all laws (`IsRight`) against them: each damaged trace fails one field.
-- `StepExamples` has a run that is stepped by hand.
pub mod Notation
pub mod Traces
pub mod HistoryExamples
pub mod LawExamples
pub mod WaitExamples
pub mod TimedExamples
pub mod WakerExamples
pub mod UnwokenExamples
pub mod FutureTraces
pub mod FutureExamples
pub mod TaskExamples
pub mod BoundExamples
pub mod RecordExamples
pub mod StepExamples
