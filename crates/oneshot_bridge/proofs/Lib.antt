-- The bridge, proved. Read `specs/Lib.antt` first: it has the statements, in their order.
-- `Interleaves` and `PhasesBeside` hold the two ideas. `Interleaves` has the induction of a forward simulation.
-- `PhasesBeside` has the checker search a product automaton. The proofs have five parts.
-- 1. Two walks and an order make a run. `Seen` shows that a step sees in a world what it saw in the walk. `Turns` makes
-- a turn of a world by a row. `Replied` reads the replies of a trace that grows. `Worlds` defines the simulation
-- relation (`Got`), and makes one move of the model for each step of a walk. `Interleaves` follows the order.
-- `StatesRun` concludes.
-- 2. Each log is a walk's. `SenderScripted` writes down the walk of each log of the sender. `ReceiverStands` and
-- `Standpoints` state where a receiver's walk is, whichever calls follow: at a *standpoint*, a position of its table
-- with whether it has become a future. `ReceiverScripted` shows that a row which passes a test leads on as a walk does.
-- `RowsChangeSlots` finds a row for each operation of a log. `ReceiverLogs` computes that every row passes, and follows
-- the log. `Among` has lemmas on lists.
-- 3. What each run with both logs has. `PhaseCodes`, `PhasesBeside` and `PhasesRead` find its phases, and `CellsRun`
-- its cells, by the search of the product. The search compares phases by their *codes*: each phase has a number.
-- `RunOrder` finds the order of its operations.
-- 4. The program's own calls. `CallsWalk` continues a walk by the run of one call. `ReceiverCalls` and `SenderCalls` do
-- so for all calls of an end. `CallsRun` joins both ends, and `Joined` adds the slots and the message.
-- 5. What the laws of the model then state. `OneReceive` reads it off a trace, and `Given` and `Woken` state it of both
-- ends.
-- `Examples`, `CellExamples`, `CallExamples` and `RunExamples` prove the examples. `Names` re-exports names that proofs
-- cite.
-- Each folder is named for a function of `src/lib.rt`. Its `Answers` names the lemma that is the law.
pub mod PhaseCodes
pub mod PhasesBeside
pub mod PhasesRead
pub mod CellsRun
pub mod Interleaves
pub mod Seen
pub mod Replied
pub mod Turns
pub mod Worlds
pub mod SenderScripted
pub mod ReceiverStands
pub mod Standpoints
pub mod Among
pub mod ReceiverScripted
pub mod RowsChangeSlots
pub mod ReceiverLogs
pub mod StatesRun
pub mod RunOrder
pub mod OneReceive
pub mod Given
pub mod Woken
pub mod CallsWalk
pub mod ReceiverCalls
pub mod SenderCalls
pub mod CallsRun
pub mod Joined
pub mod Examples
pub mod CellExamples
pub mod CallExamples
pub mod RunExamples
pub mod Names
