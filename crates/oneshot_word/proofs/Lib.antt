-- Proofs that each operation of either end keeps the rule of the shared table, and of what the rule implies.
-- `RuleImplies` and `RuleKept` hold the idea. `RuleImplies` lists the word for each pair of phases that may come
-- together. `RuleKept` computes for each such pair and each row of the phases' table that the rule holds after the
-- operation too.
-- `WordsEqual` and `LastOnes` have lemmas on words and lists.
-- 1. One operation keeps the rule. `FoundRow` finds an operation's row. `SlotMoves` follows a slot between the table
-- and a seat. `KeptRows` tests a row, and `RuleKept` computes the tests. `LogsShow` reads one more operation off a log.
-- `Between` goes through an order of both logs, operation by operation.
-- 2. What passes. `WakerPasses` and `MessagePasses` follow a waker and the message from one end to the other.
-- 3. The functions. `SeatShows` and `SlotReads` relate a seat to the rule. `EachStep` proves the operations,
-- `SlotTrades` the exchanges of a slot, and `TableOpens` a new table with its two seats.
-- 4. The laws. `RuleRead`, `RuleKeeps` and `RuleReceives` state what the rule implies. `ByRows` and `OneOrder` prove
-- that logs have only one order.
-- `SidePartsSend` and `MadeSides` serve the proofs by hand of `Send` and `Sync`. `Names` re-exports what the proofs
-- cite.
pub mod WordsEqual
pub mod RuleImplies
pub mod LogsShow
pub mod FoundRow
pub mod WakerPasses
pub mod SlotMoves
pub mod KeptRows
pub mod RuleKept
pub mod Between
pub mod LastOnes
pub mod ByRows
pub mod OneOrder
pub mod SeatShows
pub mod EachStep
pub mod TableOpens
pub mod SlotReads
pub mod SlotTrades
pub mod RuleRead
pub mod RuleKeeps
pub mod RuleReceives
pub mod MessagePasses
mod SidePartsSend
mod MadeSides
pub mod Names
