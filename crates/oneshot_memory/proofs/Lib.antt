-- Proofs that the grounds in memory keep the contracts of their traits.
-- `Memory` holds the idea: for each phase, each memory and each operation, the checker computes that the operation
-- finds what the phases' table has, and that the memory matches the next phase.
-- `Events` proves how a log grows by one event.
-- `SenderMatches` and `ReceiverMatches` apply both to each step of the two grounds, and to what their other end does.
-- The folders follow the files and functions of `src/`.
pub mod Events
pub mod Memory
pub mod SenderMatches
pub mod ReceiverMatches
