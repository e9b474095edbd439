-- Proofs of the contracts of the callers in `src/callers`. docs/MODEL.md shows the contracts of some of them.
-- `Refused` computes the run of a `send` to a receiver that was dropped: its message is left in the error. The contract
-- of `refused` in `src/callers/rehearsal.rt` states this.
mod Refused
