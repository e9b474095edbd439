-- Proofs of the contracts of `src/command.rt`: the arguments that are read are those of exactly one command.
-- `Names` proves that a table finds each loop and each channel by its own name, and by no other.
-- `Asked` proves with this that two or three words ask for one command at most.
-- The folders have the invariants of the loops, which count the rounds.
pub mod Asked
pub mod Names
