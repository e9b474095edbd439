-- Proofs of a watch. `Gone` has the one idea: a pending poll is not disconnected, so a watch that was ready stays so.
pub mod Gone
