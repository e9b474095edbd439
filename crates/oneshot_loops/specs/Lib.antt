-- What contracts of the loops state: which words a command has, and how often a round was made.
-- `Command` and `Rounds` hold the idea. `Command` states which arguments ask for which loop over which channel, with
-- which count. `Rounds` states that so many rounds led from one state to another.
-- `Channel` and `Loop` have the names that `Command` reads. `CommandFault` has the exit status of each fault.
-- `oneshot_program_tests` tests the loops themselves.
pub mod Channel
pub mod Command
pub mod CommandFault
pub mod Loop
pub mod Rounds
