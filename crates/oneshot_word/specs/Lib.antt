-- The shared word and its two slots, as a table of `atomic_table`: the table's invariant, and what each end knows of
-- it.
-- `Rule` and `Side` hold the idea. `Rule` is the invariant (`Tied`): the logs of both ends have an order, each slot is
-- where both phases put it, and what an end took is what the other gave. `Side` is what contracts see of an end: its
-- log and its slots, the operations that it may perform (`SenderCan`, `ReceiverCan`), and what each did (`SenderDid`,
-- `ReceiverDid`).
-- The files stand in the order in which to read them.
-- `EndLogs` reads one log by itself. `Seats` states what a seat knows and carries, before an operation and after it.
-- `ReadRule`, `Ordered`, `OneOrder`, `Promised` and `Received` state what the rule implies. None of them is part of the
-- rule.
-- `Plays` states what each operation notes in its seat. Review these seven notes: the rule reads logs alone, and no
-- proof compares a log with the words that were really found.
pub mod EndLogs
pub mod Seats
pub mod Rule
pub mod ReadRule
pub mod Ordered
pub mod OneOrder
pub mod Promised
pub mod Received
pub mod Side
pub mod Plays
