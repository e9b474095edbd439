-- The bridge for values that a program holds: the log of a receiver, a future, a ticket or an error is that of a run.
-- `Values` holds the idea. `ReceiverRuns` states that some run of the model has the log of a receiver and makes exactly
-- its calls, whichever calls these were, and how many of them returned the message. `ErrorRuns` states the same of a
-- refused `send`. Neither has a premise: what they need is an invariant of the value.
-- The definitions of runs (`RunsCalls`, `IsOfARun`) are in `oneshot_bridge/specs`; the head of its `Lib` says how to
-- read them.
-- `Examples` has logs that the definitions accept, and logs that they refuse.
-- The other files are about both ends at one moment. `EndedSenders` and `LeftReceivers` state what is there for one end
-- once the other is over, `FirstFound` how a call replies by the word that its first operation finds, and `ToldEnds`
-- what the operations of a receiver tell of its sender. Their examples are in `oneshot_contract_examples`.
pub mod Values
pub mod Examples
pub mod EndedSenders
pub mod FirstFound
pub mod LeftReceivers
pub mod ToldEnds
